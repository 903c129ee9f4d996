-- Whole runs: what two answers of one command leave alike.
use Rattle.std.proofs.Common.{◌≡◌, ◌⊎◌, inl, inr, ℕ, ◌-◌, ◌≤◌, ◌<◌, false, List, [], ◌∷◌, length, Option, Some, None, refl, sym, ap, subst, ◌∙◌, arith}
use Rattle.std.specs.Prelude.{OnErr, OnOk, is_some, Ok, Err, option_and_then, slice_get}
use Rattle.std.specs.FinMap.{get}
use Rattle.vm_ids.specs.Counting.{MapperCounts, no_counts}
use Rattle.vm_ids.specs.Held.{Segments}
use Rattle.vm_ids.specs.declared.command.Command.{Command}
use Rattle.vm_ids.specs.declared.command.Command.TheVariants as commands
use Rattle.vm_ids.specs.declared.refusal.Refusal.TheVariants as refusals
use Rattle.vm_ids.specs.declared.reply.Trouble.TheVariants as troubles
use Rattle.vm_model.specs.Machine.{Cache, Machine, Page, cache_named, cache_of, live_pages, pages_in}
use Rattle.vm_model.specs.PageForest.{PageForest, forest_shown}
use Rattle.vm_model.specs.Answering.{Answer, Answered, answer_of}
use Rattle.vm_model.specs.Asking.{pages_made}
use Rattle.vm_model.specs.Outcome.{Outcome, OutcomeAt}
use Rattle.vm_model.specs.Run.{AnswerIs, IsAnswered, Read, State, command_semantics}
use Rattle.vm_model.specs.Steps.{Chain, Step, line_answered}
use Rattle.vm_model.specs.Synchronised.{ArePushed, IsSynchronised}
use Rattle.vm_model.proofs.Parts.Lists.{numbered_place}
use Rattle.vm_model.proofs.Parts.Naming.{names_none}
use Rattle.gmi_calls.specs.Backing.{AreBacked, Backs}
use Rattle.gmi_calls.specs.Room.{AnswerWithin, IsFull, pages_needed}
use Rattle.gmi_calls.proofs.Backing.{backed_after}
use Rattle.gmi_calls.proofs.Opening.{same_list}
use Rattle.flat_mm.specs.TwoManagers.{AgreeUntilFull, AreOfOneScript, AreSame, AreSameUntilFull, IsAnsweredWithin, RunsOut, asks_manager, framed_semantics, frames_left, is_failure, start_over}
use Rattle.flat_mm.proofs.TwoManagers.Pushes.{AfterPushes, after_pushes, named_number}
use Rattle.flat_mm.proofs.TwoManagers.Rows.{RowIs, SameElsewhere, TakesAway, each_row, same_row}

-- One answer of one run

-- without a failure it is the machine's
machine_answer : (m : Machine) (f : Option PageForest) (c : Command) (h : Segments) (a : Answer) (next : Machine) (rises : MapperCounts) → is_failure a ≡ false → Outcome m f c h a next rises → answer_of m (forest_shown f m) c h ≡ record { answer = a; next = next }
machine_answer m f c h (Ok r) next rises e o = o
machine_answer m f c h (Err (troubles.Refused r)) next rises e o = o
machine_answer m f c h (Err (troubles.Mapper at)) next rises e o = absurd (cc e)
machine_answer m f c h (Err troubles.Memory) next rises e o = absurd (cc e)

-- What is known of it: the segments by which it is the machine's answer, and what they hold.
record GivenAnswer (m : Machine) (h : Segments) (c : Command) (a : Answer) (after : State) : Type 0 where
  pushed : AfterPushes m h after.segments
  forest : PageForest
  gives : answer_of m forest c pushed.now ≡ record { answer = a; next = after.machine }
  backed : AreBacked after.machine.caches pushed.now
  synchronised : IsSynchronised m (Some pushed.now) c a

answer_given : (s after : State) (h : Segments) (c : Command) (a : Answer) (pushes : List (ℕ × ℕ)) (rises : MapperCounts) → s.segments ≡ Some h → AreBacked s.machine.caches h → is_failure a ≡ false → AnswerIs s c a pushes rises after → GivenAnswer s.machine h c a after
answer_given s after h c a pushes rises told B e A =
    let P : AfterPushes s.machine h after.segments = after_pushes s.machine h s.segments after.segments pushes told B A.pushed in
    let outcome : Outcome s.machine s.forest c P.now a after.machine rises = subst (λ (o : Option Segments). OutcomeAt o s.machine s.forest c a after.machine rises) P.told A.outcome in
    record {
      pushed = P;
      forest = forest_shown s.forest s.machine;
      gives = machine_answer s.machine s.forest c P.now a after.machine rises e outcome;
      backed = backed_after s.machine after.machine s.forest c P.now a rises P.backed outcome;
      synchronised = subst (λ (o : Option Segments). IsSynchronised s.machine o c a) P.told A.synchronised;
    }

-- Segments of caches that were taken away

-- the segment holds what its cache has
held_all : (m : Machine) (h : Segments) (n seg : ℕ) (x : Cache) → AreBacked m.caches h → cache_of m n ≡ Some x → x.segment ≡ Some seg → ArePushed m (Some h) n 0 (pages_in (cache_of m n)) → get h.pages seg ≡ Some x.pages
held_all m h n seg x B there named pushed = K.there ∙ ap (λ (ps : List Page). Some ps) (same_list K.pages x.pages K.many same)
  where
    K : Backs h seg x
    K = B.backed n seg x there named

    same : (i : ℕ) → i < length K.pages → slice_get K.pages i ≡ slice_get x.pages i
    same i less =
        sym (ap (option_and_then (λ (ps : List Page). slice_get ps i)) K.there)
        ∙ pushed seg i (ap (option_and_then (λ (c : Cache). c.segment)) there ∙ named) (omega arith) (omega (arith, less, K.many, ap pages_in there))
        ∙ ap (option_and_then (λ (c : Cache). slice_get c.pages i)) there

taken_held : (m : Machine) (h : Segments) (c : Command) (a : Answer) (n seg : ℕ) (x : Cache) → TakesAway c a n → AreBacked m.caches h → cache_of m n ≡ Some x → x.segment ≡ Some seg → IsSynchronised m (Some h) c a → get h.pages seg ≡ Some x.pages
taken_held m h (commands.Destroy cache) (Ok r) n seg x takes B there named sync =
    held_all m h n seg x B there named (subst (λ (k : ℕ). ArePushed m (Some h) k 0 (pages_in (cache_of m k))) (sym takes) sync)
taken_held m h c a n seg x takes B there named sync = absurd takes

-- Two runs

-- What two states have in common, and that there is a frame for each live page.
record Alike (frames : ℕ) (s t : State) : Type 0 where
  held : Segments
  held_too : Segments
  told : s.segments ≡ Some held
  told_too : t.segments ≡ Some held_too
  machine : t.machine ≡ s.machine
  backed : AreBacked s.machine.caches held
  backed_too : AreBacked s.machine.caches held_too
  same : SameElsewhere s.machine held held_too
  frames_are : s.machine.frames ≡ frames
  enough : live_pages s.machine ≤ frames

module _ (m : Machine) (h g : Segments) (c : Command) (a b : Answer) (s t : State) (S : SameElsewhere m h g) (P : GivenAnswer m h c a s) (Q : GivenAnswer m g c b t) (plain : asks_manager (Ok c) ≡ false) where
  -- after the pushes
  elsewhere : SameElsewhere m P.pushed.now Q.pushed.now
  elsewhere = record {
    denied = Q.pushed.denied ∙ S.denied ∙ sym P.pushed.denied;
    others = λ seg free. Q.pushed.others seg free ∙ S.others seg free ∙ sym (P.pushed.others seg free);
  }

  both_given : ◌≡◌ {A = Answered} (record { answer = b; next = t.machine }) (record { answer = a; next = s.machine })
  both_given = sym Q.gives ∙ same_row m P.pushed.now Q.pushed.now elsewhere P.forest Q.forest c plain ∙ P.gives

  same_answer : b ≡ a
  same_answer = ap (λ (x : Answered). x.answer) both_given

  row_is : RowIs m c (record { answer = a; next = s.machine })
  row_is = subst (RowIs m c) P.gives (each_row m P.forest c P.pushed.now)

  still_elsewhere : (seg : ℕ) → is_some (cache_named s.machine.caches seg) ≡ false → get Q.pushed.now.pages seg ≡ get P.pushed.now.pages seg
  still_elsewhere seg free = by (cache_named m.caches seg) refl
    where
      by : (o : Option Cache) → cache_named m.caches seg ≡ o → get Q.pushed.now.pages seg ≡ get P.pushed.now.pages seg
      by None e = elsewhere.others seg (ap is_some e)
      by (Some x) e =
          let n = named_number seg m.caches x e in
          elim (row_is.named n.0 seg (ap (option_and_then (λ (c : Cache). c.segment)) n.1 ∙ n.2)) [
            | inl there ↦ absurd (names_none s.machine n.0 seg free there)
            | inr takes ↦
                taken_held m Q.pushed.now c a n.0 seg x takes Q.pushed.backed n.1 n.2 (subst (IsSynchronised m (Some Q.pushed.now) c) same_answer Q.synchronised)
                ∙ sym (taken_held m P.pushed.now c a n.0 seg x takes P.pushed.backed n.1 n.2 P.synchronised)
          ]

  still_alike : (frames : ℕ) → m.frames ≡ frames → live_pages s.machine ≤ frames → Alike frames s t
  still_alike frames are enough = record {
    frames_are = row_is.frames ∙ are;
    held = P.pushed.now;
    held_too = Q.pushed.now;
    told = P.pushed.told;
    told_too = Q.pushed.told;
    machine = ap (λ (x : Answered). x.next) both_given;
    backed = P.backed;
    backed_too = subst (λ (x : Machine). AreBacked x.caches Q.pushed.now) (ap (λ (x : Answered). x.next) both_given) Q.backed;
    same = record { denied = elsewhere.denied; others = still_elsewhere };
    enough = enough;
  }

-- Room

needed_is : (m : Machine) (c : Command) (next : Machine) → asks_manager (Ok c) ≡ false → pages_needed m c next ≡ pages_made m next
needed_is m (commands.Invalidate extent) next plain = absurd (cc plain)
needed_is m c next plain = refl

-- where the pages that are needed have room there is a frame for each live page, and else not
enough_frames : (frames live next : ℕ) → live ≤ frames → next - live ≤ frames - live → next ≤ frames
enough_frames frames live next h few = omega arith

too_few_frames : (frames live next : ℕ) → frames - live < next - live → frames < next
too_few_frames frames live next more = omega arith

-- an answer within so much room
within : (room : ℕ) (t u : State) (c : Command) (b : Answer) (pushes : List (ℕ × ℕ)) (rises : MapperCounts) → AnswerWithin (Some room) t c b pushes rises u
    → ((b ≡ Err (troubles.Refused refusals.Full)) × IsFull room t c pushes u) ⊎ (AnswerIs t c b pushes rises u × OnOk b (pages_needed t.machine c u.machine ≤ room))
within room t u c (Ok r) pushes rises w = inr (w.0, w.1)
within room t u c (Err (troubles.Refused refusals.Full)) pushes rises w = inl (refl, w)
within room t u c (Err e) pushes rises w = inr (w, tt)

module _ (frames : ℕ) (s t v u : State) (c : Command) (a b : Answer) (A : Alike frames s t) (plain : asks_manager (Ok c) ≡ false) (P : GivenAnswer s.machine A.held c a v) where
  abbrev room : ℕ
  room = frames_left s.machine

  after_row : RowIs s.machine c (record { answer = a; next = v.machine })
  after_row = subst (RowIs s.machine c) P.gives (each_row s.machine P.forest c P.pushed.now)

  -- refused for want of room
  runs_out : (pushes : List (ℕ × ℕ)) → b ≡ Err (troubles.Refused refusals.Full) → IsFull room (record t { machine = s.machine }) c pushes u → RunsOut frames b v
  runs_out pushes full F = record { full = full; more = subst (λ (x : Machine). frames < live_pages x) is (omega (arith, A.frames_are, too_few_frames s.machine.frames (live_pages s.machine) (live_pages F.next) more)) }
    where
      told : u.segments ≡ Some A.held_too
      told = ap (λ (x : State). x.segments) F.same ∙ A.told_too

      outcome : answer_of s.machine (forest_shown t.forest s.machine) c A.held_too ≡ record { answer = Ok F.reply; next = F.next }
      outcome = subst (λ (o : Option Segments). OutcomeAt o s.machine t.forest c (Ok F.reply) F.next no_counts) told F.outcome

      elsewhere_now : SameElsewhere s.machine P.pushed.now A.held_too
      elsewhere_now = record {
        denied = A.same.denied ∙ sym P.pushed.denied;
        others = λ seg free. A.same.others seg free ∙ sym (P.pushed.others seg free);
      }

      is : F.next ≡ v.machine
      is = ap (λ (x : Answered). x.next) (sym outcome ∙ same_row s.machine P.pushed.now A.held_too elsewhere_now P.forest (forest_shown t.forest s.machine) c plain ∙ P.gives)

      more : room < live_pages F.next - live_pages s.machine
      more = subst (λ (n : ℕ). room < n) (needed_is s.machine c F.next plain) F.more

  -- a frame for each page that is alive after the answer
  enough_after : (d : Answer) → d ≡ a → OnOk d (pages_needed s.machine c v.machine ≤ room) → OnErr d (v.machine ≡ s.machine) → live_pages v.machine ≤ frames
  enough_after (Ok r) is needs stays = omega (arith, A.frames_are, enough_frames s.machine.frames (live_pages s.machine) (live_pages v.machine) (omega (arith, A.enough, A.frames_are)) (subst (λ (n : ℕ). n ≤ room) (needed_is s.machine c v.machine plain) needs))
  enough_after (Err e) is needs stays = subst (λ (x : Machine). live_pages x ≤ frames) (sym stays) A.enough

  answers_same : (pushes : List (ℕ × ℕ)) (rises : MapperCounts) → is_failure b ≡ false → AnswerIs (record t { machine = s.machine }) c b pushes rises u → OnOk b (pages_needed s.machine c u.machine ≤ room)
      → AreSame frames a b v u × Alike frames v u
  answers_same pushes rises done is needs =
      (record { answer = same; machine = machine; enough = enough }, still_alike s.machine A.held A.held_too c a b v u A.same P Q plain frames A.frames_are enough)
    where
      Q : GivenAnswer s.machine A.held_too c b u
      Q = answer_given (record t { machine = s.machine }) u A.held_too c b pushes rises A.told_too A.backed_too done is

      same : b ≡ a
      same = same_answer s.machine A.held A.held_too c a b v u A.same P Q plain

      machine : u.machine ≡ v.machine
      machine = ap (λ (x : Answered). x.next) (both_given s.machine A.held A.held_too c a b v u A.same P Q plain)

      enough : live_pages v.machine ≤ frames
      enough = enough_after b same (subst (λ (x : Machine). OnOk b (pages_needed s.machine c x ≤ room)) machine needs) (subst (λ (x : Answer). OnErr x (v.machine ≡ s.machine)) (sym same) after_row.refused)

-- One line in both runs

at_line : (frames : ℕ) (s t v u : State) (read : Read) (a b : Answer) (rises others : MapperCounts) → Alike frames s t → asks_manager read ≡ false → is_failure a ≡ false → is_failure b ≡ false → IsAnswered s read a rises v → IsAnsweredWithin t read b others u
    → RunsOut frames b v ⊎ (AreSame frames a b v u × Alike frames v u)
at_line frames s t v u (Err r) a b rises others A plain done done_too x y =
    let still : Alike frames v u = subst (λ (z : State). Alike frames z u) (sym x.1.same) (subst (Alike frames s) (sym y.1.same) A) in
    inr (record { answer = y.1.refused ∙ sym x.1.refused; machine = still.machine; enough = still.enough }, still)
at_line frames s t v u (Ok c) a b rises others A plain done done_too x y =
    elim (within (frames_left s.machine) (record t { machine = s.machine }) u c b y.0 others here) [
      | inl full ↦ inl (runs_out frames s t v u c a b A plain P y.0 full.0 full.1)
      | inr is ↦ inr (answers_same frames s t v u c a b A plain P y.0 others done_too is.0 is.1)
    ]
  where
    P : GivenAnswer s.machine A.held c a v
    P = answer_given s v A.held c a x.0 rises A.told A.backed done x.1

    here : AnswerWithin (Some (frames_left s.machine)) (record t { machine = s.machine }) c b y.0 others u
    here = subst (λ (m : Machine). AnswerWithin (Some (frames_left m)) (record t { machine = m }) c b y.0 others u) A.machine y.1

go_on : (frames : ℕ) (first second : List (Step Read)) (s t after last : State) (chain : Chain command_semantics s first after) (other : Chain framed_semantics t second last) → Alike frames s t → AreOfOneScript first second → AreSameUntilFull frames first second s t after last chain other
go_on frames [] [] s t after last chain other A R = tt
go_on frames [] (y ∷ second) s t after last chain other A R = absurd (let e = R.lines in cc e)
go_on frames (x ∷ first) [] s t after last chain other A R = absurd (let e = R.lines in cc e)
go_on frames (x ∷ first) (y ∷ second) s t after last chain other A R =
    elim (at_line frames s t chain.0 other.0 x.read x.answer y.answer x.rises y.rises A R.plain.0 R.no_failure.0 R.no_failure_too.0 chain.1 (subst (λ (read : Read). IsAnsweredWithin t read y.answer y.rises other.0) read_same other.1)) [
      | inl out ↦ inl out
      | inr same ↦ inr (same.0, go_on frames first second chain.0 other.0 after last chain.2 other.2 same.1 rest)
    ]
  where
    line_same : line_answered y ≡ line_answered x
    line_same = let e = R.lines in cc e

    read_same : y.read ≡ x.read
    read_same = ap (λ (p : ℕ × Read). p.1) line_same

    rest : AreOfOneScript first second
    rest = record { lines = (let e = R.lines in cc e); plain = R.plain.1; no_failure = R.no_failure.1; no_failure_too = R.no_failure_too.1 }

-- no cache, so no segment backs one
started : (frames page_bytes : ℕ) (h : Segments) (f g : Option PageForest) → Alike frames (start_over frames page_bytes h f) (start_over frames page_bytes h g)
started frames page_bytes h f g = record {
  held = h;
  held_too = h;
  told = refl;
  told_too = refl;
  machine = refl;
  backed = none;
  backed_too = none;
  same = record { denied = refl; others = λ seg free. refl };
  frames_are = refl;
  enough = omega arith;
}
  where
    none : AreBacked [] h
    none = record {
      apart = λ a b seg c d e f p q. absurd (let at = numbered_place [] a c e in let it = at.1 in cc it);
      backed = λ n seg c e p. absurd (let at = numbered_place [] n c e in let it = at.1 in cc it);
    }

pub agree_until_full : AgreeUntilFull
agree_until_full frames page_bytes h f g first second after last chain other R =
    go_on frames first second (start_over frames page_bytes h f) (start_over frames page_bytes h g) after last chain other (started frames page_bytes h f g) R
