-- Calls of the eager machine, with what a mapper tells or without it.
use Rattle.std.proofs.Common.{◌≡◌, ℕ, ◌<◌, List, [], ◌∷◌, Option, Some, None, refl, sym, subst, ◌∙◌, arith}
use Rattle.std.specs.Prelude.{IfErr, IfSome, Result, Ok, Err, unwrap_or}
use Rattle.std.specs.List.{AllByRecursion}
use Rattle.std.specs.FinMap.{empty}
use Rattle.vm_ids.specs.Counting.{MapperCounts, no_counts}
use Rattle.vm_ids.specs.Held.{Held, Segments, put_segment_page, segments_in, segments_of}
use Rattle.vm_ids.specs.declared.command.Command.{Command}
use Rattle.vm_ids.specs.declared.command.Command.TheVariants as commands
use Rattle.vm_ids.specs.declared.numbers.CacheId.{CacheId}
use Rattle.vm_ids.specs.declared.numbers.SegId.{SegId}
use Rattle.vm_ids.specs.declared.reply.Reply.TheVariants as replies
use Rattle.vm_ids.specs.declared.reply.FaultAt.{FaultAt}
use Rattle.vm_ids.specs.declared.reply.FaultAt.TheVariants as faults
use Rattle.vm_ids.specs.declared.reply.Trouble.{Trouble}
use Rattle.vm_ids.specs.declared.command.Extent.{Extent}
use Rattle.vm_ids.specs.declared.reply.Trouble.TheVariants as troubles
use Rattle.vm_model.specs.Machine.{Machine, cache_of, pages_in}
use Rattle.vm_model.specs.PageForest.{plain_forest}
use Rattle.vm_model.specs.Answering.{Answer, Answered, answer_by, answer_of}
use Rattle.vm_model.specs.Asking.{ReachesMapper}
use Rattle.vm_model.specs.Outcome.{Outcome, OutcomeAt, PlainOutcome, IsAlike, IsNotRefused, MayFault, MayLackMemory, NotRefusedButFor, HasWholePages, blank, seen_at}
use Rattle.vm_model.specs.Pushing.{MayPush, PushRule, page_named, segments_after}
use Rattle.vm_model.specs.Run.{AnswerIs, CallIs}
use Rattle.vm_model.specs.Synchronised.{ArePushed, IsCachePushed, IsExtentPushed, IsSynchronised}
use Rattle.gmi_calls.specs.Backing.{IsReady, eager, eager_state}
use Rattle.vm_port.specs.declared.traits.mapper.Mapper.{Ghosts as GhostsOfMapper}
use Rattle.gmi_calls.specs.Calling.{AsksFirst, CallDone, MapperCall, Meanings}
use Rattle.gmi_calls.specs.Parking.{AccessCall, NoPull}
use Rattle.gmi_calls.specs.Reaching.{NoPages, Pushed, Reached}
use Rattle.gmi_calls.proofs.Backing.{backed_after}
use Rattle.gmi_calls.proofs.Pushing.{pushed_none}
use Rattle.gmi_calls.proofs.Rising.{quiet_none, rise_none}
use Rattle.gmi_calls.proofs.Still.{asks_quiet, made_still}

alike_same : (a : Answer) → IsAlike a a
alike_same (Ok replies.Done) = refl
alike_same (Ok (replies.Actor n)) = refl
alike_same (Ok (replies.Cache n)) = refl
alike_same (Ok (replies.Region n)) = refl
alike_same (Ok (replies.Bytes b)) = refl
alike_same (Ok (replies.Status status)) = refl
alike_same (Ok (replies.Chain items)) = refl
alike_same (Ok (replies.Stat counts)) = refl
alike_same (Ok (replies.Process process)) = refl
alike_same (Ok (replies.Port port)) = refl
alike_same (Err e) = refl

-- Outcomes

-- The outcome by the segments that are told; where none are, by some.
abbrev pub OutcomeFor : Option Held → Machine → Command → Answer → Machine → MapperCounts → Type 0
OutcomeFor (Some h) m c a next rises = Outcome m None c (segments_in h) a next rises
OutcomeFor None m c a next rises = (s : Segments) × Outcome m None c s a next rises

-- an outcome without a call of the mapper is no fault, and stays where some were made
pub any_rises : (m next : Machine) (c : Command) (s : Segments) (a : Answer) (rises : MapperCounts) → Outcome m None c s a next no_counts → Outcome m None c s a next rises
any_rises m next c s (Ok r) rises o = o
any_rises m next c s (Err (troubles.Refused r)) rises o = o
any_rises m next c s (Err (troubles.Mapper at)) rises o = absurd (omega (arith, o.1))
any_rises m next c s (Err troubles.Memory) rises o = o

abbrev pub no_segments : Segments
no_segments = record { pages = empty; denied = [] }

-- whatever the segments hold
pub every_segments : (told : Option Held) (m next : Machine) (c : Command) (a : Answer) (rises : MapperCounts) → ((s : Segments) → Outcome m None c s a next rises) → OutcomeFor told m c a next rises
every_segments (Some h) m next c a rises f = f (segments_in h)
every_segments None m next c a rises f = (no_segments, f no_segments)

pub plain_for : (told : Option Held) (m next : Machine) (c : Command) (a : Answer) (rises : MapperCounts) → PlainOutcome m c a next → OutcomeFor told m c a next rises
plain_for told m next c a rises f = every_segments told m next c a rises (λ s. any_rises m next c s a rises (f s))

-- a mapper tells what it holds before and after, or neither
abbrev IsToldAlike : Option Held → Option Held → Type 0
IsToldAlike (Some h) (Some k) = Unit {0}
IsToldAlike None None = Unit {0}
IsToldAlike a b = ⊥

untold_after : (m : Machine) (ps : List (ℕ × ℕ)) → segments_after m ps None ≡ None
untold_after m [] = refl
untold_after m (p ∷ ps) = untold_after m ps

told_after : (m : Machine) (ps : List (ℕ × ℕ)) (s : Segments) → (t : Segments) × (segments_after m ps (Some s) ≡ Some t)
told_after m [] s = (s, refl)
told_after m (p ∷ ps) s = told_after m ps (put_segment_page p.0 p.1 (unwrap_or (page_named m p.0 p.1) []) s)

told_alike : (m : Machine) (before after : Option Held) (ps : List (ℕ × ℕ)) → PushRule m (segments_of before) ps (segments_of after) → IsToldAlike before after
told_alike m (Some h) (Some k) ps R = tt
told_alike m None None ps R = tt
told_alike m None (Some k) ps R = absurd (let e : Some (segments_in k) ≡ None = R.pushed ∙ untold_after m ps in cc e)
told_alike m (Some h) None ps R = absurd (let t = told_after m ps (segments_in h) in let e : None ≡ Some t.0 = R.pushed ∙ t.1 in cc e)

outcome_at : (before after : Option Held) (m next : Machine) (c : Command) (a : Answer) (rises : MapperCounts) → IsToldAlike before after → HasWholePages m → OutcomeFor after m c a next rises → OutcomeAt (segments_of after) (seen_at before m) None c a (seen_at after next) rises
outcome_at (Some h) (Some k) m next c a rises told w o = o
outcome_at (Some h) None m next c a rises told w o = absurd told
outcome_at None (Some k) m next c a rises told w o = absurd told
outcome_at None None m next c a rises told w o = record {
  whole = m;
  whole_next = next;
  segments = o.0;
  whole_answer = a;
  is = refl;
  is_next = refl;
  pages = w;
  alike = alike_same a;
  outcome = o.1;
}

-- Answers

-- of segments that aren't told nothing is said
unsaid : (m : Machine) (c : Command) (a : Answer) → IsSynchronised m None c a
unsaid m (commands.Sync e) (Ok r) = tt
unsaid m (commands.Sync e) (Err (troubles.Mapper (faults.Page p))) = tt
unsaid m (commands.Sync e) (Err trouble) = tt
unsaid m (commands.Flush e) (Ok r) = tt
unsaid m (commands.Flush e) (Err (troubles.Mapper (faults.Page p))) = tt
unsaid m (commands.Flush e) (Err trouble) = tt
unsaid m (commands.Destroy cache) (Ok r) = tt
unsaid m (commands.Destroy cache) (Err (troubles.Mapper (faults.Save done))) = tt
unsaid m (commands.Destroy cache) (Err (troubles.Mapper (faults.Page p))) = tt
unsaid m (commands.Destroy cache) (Err trouble) = tt
unsaid m c a = tt

said : (before after : Option Held) (m : Machine) (c : Command) (a : Answer) → IsToldAlike before after → IsSynchronised m (segments_of after) c a → IsSynchronised (seen_at before m) (segments_of after) c a
said (Some h) (Some k) m c a told s = s
said (Some h) None m c a told s = absurd told
said None (Some k) m c a told s = absurd told
said None None m c a told s = unsaid (blank m) c a

ruled : (before after : Option Held) (m : Machine) (ps : List (ℕ × ℕ)) → PushRule m (segments_of before) ps (segments_of after) → PushRule (seen_at before m) (segments_of before) ps (segments_of after)
ruled (Some h) after m ps R = R
ruled None after m ps R = record { may = all_may ps; pushed = R.pushed ∙ untold_after m ps ∙ sym (untold_after (blank m) ps) }
  where
    all_may : (ps : List (ℕ × ℕ)) → AllByRecursion (MayPush (blank m) None) ps
    all_may [] = tt
    all_may (p ∷ ps) = (tt, all_may ps)

whole_at : (told : Option Held) (m : Machine) → HasWholePages m → IfSome (segments_of told) (λ h. HasWholePages (seen_at told m))
whole_at (Some h) m w = w
whole_at None m w = tt

-- A call after which this was pushed.
pub answer_is : {T E : Type 0} (before after : Option Held) (counts now : MapperCounts) (m next : Machine) (c : Command) (a : Answer) (r : Result T E) (P : Pushed m before after counts now r) → HasWholePages m → HasWholePages next
    → ReachesMapper c P.rises → OutcomeFor after m c a next P.rises → IsSynchronised m (segments_of after) c a → AnswerIs (eager_state before m) c a P.pushes P.rises (eager_state after next)
answer_is before after counts now m next c a r P w x reaches o s =
    let told = told_alike m before after P.pushes P.rule in
    record {
      outcome = outcome_at before after m next c a P.rises told w o;
      forest = refl;
      reaches = reaches;
      few = P.few;
      pushed = ruled before after m P.pushes P.rule;
      synchronised = said before after m c a told s;
      whole = whole_at after next x;
    }

abbrev pub call_is : {T E : Type 0} (before after : Option Held) (counts now : MapperCounts) (m next : Machine) (c : Command) (a : Answer) (r : Result T E) (P : Pushed m before after counts now r) → HasWholePages m → HasWholePages next
    → ReachesMapper c P.rises → OutcomeFor after m c a next P.rises → IsSynchronised m (segments_of after) c a → CallIs counts now (eager_state before m) c a (eager_state after next)
call_is before after counts now m next c a r P w x reaches o s = record { pushes = P.pushes; rises = P.rises; rose = P.rose; is = answer_is before after counts now m next c a r P w x reaches o s }

-- A call after which the mapper holds what it held.
abbrev pub call_reached : {T E : Type 0} (before after : Option Held) (counts now : MapperCounts) (m next : Machine) (c : Command) (a : Answer) (r : Result T E) → after ≡ before → (R : Reached counts now r) → HasWholePages m → HasWholePages next
    → ReachesMapper c R.rises → OutcomeFor before m c a next R.rises → IsSynchronised m (segments_of after) c a → CallIs counts now (eager_state before m) c a (eager_state after next)
call_reached before after counts now m next c a r same R w x reaches o s =
    call_is before after counts now m next c a r (pushed_none m before after counts now R.rises r same R.rose R.failed) w x reaches
    (subst (λ (told : Option Held). OutcomeFor told m c a next R.rises) (sym same) o) s

-- A call that reaches no mapper.
pub answer_each : (told : Option Held) (m next : Machine) (c : Command) (a : Answer) → ReachesMapper c no_counts → IsReady m told → HasWholePages next → PlainOutcome m c a next → IsSynchronised m (segments_of told) c a
    → AnswerIs (eager_state told m) c a [] no_counts (eager_state told next)
answer_each told m next c a reaches ready x f s = record {
  outcome = outcome_at told told m next c a no_counts (same told) ready.whole (every_segments told m next c a no_counts f);
  forest = refl;
  reaches = reaches;
  few = omega arith;
  pushed = record { may = tt; pushed = refl };
  synchronised = said told told m c a (same told) s;
  whole = whole_at told next x;
}
  where
    same : (told : Option Held) → IsToldAlike told told
    same (Some h) = tt
    same None = tt

-- What is ready stays so

pub ready_after : (told : Option Held) (m next : Machine) (c : Command) (a : Answer) (rises : MapperCounts) → IsReady m told → HasWholePages next → OutcomeFor told m c a next rises → IsReady next told
ready_after (Some h) m next c a rises R x o = record { whole = x; backed = backed_after m next None c (segments_in h) a rises R.backed o }
ready_after None m next c a rises R x o = record { whole = x; backed = tt }

pub ready_plain : (told : Option Held) (m next : Machine) (c : Command) (a : Answer) → PlainOutcome m c a next → HasWholePages next → IsReady m told → IsReady next told
ready_plain told m next c a f x R = ready_after told m next c a no_counts R x (every_segments told m next c a no_counts f)

-- What a call says of itself

module _ {X : Type 0} (M : GhostsOfMapper X) where
  abbrev pub eager_call : (a b : X) (m next : Machine) (c : Command) (answer : Answer) → IsReady next (M.held b)
      → CallIs (M.counts a) (M.counts b) (eager_state (M.held a) m) c answer (eager_state (M.held b) next) → AsksFirst c answer (M.counts a) (M.counts b)
      → M.page_bytes b ≡ M.page_bytes a → MapperCall M eager a m c answer b next
  eager_call a b m next c answer ready is asks page = record {
    valid = ready;
    answers = is;
    asks_first = asks;
    made = made_still (seen_at (M.held a) m) c answer (seen_at (M.held b) next) 0;
    room = refl;
    page = page;
  }

  -- a call that is handed the mapper and leaves it
  pub eager_quiet : (a : X) (m next : Machine) (c : Command) (answer : Answer) → ReachesMapper c no_counts → IsReady m (M.held a) → HasWholePages next → PlainOutcome m c answer next → IsSynchronised m (segments_of (M.held a)) c answer
      → AccessCall M eager NoPages a m c answer a next
  eager_quiet a m next c answer reaches ready whole f said =
      let is : CallIs (M.counts a) (M.counts a) (eager_state (M.held a) m) c answer (eager_state (M.held a) next) = record { pushes = []; rises = no_counts; rose = rise_none (M.counts a); is = answer_each (M.held a) m next c answer reaches ready whole f said } in
      record { call = eager_call a a m next c answer (ready_plain (M.held a) m next c answer f whole ready) is (asks_quiet c answer _ _ (quiet_none (M.counts a))) refl; so = record { pulled = refl; pushed = refl } }

  pub eager_left : (a : X) (m next : Machine) (c : Command) (answer : Answer) → ReachesMapper c no_counts → IsReady m (M.held a) → HasWholePages next → PlainOutcome m c answer next → IsSynchronised m (segments_of (M.held a)) c answer
      → MapperCall M eager a m c answer a next
  eager_left a m next c answer reaches ready whole f said = (eager_quiet a m next c answer reaches ready whole f said).call

-- where no page came or went, none was pulled
pub no_pull : {Manager X : Type 0} (M : GhostsOfMapper X) (G : Meanings Manager) (a : X) (p : Manager) (c : Command) (answer : Answer) (b : X) (q : Manager) → AccessCall M G NoPages a p c answer b q → AccessCall M G NoPull a p c answer b q
no_pull M G a p c answer b q E = record { call = E.call; so = E.so.pulled }

-- a call that takes none
pub eager_done : (m next : Machine) (c : Command) (answer : Answer) → ReachesMapper c no_counts → HasWholePages next → PlainOutcome m c answer next → ((h : Option Segments) → IsSynchronised m h c answer) → CallDone eager m c answer next
eager_done m next c answer reaches whole f said = record {
  valid = λ h ready. ready_plain h m next c answer f whole ready;
  answers = λ h ready. answer_each h m next c answer reaches ready whole f (said (segments_of h));
  made = λ h ready. made_still (seen_at h m) c answer (seen_at h next) 0;
  room = refl;
}

-- Faults and refusals

not_refused : (at : FaultAt) (a : Answer) → IsNotRefused a → NotRefusedButFor at a
not_refused at (Ok r) h = tt
not_refused at (Err e) h = absurd h

-- A fault of the mapper, where the machine refuses nothing.
pub fault_for : (told : Option Held) (m : Machine) (c : Command) (at : FaultAt) (rises : MapperCounts) → 0 < rises.faults → ((s : Segments) → MayFault m None c s at rises) → ((s : Segments) → IsNotRefused (answer_of m (plain_forest m) c s).answer)
    → OutcomeFor told m c (Err (troubles.Mapper at)) m rises
fault_for told m c at rises faults may free = every_segments told m m c (Err (troubles.Mapper at)) rises (λ s. (refl, faults, may s, not_refused at (answer_of m (plain_forest m) c s).answer (free s)))

-- what is answered without a call of the mapper is no fault
pub unfaulted : (m next : Machine) (c : Command) (at : FaultAt) → PlainOutcome m c (Err (troubles.Mapper at)) next → ⊥
unfaulted m next c at f = let o = f no_segments in omega (arith, o.1)

-- a sync or flush that is refused
pub refusal_said : (m next : Machine) (h : Option Segments) (c : Command) (e : Extent) (t : Trouble) → PlainOutcome m c (Err t) next → IsExtentPushed m h e (Err t)
refusal_said m next h c e (troubles.Refused r) f = tt
refusal_said m next h c e (troubles.Mapper at) f = absurd (unfaulted m next c at f)
refusal_said m next h c e troubles.Memory f = tt

-- what is answered after a cache was pushed
pub cache_said : (m next : Machine) (h : Option Segments) (c : Command) (n : ℕ) (a : Answer) → PlainOutcome m c a next → ArePushed m h n 0 (pages_in (cache_of m n)) → IsCachePushed m h n a
cache_said m next h c n (Ok r) f P = P
cache_said m next h c n (Err (troubles.Refused r)) f P = tt
cache_said m next h c n (Err (troubles.Mapper at)) f P = absurd (unfaulted m next c at f)
cache_said m next h c n (Err troubles.Memory) f P = tt

pub no_cache_said : (m next : Machine) (h : Option Segments) (c : Command) (n : ℕ) (t : Trouble) → PlainOutcome m c (Err t) next → IsCachePushed m h n (Err t)
no_cache_said m next h c n (troubles.Refused r) f = tt
no_cache_said m next h c n (troubles.Mapper at) f = absurd (unfaulted m next c at f)
no_cache_said m next h c n troubles.Memory f = tt

-- after a call of the machine that was awaited, write access had been asked and memory taken
pub asks_awaited : (m next : Machine) (c : Command) (a : Answer) (before now : MapperCounts) → ((s : Segments) → IsNotRefused (answer_of m (plain_forest m) c s).answer) → (MayLackMemory c → ⊥) → PlainOutcome m c a next → AsksFirst c a before now
asks_awaited m next c (Ok r) before now free memory f = tt
asks_awaited m next c (Err (troubles.Refused r)) before now free memory f = absurd (subst (λ (x : Answered). IsNotRefused x.answer) (f no_segments) (free no_segments))
asks_awaited m next c (Err (troubles.Mapper at)) before now free memory f = absurd (unfaulted m next c at f)
asks_awaited m next c (Err troubles.Memory) before now free memory f = let o = f no_segments in absurd (memory o.1)

-- after the machine made a cache of the pages that were pulled, or lacked memory
pub asks_opened : (seg : SegId) (r : Result CacheId Trouble) (before now : MapperCounts) → IfErr r (λ e. e ≡ troubles.Memory) → AsksFirst (commands.OpenSegment seg) (answer_by (λ x. replies.Cache x) r) before now
asks_opened seg (Ok x) before now only = tt
asks_opened seg (Err (troubles.Refused r)) before now only = absurd (cc only)
asks_opened seg (Err (troubles.Mapper at)) before now only = absurd (cc only)
asks_opened seg (Err troubles.Memory) before now only = tt
