-- What an opening finds is what the cache of the segment held when its last reference went.
use Rattle.std.proofs.Common.{◌≡◌, ◌==◌, ◌⊎◌, inl, inr, ℕ, ◌+◌, ◌-◌, ◌<◌, ◌≤◌, Bool, true, false, cond, List, [], ◌∷◌, length, Option, Some, None, refl, sym, ap, subst, ◌∙◌, arith}
use Rattle.std.specs.Prelude.{Ok, Err, is_some, option_and_then}
use Rattle.std.specs.List.{AllByRecursion}
use Rattle.std.proofs.lemmas.Bool.{eq-eqb, eqb-true}
use Rattle.std.proofs.lemmas.Bool.Decides.{nat_tests}
use Rattle.vm_ids.specs.declared.command.Command.TheVariants as plain_commands
use Rattle.vm_ids.specs.declared.command.KeepCommand.{KeepCommand}
use Rattle.vm_ids.specs.declared.command.KeepCommand.TheVariants as commands
use Rattle.vm_ids.specs.declared.refusal.Refusal.TheVariants as refusals
use Rattle.vm_ids.specs.declared.reply.Reply.TheVariants as replies
use Rattle.vm_ids.specs.declared.reply.Trouble.TheVariants as troubles
use Rattle.vm_model.specs.Answering as plain
use Rattle.vm_model.proofs.Outcomes.Rows.{each_some, each_unless}
use Rattle.vm_model.proofs.Parts.ListParts.{at_some}
use Rattle.vm_model.proofs.Parts.Lists.{at_number}
use Rattle.interface_callers.proofs.Words.{Answer, Cache, Machine, MapperCounts, Mapping, Page, PageForest, Reply, SegId, Segments, Span, cache_named, cache_of, is_named_by, numbered, opened, temporary}
use Rattle.std.proofs.lemmas.Option.{slice_get_past}
use Rattle.interface_callers.proofs.Rows.{actor_row, copy_row, load_row, map_row, store_row}
use Rattle.seg_manager.specs.Answering.{Answered, MayHave, answer_of, close_of, leaving, make_temp_of, open_anew, open_by, open_of, refuse, reply}
use Rattle.seg_manager.specs.Laws.{Chain, ReopensAsItWas, Step, cache_for, opens}
use Rattle.seg_manager.specs.Outcome.{Outcome}
use Rattle.seg_manager.specs.ReferenceMachine.{ReferenceMachine, Stored, close_one, is_open, let_go, number_in, number_named}
use Rattle.seg_manager.proofs.Seeing.Naming.{gone_stored, has_named, none_goes, set_named, with_other, with_own}

-- Rows of the plain machine

-- Whether the segment names a cache stays, and a refusal leaves the machine.
abbrev Stays : ℕ → Machine → Answer → Machine → Type 0
Stays seg m (Ok r) next = has_named seg next.caches ≡ has_named seg m.caches
Stays seg m (Err e) next = next ≡ m

-- The caches stay, and a refusal leaves the machine.
abbrev Keeps : Machine → Answer → Machine → Type 0
Keeps m (Ok r) next = next.caches ≡ m.caches
Keeps m (Err e) next = next ≡ m

module _ (seg : ℕ) (m : Machine) where
  abbrev S : plain.Answered → Type 0
  S a = Stays seg m a.answer a.next

  abbrev K : plain.Answered → Type 0
  K a = Keeps m a.answer a.next

  actor_stays : S (plain.make_actor_of m)
  actor_stays = actor_row S m (λ r. refl) refl

  copy_stays : (s : Span) (h : Segments) → S (plain.copy_of m s h)
  copy_stays s h = copy_row S m (λ r. refl) s h (λ source destination from to. set_named seg m.caches (s.to.0 - 1) (Some destination) _ (at_number m.caches s.to.0 destination to) refl)

  map_stays : (actor : ℕ) (p : Mapping) → S (plain.map_of m actor p)
  map_stays actor p = map_row S m (λ r. refl) actor p (λ rs c here there. refl)

  load_stays : (actor address bytes : ℕ) → S (plain.load_of m actor address bytes)
  load_stays actor address bytes = load_row S m (λ r. refl) actor address bytes (λ r. refl)

  store_stays : (actor address : ℕ) (bytes : List ℕ) (h : Segments) → S (plain.store_of m actor address bytes h)
  store_stays actor address bytes h = store_row S m (λ r. refl) actor address bytes h refl (λ p e c there. set_named seg m.caches (p.region.cache - 1) (Some c) _ (at_number m.caches p.region.cache c there) refl)

  exit_keeps : (actor : ℕ) → K (plain.exit_actor_of m actor)
  unfolding plain.exit_actor_of
  exit_keeps actor = each_some K _ _ m _ refl (λ regions alive. refl)

  unmap_keeps : (region : ℕ) → K (plain.unmap_of m region)
  unfolding plain.unmap_of
  unmap_keeps region = each_some K _ _ m _ refl (λ r there. each_unless K _ _ m _ refl (λ free. refl))

-- One answer

-- The machine changes so that whether the segment names a cache stays, and so does what is stored;
-- or what nothing refers to goes, of the same caches.
pub record Stands (seg : ℕ) (m next : ReferenceMachine) : Type 0 where
  pub named : has_named seg next.memory.caches ≡ has_named seg m.memory.caches
  pub stored : next.stored seg ≡ m.stored seg

pub record LetsGo (m next : ReferenceMachine) : Type 0 where
  pub by : ReferenceMachine
  pub caches : by.memory.caches ≡ m.memory.caches
  pub stored : by.stored ≡ m.stored
  pub is : next ≡ let_go by

abbrev Changes : ℕ → ReferenceMachine → ReferenceMachine → Type 0
Changes seg m next = Stands seg m next ⊎ LetsGo m next

stands : (seg : ℕ) (m next : ReferenceMachine) → next ≡ m → Changes seg m next
stands seg m next e = inl (record {
  named = ap (λ (x : ReferenceMachine). has_named seg x.memory.caches) e;
  stored = ap (λ (x : ReferenceMachine). x.stored seg) e;
})

-- a number that was never given is that of no cache
pub past : (cs : List (Option Cache)) (n : ℕ) → length cs < n → numbered cs n ≡ None
past cs n h = at_some cs n (omega (arith, h)) ∙ ap (option_and_then (λ x. x)) (slice_get_past cs (n - 1) (omega (arith, h)))

-- a segment whose cache has no number names none
pub no_number : (seg k : ℕ) (cs : List (Option Cache)) → number_in k cs seg ≡ None → has_named seg cs ≡ false
no_number seg k [] e = refl
no_number seg k (c ∷ cs) e =
    by (is_named_by seg c) refl (λ n. no_number seg (k + 1) cs (sym (ap (λ (b : Bool). cond b (Some k) (number_in (k + 1) cs seg)) n) ∙ e))
  where
    by : (b : Bool) → is_named_by seg c ≡ b → (is_named_by seg c ≡ false → has_named seg cs ≡ false) → has_named seg (c ∷ cs) ≡ false
    by true n rest = absurd (let found : number_in k (c ∷ cs) seg ≡ Some k = ap (λ (b : Bool). cond b (Some k) (number_in (k + 1) cs seg)) n in cc (e, found))
    by false n rest = ap (λ (b : Bool). is_some (cond b c (cache_named cs seg))) n ∙ rest n

module _ (seg : ℕ) (m : ReferenceMachine) (number : ℕ) where
  -- Refused, the machine stays; else it changes so.
  abbrev Follows : KeepCommand → Answer → ReferenceMachine → Type 0
  Follows command (Ok r) next = MayHave m command number → Changes seg m next
  Follows command (Err e) next = next ≡ m

  abbrev F : KeepCommand → Answered → Type 0
  F command a = Follows command a.answer a.next

  within_at : (command : KeepCommand) (a : Answer) (next : Machine) → Stays seg m.memory a next → Follows command a (record m { memory = next })
  within_at command (Ok r) next s = λ may. inl (record { named = s; stored = refl })
  within_at command (Err e) next s = ap (λ (x : Machine). record m { memory = x }) s

  leaving_at : (command : KeepCommand) (a : plain.Answered) (answer : Answer) → a.answer ≡ answer → Keeps m.memory answer a.next → F command (leaving m a.next answer)
  leaving_at command a (Ok r) e k = λ may. inr (record { by = record m { memory = a.next }; caches = k; stored = refl; is = refl })
  leaving_at command a (Err t) e k = refl

  opened_anew : (other : SegId) (o : Option (List Page)) → number_named m other.0 ≡ None → (opens seg (commands.Plain (plain_commands.OpenSegment other)) ≡ true → has_named seg m.memory.caches ≡ true)
      → F (commands.Plain (plain_commands.OpenSegment other)) (open_anew m other.0 number o)
  opened_anew other None none lives = refl
  opened_anew other (Some pages) none lives = λ may. by (other.0 == seg) refl may
    where
      by : (b : Bool) → (other.0 == seg) ≡ b → (1 ≤ number) × (cache_of m.memory number ≡ None) → Changes seg m (open_anew m other.0 number (Some pages)).next
      by true e may =
          let none_here : has_named seg m.memory.caches ≡ false = subst (λ (n : ℕ). has_named n m.memory.caches ≡ false) (eqb-true other.0 seg e) (no_number other.0 1 m.memory.caches none) in
          absurd (cc (none_here, lives e))
      by false e may = inl (record { named = with_other seg m.memory.caches number (opened other.0 pages) may.0 may.1 e; stored = ap (λ (b : Bool). cond b None (m.stored seg)) (let apart : (seg == other.0) ≡ false = grind (arith, nat_tests) in apart) })

  opened_by : (other : SegId) (o : Option ℕ) → number_named m other.0 ≡ o → (opens seg (commands.Plain (plain_commands.OpenSegment other)) ≡ true → has_named seg m.memory.caches ≡ true)
      → F (commands.Plain (plain_commands.OpenSegment other)) (open_by m other.0 number o)
  opened_by other (Some there) e lives = λ may. inl (record { named = refl; stored = refl })
  opened_by other None e lives = opened_anew other (m.stored other.0) e lives

  closed_at : (command : KeepCommand) (other : ℕ) (b : Bool) → F command (cond b (reply replies.Done (let_go (close_one other m))) (refuse m refusals.NotOpen))
  closed_at command other true = λ may. inr (record { by = close_one other m; caches = refl; stored = refl; is = refl })
  closed_at command other false = refl

  row_follows : (command : KeepCommand) (h : Segments) → (opens seg command ≡ true → has_named seg m.memory.caches ≡ true) → F command (answer_of m command h number)
  unfolding open_of make_temp_of close_of
  row_follows (commands.Close other) h lives = closed_at (commands.Close other) other.0 (is_open m other.0)
  row_follows (commands.Plain plain_commands.MakeActor) h lives = within_at (commands.Plain plain_commands.MakeActor) _ _ (actor_stays seg m.memory)
  row_follows (commands.Plain (plain_commands.ExitActor actor)) h lives =
      leaving_at (commands.Plain (plain_commands.ExitActor actor)) (plain.exit_actor_of m.memory actor.0) _ refl (exit_keeps seg m.memory actor.0)
  row_follows (commands.Plain (plain_commands.MakeTemp pages)) h lives = λ may.
      inl (record { named = with_other seg m.memory.caches number (temporary m.memory.page_bytes pages) (omega (arith, may)) (past m.memory.caches number may) refl; stored = refl })
  row_follows (commands.Plain (plain_commands.OpenSegment other)) h lives = opened_by other (number_named m other.0) refl lives
  row_follows (commands.Plain (plain_commands.Copy span)) h lives = within_at (commands.Plain (plain_commands.Copy span)) _ _ (copy_stays seg m.memory span h)
  row_follows (commands.Plain (plain_commands.Map actor mapping)) h lives = within_at (commands.Plain (plain_commands.Map actor mapping)) _ _ (map_stays seg m.memory actor.0 mapping)
  row_follows (commands.Plain (plain_commands.Unmap region)) h lives =
      leaving_at (commands.Plain (plain_commands.Unmap region)) (plain.unmap_of m.memory region.0) _ refl (unmap_keeps seg m.memory region.0)
  row_follows (commands.Plain (plain_commands.Load actor address bytes)) h lives = within_at (commands.Plain (plain_commands.Load actor address bytes)) _ _ (load_stays seg m.memory actor.0 address bytes)
  row_follows (commands.Plain (plain_commands.Store actor address piece)) h lives = within_at (commands.Plain (plain_commands.Store actor address piece)) _ _ (store_stays seg m.memory actor.0 address piece h)
  row_follows (commands.Plain (plain_commands.PageOut count)) h lives = λ may. inl (record { named = refl; stored = refl })
  row_follows (commands.Plain command) h lives = refl

  outcome_follows : (f : Option PageForest) (command : KeepCommand) (h : Segments) (a : Answer) (next : ReferenceMachine) (rises : MapperCounts)
      → (opens seg command ≡ true → has_named seg m.memory.caches ≡ true) → Outcome m f command h number a next rises → Changes seg m next
  outcome_follows f command h (Ok r) next rises lives o = subst (F command) o.1 (row_follows command h lives) o.0
  outcome_follows f command h (Err (troubles.Mapper at)) next rises lives o = stands seg m next o.0
  outcome_follows f command h (Err troubles.Memory) next rises lives o = stands seg m next o.0
  outcome_follows f command h (Err (troubles.Refused refusals.TooMany)) next rises lives (inl o) = stands seg m next o.0
  outcome_follows f command h (Err (troubles.Refused refusals.TooMany)) next rises lives (inr o) = stands seg m next (subst (F command) o (row_follows command h lives))
  outcome_follows f command h (Err (troubles.Refused r)) next rises lives o = stands seg m next (subst (F command) o (row_follows command h lives))

-- The law

-- the segment names no cache, and these pages are stored for it
pub record IsLeft (seg : ℕ) (pages : List Page) (m : ReferenceMachine) : Type 0 where
  pub free : has_named seg m.memory.caches ≡ false
  pub stored : m.stored seg ≡ Some pages

stays_left : (seg : ℕ) (pages : List Page) (m next : ReferenceMachine) → IsLeft seg pages m → Changes seg m next → IsLeft seg pages next
stays_left seg pages m next is (inl s) = record { free = s.named ∙ is.free; stored = s.stored ∙ is.stored }
stays_left seg pages m next is (inr l) =
    let gone = none_goes seg l.by 1 l.by.memory.caches (ap (has_named seg) l.caches ∙ is.free) in
    record {
      free = ap (λ (x : ReferenceMachine). has_named seg x.memory.caches) l.is ∙ gone.0;
      stored = ap (λ (x : ReferenceMachine). x.stored seg) l.is ∙ gone.1 ∙ ap (λ (st : Stored). st seg) l.stored ∙ is.stored;
    }

is_left : (seg : ℕ) (was : Cache) (m gone : ReferenceMachine) → cache_for m seg ≡ Some was → cache_for gone seg ≡ None → Changes seg m gone → IsLeft seg was.pages gone
is_left seg was m gone there none (inl s) =
    let some : has_named seg m.memory.caches ≡ true = ap is_some there in
    let free : has_named seg gone.memory.caches ≡ false = ap is_some none in
    absurd (cc (s.named, some, free))
is_left seg was m gone there none (inr l) =
    let free : has_named seg (let_go l.by).memory.caches ≡ false = sym (ap (λ (x : ReferenceMachine). has_named seg x.memory.caches) l.is) ∙ ap is_some none in
    record {
      free = ap is_some none;
      stored = ap (λ (x : ReferenceMachine). x.stored seg) l.is
          ∙ gone_stored seg l.by 1 l.by.memory.caches was (ap (λ cs. cache_named cs seg) l.caches ∙ there) free;
    }

left_on : (seg : ℕ) (pages : List Page) (m after : ReferenceMachine) (steps : List Step) → IsLeft seg pages m → AllByRecursion (λ (s : Step). opens seg s.command ≡ false) steps → Chain m steps after → IsLeft seg pages after
left_on seg pages m after [] is apart chain = subst (IsLeft seg pages) (sym chain) is
left_on seg pages m after (s ∷ steps) is apart chain =
    left_on seg pages chain.0 after steps
    (stays_left seg pages m chain.0 is (outcome_follows seg m s.number s.forest s.command s.segments s.answer chain.0 s.rises (λ e. absurd (cc (e, apart.0))) chain.1))
    apart.1 chain.2

no_named : (seg k : ℕ) (cs : List (Option Cache)) → has_named seg cs ≡ false → number_in k cs seg ≡ None
no_named seg k [] free = refl
no_named seg k (None ∷ cs) free = no_named seg (k + 1) cs free
no_named seg k (Some c ∷ cs) free =
    by (is_named_by seg (Some c)) refl (λ n. no_named seg (k + 1) cs (sym (ap (λ (b : Bool). is_some (cond b (Some c) (cache_named cs seg))) n) ∙ free))
  where
    by : (b : Bool) → is_named_by seg (Some c) ≡ b → (is_named_by seg (Some c) ≡ false → number_in (k + 1) cs seg ≡ None) → number_in k (Some c ∷ cs) seg ≡ None
    by true n rest = let some : has_named seg (Some c ∷ cs) ≡ true = ap (λ (b : Bool). is_some (cond b (Some c) (cache_named cs seg))) n in absurd (cc (free, some))
    by false n rest = ap (λ (b : Bool). cond b (Some k) (number_in (k + 1) cs seg)) n ∙ rest n

-- opened where no cache lives, with what is stored
found_anew : (seg : ℕ) (pages : List Page) (m : ReferenceMachine) (number : ℕ) → IsLeft seg pages m → 1 ≤ number → cache_for (open_of m seg number).next seg ≡ Some (opened seg pages)
unfolding open_of
found_anew seg pages m number is some =
    ap (λ (o : Option ℕ). cache_for (open_by m seg number o).next seg) (no_named seg 1 m.memory.caches is.free)
    ∙ ap (λ (o : Option (List Page)). cache_for (open_anew m seg number o).next seg) is.stored
    ∙ with_own seg m.memory.caches number (opened seg pages) some is.free (eq-eqb seg seg refl)

opened_so : (seg : ℕ) (pages : List Page) (m after : ReferenceMachine) (f : Option PageForest) (command : KeepCommand) (h : Segments) (number : ℕ) (rises : MapperCounts) (r : Reply)
    → IsLeft seg pages m → opens seg command ≡ true → Outcome m f command h number (Ok r) after rises → cache_for after seg ≡ Some (opened seg pages)
opened_so seg pages m after f (commands.Plain (plain_commands.OpenSegment other)) h number rises r is e o =
    let same : other.0 ≡ seg = eqb-true other.0 seg e in
    ap (λ (a : Answered). cache_for a.next seg) (sym o.1)
    ∙ ap (λ (n : ℕ). cache_for (open_of m n number).next seg) same
    ∙ found_anew seg pages m number is o.0.0
opened_so seg pages m after f command h number rises r is e o = absurd (cc e)

pub reopens_as_it_was : ReopensAsItWas
reopens_as_it_was m gone before after last reopening between seg was r there leads none apart chain opening reopened ok =
    let left = is_left seg was m gone there none
    (outcome_follows seg m last.number last.forest last.command last.segments last.answer gone last.rises (λ e. ap is_some there) leads) in
    opened_so seg was.pages before after reopening.forest reopening.command reopening.segments reopening.number reopening.rises r
    (left_on seg was.pages gone before between left apart chain) opening
    (subst (λ (a : Answer). Outcome before reopening.forest reopening.command reopening.segments reopening.number a after reopening.rises) ok reopened)
