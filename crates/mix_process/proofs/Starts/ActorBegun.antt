-- A process is begun: it has an actor, and no parts.
use Rattle.std.proofs.Common.{◌≡◌, ◌⊎◌, inl, inr, ℕ, ◌+◌, ◌-◌, ◌*◌, ◌≤◌, ◌<◌, false, List, [], ◌∷◌, ◌++◌, length, Option, Some, None, Vec, Global, refl, sym, ap, subst, ◌∙◌, arith}
use Rattle.std.specs.Prelude.{◌||◌, Ok, Err, nat_le}
use Rattle.std.proofs.lemmas.Bool.Decides.{nat_tests}
use Rattle.std.proofs.lemmas.List.{length-append}
use Rattle.vm_ids.specs.declared.command.Command.TheVariants as vm_commands
use Rattle.vm_ids.specs.declared.refusal.Refusal.TheVariants as refusals
use Rattle.vm_ids.specs.declared.reply.Reply.TheVariants as replies
use Rattle.vm_ids.specs.declared.reply.Trouble.TheVariants as troubles
use Rattle.vm_model.specs.Answering as vm
use Rattle.vm_model.specs.Run as vm_run
use Rattle.vm_model.specs.Run.{AnswerIs}
use Rattle.interface_callers.proofs.Words.{ActorId, Answer, CallDone, GhostsOfGmi, Held, IsAlike, LIVING_ACTORS, Machine, MapperCounts, MOST_MADE, Outcome, OutcomeAt, PageForest, RaisesMade, Segments, Trouble, blank, live_pages, living_actors, meanings_of, no_counts, numbered, segments_of}
use Rattle.interface_callers.proofs.Lists.{one_of}
use Rattle.mix_process.specs.Outcome.{Usage, usage_of}
use Rattle.mix_process.specs.Seen.{cache_pages}
use Rattle.mix_process.specs.Starting.{IsStarted, start_budget, usage_to_start}
use Rattle.mix_process.specs.Tying.{AreAble, AreTied, CanCall, none_spare}
use Rattle.mix_process.specs.Use.{IsLack}
use Rattle.mix_process.specs.declared.mix.Mix.{Mix}
use Rattle.mix_process.specs.declared.process.Process.{Process}
use Rattle.mix_process.proofs.Calling.CallAgain.{sync_alike}
use Rattle.mix_process.proofs.Calling.CallAgainNoMapper.{able_called, answered}
use Rattle.mix_process.proofs.Ties.ActorOrImage.{tied_started}
use Rattle.mix_process.proofs.Definition.Limits.{actors_past, each_unless, living_past, passed_next}
use Rattle.mix_process.proofs.Calling.UntoldSteps.{usage_blank}

-- The row

-- A new actor without regions.
pub record HasActor (m : Machine) (answer : Answer) (next : Machine) : Type 0 where
  pub answer_is : answer ≡ Ok (replies.Actor (record { 0 = length m.actors + 1 }))
  pub next_is : next ≡ record m { actors = m.actors ++ Some [] ∷ [] }
  pub fewer : length m.actors < MOST_MADE

-- None, and why.
pub record HasNoActor (m : Machine) (answer : Answer) (next : Machine) : Type 0 where
  pub trouble : Trouble
  pub answer_is : answer ≡ Err trouble
  pub next_is : next ≡ m
  pub why : IsLack (usage_of m) usage_to_start trouble

abbrev pub Making : Machine → Answer → Machine → Type 0
Making m answer next = HasActor m answer next ⊎ HasNoActor m answer next

fewer_by : (a b : ℕ) → (nat_le LIVING_ACTORS a || nat_le MOST_MADE b) ≡ false → b < MOST_MADE
fewer_by a b e = grind (arith, nat_tests)

actor_row : (m : Machine) → (let a = vm.make_actor_of m in Making m a.answer a.next)
unfolding vm.make_actor_of
actor_row m =
    let P = λ (a : vm.Answered). Making m a.answer a.next in
    each_unless P _ _ m _ (λ full. inr (record {
      trouble = troubles.Refused refusals.TooMany;
      answer_is = refl;
      next_is = refl;
      why = elim (one_of (nat_le LIVING_ACTORS (living_actors m)) (nat_le MOST_MADE (length m.actors)) full) [
        | inl e ↦ living_past (usage_of m) usage_to_start (passed_next LIVING_ACTORS (living_actors m) e)
        | inr e ↦ actors_past (usage_of m) usage_to_start (passed_next MOST_MADE (length m.actors) e)
      ];
    }))
    (λ room. inl (record { answer_is = refl; next_is = refl; fewer = fewer_by (living_actors m) (length m.actors) room }))

made_row : (m : Machine) (a : Answer) (next : Machine) → vm.make_actor_of m ≡ record { answer = a; next = next } → Making m a next
made_row m a next e = subst (λ (x : vm.Answered). Making m x.answer x.next) e (actor_row m)

making_outcome : (m : Machine) (f : Option PageForest) (h : Segments) (a : Answer) (next : Machine) (rises : MapperCounts) → Outcome m f vm_commands.MakeActor h a next rises → Making m a next
making_outcome m f h (Ok r) next rises o = made_row m (Ok r) next o
making_outcome m f h (Err (troubles.Refused r)) next rises o = made_row m (Err (troubles.Refused r)) next o
making_outcome m f h (Err (troubles.Mapper at)) next rises o = absurd o.2
making_outcome m f h (Err troubles.Memory) next rises o = inr (record { trouble = troubles.Memory; answer_is = refl; next_is = o.0; why = tt })

making_blank : (w whole_next : Machine) (whole a : Answer) → IsAlike whole a → Making w whole whole_next → Making (blank w) a (blank whole_next)
making_blank w whole_next whole a alike (inl h) = inl (record {
  answer_is = sym (subst (λ (x : Answer). IsAlike x a) h.answer_is alike);
  next_is = ap blank h.next_is;
  fewer = h.fewer;
})
making_blank w whole_next whole a alike (inr h) = inr (record {
  trouble = h.trouble;
  answer_is = sym (subst (λ (x : Answer). IsAlike x a) h.answer_is alike);
  next_is = ap blank h.next_is;
  why = subst (λ (u : Usage). IsLack u usage_to_start h.trouble) (sym (usage_blank w)) h.why;
})

pub making : (told : Option Segments) (m : Machine) (f : Option PageForest) (a : Answer) (next : Machine) (rises : MapperCounts) → OutcomeAt told m f vm_commands.MakeActor a next rises → Making m a next
making (Some h) m f a next rises o = making_outcome m f h a next rises o
making None m f a next rises o =
    subst (λ (x : Machine). Making x a next) (sym o.is) (subst (λ (x : Machine). Making (blank o.whole) a x) (sym o.is_next)
    (making_blank o.whole o.whole_next o.whole_answer a o.alike (making_outcome o.whole f o.segments o.whole_answer o.whole_next rises o.outcome)))

-- The call

raised_lack : (m n : Machine) (t : Trouble) (before now : ℕ) → n ≡ m → RaisesMade m vm_commands.MakeActor (Err t) n before now → now ≤ before + start_budget
raised_lack m n (troubles.Refused r) before now same made = omega (arith, made)
raised_lack m n (troubles.Mapper at) before now same made = omega (arith, made, ap live_pages same)
raised_lack m n troubles.Memory before now same made = omega (arith, made, ap live_pages same)

raised_start : (m n : Machine) (before now : ℕ) → live_pages n ≡ live_pages m → now ≤ before + 8 * (0 + (live_pages n - live_pages m)) + 8 → now ≤ before + start_budget
raised_start m n before now same made = omega (arith, made, same)

module _ {Manager X Chooser : Type 0} (G : GhostsOfGmi Manager X Chooser) (old : Mix Manager) (told : Option Held) (page_bytes : Option ℕ) (can : CanCall G old told page_bytes)
    (a : Answer) (gmi : Manager) (called : CallDone (meanings_of G) old.gmi vm_commands.MakeActor a gmi) where
  abbrev m : Machine
  m = G.machine old.gmi told

  abbrev n : Machine
  n = G.machine gmi told

  abbrev it : AnswerIs (vm_run.state_of G.machine G.forest old.gmi told) vm_commands.MakeActor a [] no_counts (vm_run.state_of G.machine G.forest gmi told)
  it = answered G old.gmi gmi told page_bytes vm_commands.MakeActor a old.images.items (length old.processes.items) (numbered old.processes.items) none_spare can called

  row : Making m a n
  row = making (segments_of told) m (G.forest old.gmi told) a n no_counts it.outcome

  made_less : (answer : Answer) → a ≡ answer → RaisesMade m vm_commands.MakeActor answer n (G.made old.gmi) (G.made gmi)
  made_less answer e = subst (λ (x : Answer). RaisesMade m vm_commands.MakeActor x n (G.made old.gmi) (G.made gmi)) e (called.made told can.valid)

  able : (table : List (Option Process)) → n.caches ≡ m.caches → length table ≤ length n.actors → length n.actors ≤ MOST_MADE → AreTied n (numbered table) none_spare old.images.items
      → AreAble G gmi old.images.items told page_bytes (length table) (numbered table) none_spare
  able table same few most tied =
      able_called G old.gmi gmi told page_bytes vm_commands.MakeActor a old.images.items (length old.processes.items) (numbered old.processes.items) none_spare can called
      old.images.items (length table) (numbered table) none_spare few most tied
      (sync_alike (G.machine old.gmi told) (G.machine gmi told) old.images.items told (λ i image e. ap (λ caches. cache_pages (record m { caches = caches }) image.cache.0) same) can.synchronised)

  abbrev with_table : Vec (Option Process) Global → Mix Manager
  with_table table = record old { gmi = gmi; processes = table }

  module _ (trouble : Trouble) (a_is : a ≡ Err trouble) (table : Vec (Option Process) Global) (same : table.items ≡ old.processes.items) where
    lacking : Making m a n → HasNoActor m a n
    lacking (inl h) = absurd (let wrong : Err trouble ≡ Ok (replies.Actor (record { 0 = length m.actors + 1 })) = sym a_is ∙ h.answer_is in cc wrong)
    lacking (inr h) = h

    trouble_is : (h : HasNoActor m a n) → h.trouble ≡ trouble
    trouble_is h = let both : Err h.trouble ≡ Err trouble = sym h.answer_is ∙ a_is in cc both

    pub not_begun : IsStarted G told page_bytes old (Err trouble) (with_table table)
    not_begun = let h = lacking row in record {
      can = subst (λ (xs : List (Option Process)). AreAble G gmi old.images.items told page_bytes (length xs) (numbered xs) none_spare) (sym same)
          (able old.processes.items (ap (λ (x : Machine). x.caches) h.next_is) (omega (arith, can.few, ap (λ (x : Machine). length x.actors) h.next_is)) (omega (arith, can.most, ap (λ (x : Machine). length x.actors) h.next_is))
          (subst (λ (x : Machine). AreTied x (numbered old.processes.items) none_spare old.images.items) (sym h.next_is) can.tied));
      images = refl;
      made = raised_lack m n trouble (G.made old.gmi) (G.made gmi) h.next_is (made_less (Err trouble) a_is);
      starts = record { table = same; machine = h.next_is; why = subst (IsLack (usage_of m) usage_to_start) (trouble_is h) h.why };
    }

  module _ (process : Process) (a_is : a ≡ Ok (replies.Actor process.actor)) (bare : process.parts.items ≡ []) (table : Vec (Option Process) Global) (longer : table.items ≡ old.processes.items ++ Some process ∷ []) where
    having : Making m a n → HasActor m a n
    having (inl h) = h
    having (inr h) = absurd (let wrong : Ok (replies.Actor process.actor) ≡ Err h.trouble = sym a_is ∙ h.answer_is in cc wrong)

    number : HasActor m a n → process.actor.0 ≡ length m.actors + 1
    number h = let both : Ok (replies.Actor process.actor) ≡ Ok (replies.Actor (record { 0 = length m.actors + 1 })) = sym a_is ∙ h.answer_is in
        let same : process.actor ≡ record { 0 = length m.actors + 1 } = cc both in ap (λ (c : ActorId). c.0) same

    pub begun : IsStarted G told page_bytes old (Ok tt) (with_table table)
    begun = let h = having row in
        let many : length n.actors ≡ length m.actors + 1 = ap (λ (x : Machine). length x.actors) h.next_is ∙ length-append m.actors (Some [] ∷ []) in
        record {
          can = subst (λ (xs : List (Option Process)). AreAble G gmi old.images.items told page_bytes (length xs) (numbered xs) none_spare) (sym longer)
              (able (old.processes.items ++ Some process ∷ []) (ap (λ (x : Machine). x.caches) h.next_is) (omega (arith, can.few, many, length-append old.processes.items (Some process ∷ []))) (omega (arith, h.fewer, many))
              (subst (λ (x : Machine). AreTied x (numbered (old.processes.items ++ Some process ∷ [])) none_spare old.images.items) (sym h.next_is) (tied_started m old.processes.items old.images.items can.tied process (number h) bare)));
          images = refl;
          made = raised_start m n (G.made old.gmi) (G.made gmi) (ap live_pages h.next_is) (made_less (Ok (replies.Actor process.actor)) a_is);
          starts = record { process = process; table = longer; bare = bare; machine = h.next_is };
        }
    -- no memory for its entry

pub no_room : {Manager X Chooser : Type 0} (G : GhostsOfGmi Manager X Chooser) (old : Mix Manager) (told : Option Held) (page_bytes : Option ℕ) (can : CanCall G old told page_bytes)
    (table : Vec (Option Process) Global) → table.items ≡ old.processes.items → IsStarted G told page_bytes old (Err troubles.Memory) (record old { processes = table })
no_room G old told page_bytes can table same = record {
  can = subst (λ (xs : List (Option Process)). AreAble G old.gmi old.images.items told page_bytes (length xs) (numbered xs) none_spare) (sym same) can;
  images = refl;
  made = omega arith;
  starts = record { table = same; machine = refl; why = tt };
}
