-- What the fields are, after one actor has other regions.
use Rattle.std.proofs.Common.{◌≡◌, ℕ, ◌+◌, ◌-◌, ◌<◌, ◌≤◌, ◌^◌, List, [], ◌∷◌, ◌++◌, length, Option, Some, sym, ap, subst, ◌∙◌, arith}
use Rattle.std.specs.Prelude.{count_by, is_some, slice_get}
use Rattle.std.specs.List.{All}
use Rattle.std.proofs.lemmas.List.{length-append}
use Rattle.std.proofs.lemmas.List.Elements.{All-weaker}
use Rattle.std.proofs.lemmas.List.Sums.{sum_by-cons}
use Rattle.vm_ids.specs.declared.numbers.ActorId.{ActorId}
use Rattle.vm_model.specs.Machine as model
use Rattle.vm_model.specs.declared.limits.TheConstants.{MOST_MADE}
use Rattle.regions.specs.AddressSpace.{AddressSpace}
use Rattle.contexts.specs.Actors.{times_among}
use Rattle.contexts.specs.Counting.{count_of, one_for, times_in, times_mapped}
use Rattle.contexts.specs.Layout.{AllStartAs, IsChanged, IsKept, IsSound, StartsAs, owner_of, regions_in}
use Rattle.contexts.specs.declared.contexts.Contexts.TheInside.{Inside}
use Rattle.contexts.proofs.Owners.{IsFor, kept_before, owner_before, owner_next}
use Rattle.contexts.proofs.Once.{AreOnce, once_more}
use Rattle.contexts.proofs.Places.{Numbered}
use Rattle.contexts.proofs.Kept.{changed_kept, changed_living}
use Rattle.contexts.proofs.Counted.{mapped_few, times_changed}
use Rattle.contexts.proofs.Few.{regions_few}
use Rattle.contexts.proofs.Starts.{started_changed, starts_before, starts_next}

-- no more is counted than there are numbers of regions
pub sound_few : (i : Inside) → IsSound i → (n : ℕ) → count_of i.mapped n ≤ MOST_MADE
sound_few i k n =
    let few = k.few in
    omega (arith, few, k.mapped n, mapped_few n (regions_in i.actors.items), regions_few i.page i.owners.items i.actors.items k.kept)

module _ (i j : Inside) (k : IsSound i) (page : j.page ≡ i.page) (living : j.living ≡ i.living) where
  sound_changed : (a : ℕ) (by : model.Actor → model.Actor) (e : IsChanged a by i.actors.items j.actors.items) → length j.owners.items ≤ MOST_MADE
      → ((n : ℕ) (s : AddressSpace) → IsKept i.page i.owners.items n s → IsKept i.page j.owners.items n s) → (All (IsFor i.owners.items a) e.space.regions → All (IsFor j.owners.items a) (by e.space.regions))
      → (All (IsFor i.owners.items a) e.space.regions → AreOnce e.space.regions → AreOnce (by e.space.regions))
      → ((n : ℕ) → count_of j.mapped n + times_in n (Some e.space.regions) ≡ count_of i.mapped n + times_in n (Some (by e.space.regions)))
      → length j.starts.items ≡ length j.owners.items → ((r : model.Region) → StartsAs i.starts.items r → StartsAs j.starts.items r)
      → (All (StartsAs i.starts.items) e.space.regions → All (StartsAs j.starts.items) (by e.space.regions)) → IsSound j
  sound_changed a by e few weaker this once counts starts still_starts this_starts = record {
    some = subst (λ (p : ℕ). 1 ≤ p) (sym page) k.some;
    most = subst (λ (p : ℕ). p ≤ 2 ^ 16) (sym page) k.most;
    living = living ∙ k.living ∙ sym (changed_living a by i.actors.items j.actors.items e);
    few = few;
    mapped = λ n. omega (arith, counts n, k.mapped n, times_changed a by i.actors.items j.actors.items e n);
    kept = subst (λ (p : ℕ). Numbered (IsKept p j.owners.items) j.actors.items) (sym page)
        (changed_kept a by i.actors.items j.actors.items e i.page i.owners.items j.owners.items weaker this once k.kept);
    starts = starts;
    started = started_changed a by i.actors.items j.actors.items e i.starts.items j.starts.items still_starts this_starts k.started;
  }

  -- the actors and the owners are as they were
  pub sound_still : j.actors.items ≡ i.actors.items → j.owners.items ≡ i.owners.items → j.starts.items ≡ i.starts.items → ((n : ℕ) → count_of j.mapped n ≡ count_of i.mapped n) → IsSound j
  sound_still actors owners starts counts = record {
    some = subst (λ (p : ℕ). 1 ≤ p) (sym page) k.some;
    most = subst (λ (p : ℕ). p ≤ 2 ^ 16) (sym page) k.most;
    living = living ∙ k.living ∙ sym (ap (count_by is_some) actors);
    few = subst (λ (os : List ActorId). length os ≤ MOST_MADE) (sym owners) k.few;
    mapped = λ n. counts n ∙ k.mapped n ∙ ap (λ (xs : List (Option AddressSpace)). times_mapped n (regions_in xs)) (sym actors);
    kept = subst (λ (xs : List (Option AddressSpace)). Numbered (IsKept j.page j.owners.items) xs) (sym actors)
        (subst (λ (os : List ActorId). Numbered (IsKept j.page os) i.actors.items) (sym owners)
        (subst (λ (p : ℕ). Numbered (IsKept p i.owners.items) i.actors.items) (sym page) k.kept));
    starts = ap length starts ∙ k.starts ∙ ap length (sym owners);
    started = subst (λ (xs : List (Option AddressSpace)). AllStartAs j.starts.items xs) (sym actors)
        (subst (λ (ss : List ℕ). AllStartAs ss i.actors.items) (sym starts) k.started);
  }

  -- no region was made
  pub sound_same : (a : ℕ) (by : model.Actor → model.Actor) (e : IsChanged a by i.actors.items j.actors.items) → j.owners.items ≡ i.owners.items → j.starts.items ≡ i.starts.items
      → (All (IsFor i.owners.items a) e.space.regions → All (IsFor i.owners.items a) (by e.space.regions)) → (AreOnce e.space.regions → AreOnce (by e.space.regions))
      → ((n : ℕ) → count_of j.mapped n + times_in n (Some e.space.regions) ≡ count_of i.mapped n + times_in n (Some (by e.space.regions)))
      → (All (StartsAs i.starts.items) e.space.regions → All (StartsAs i.starts.items) (by e.space.regions)) → IsSound j
  sound_same a by e owners starts this once counts this_starts =
      sound_changed a by e (subst (λ (os : List ActorId). length os ≤ MOST_MADE) (sym owners) k.few)
      (subst (λ (os : List ActorId). (n : ℕ) (s : AddressSpace) → IsKept i.page i.owners.items n s → IsKept i.page os n s) (sym owners) (λ n s h. h))
      (subst (λ (os : List ActorId). All (IsFor i.owners.items a) e.space.regions → All (IsFor os a) (by e.space.regions)) (sym owners) this)
      (λ _. once) counts (ap length starts ∙ k.starts ∙ ap length (sym owners))
      (λ r. subst (λ (ss : List ℕ). StartsAs i.starts.items r → StartsAs ss r) (sym starts) (λ f. f))
      (subst (λ (ss : List ℕ). All (StartsAs i.starts.items) e.space.regions → All (StartsAs ss) (by e.space.regions)) (sym starts) this_starts)

  -- one was made for this actor
  pub sound_more : (actor : ActorId) (fresh : model.Region) (by : model.Actor → model.Actor) (e : IsChanged actor.0 by i.actors.items j.actors.items) → j.owners.items ≡ i.owners.items ++ actor ∷ [] → j.starts.items ≡ i.starts.items ++ fresh.start ∷ []
      → length i.owners.items < MOST_MADE
      → fresh.number ≡ length i.owners.items + 1
      → ((P : ℕ → ℕ → Type 0) → P fresh.number fresh.start → All (λ (r : model.Region). P r.number r.start) e.space.regions → All (λ (r : model.Region). P r.number r.start) (by e.space.regions))
      → ((n : ℕ) → times_among n (Some (by e.space.regions)) ≡ times_among n (Some (fresh ∷ e.space.regions)))
      → ((n : ℕ) → times_in n (Some (by e.space.regions)) ≡ times_in n (Some (fresh ∷ e.space.regions)))
      → ((n : ℕ) → count_of j.mapped n ≡ count_of i.mapped n + one_for fresh.cache n) → IsSound j
  sound_more actor fresh by e owners starts few next this more_by more_in counts =
      let start : ℕ = fresh.start in
      let starting : length i.starts.items ≡ length i.owners.items = k.starts in
      let number : fresh.number ≡ length i.starts.items + 1 = omega (arith, next, starting) in
      let more : List ActorId = i.owners.items ++ actor ∷ [] in
      sound_changed actor.0 by e (omega (arith, few, ap length owners, length-append i.owners.items (actor ∷ [])))
      (subst (λ (os : List ActorId). (n : ℕ) (s : AddressSpace) → IsKept i.page i.owners.items n s → IsKept i.page os n s) (sym owners) (kept_before i.page i.owners.items actor))
      (λ h. subst (λ (os : List ActorId). All (IsFor os actor.0) (by e.space.regions)) (sym owners)
      (this (λ n _. owner_of more n ≡ Some actor) (subst (λ (n : ℕ). owner_of more n ≡ Some actor) (sym next) (owner_next i.owners.items actor))
      (All-weaker (IsFor i.owners.items actor.0) (IsFor more actor.0) (λ r f. owner_before i.owners.items actor r.number actor f) e.space.regions h)))
      (λ h once. once_more i.owners.items actor.0 fresh e.space.regions (by e.space.regions) next h more_by once)
      (λ n. omega (arith, counts n, more_in n, sum_by-cons (λ (r : model.Region). one_for r.cache n) fresh e.space.regions))
      (omega (arith, starting, ap length starts, ap length owners, length-append i.owners.items (actor ∷ []), length-append i.starts.items (start ∷ [])))
      (λ r. subst (λ (ss : List ℕ). StartsAs i.starts.items r → StartsAs ss r) (sym starts) (starts_before i.starts.items start r))
      (λ h. subst (λ (ss : List ℕ). All (StartsAs ss) (by e.space.regions)) (sym starts)
      (this (λ n at. slice_get (i.starts.items ++ start ∷ []) (n - 1) ≡ Some at) (starts_next i.starts.items start fresh.number number)
      (All-weaker (StartsAs i.starts.items) (StartsAs (i.starts.items ++ start ∷ [])) (starts_before i.starts.items start) e.space.regions h)))
