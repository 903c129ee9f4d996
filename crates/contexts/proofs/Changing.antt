-- A region that is told becomes another one with its number, among the spaces of the actors.
use Rattle.std.proofs.Common.{◌≡◌, ◌==◌, ℕ, ◌+◌, ◌-◌, ◌≤◌, cond, List, [], ◌∷◌, length, Option, Some, refl, sym, ap, subst, ◌∙◌, arith}
use Rattle.std.specs.Prelude.{IsSome, is_some, slice_get}
use Rattle.std.specs.Vec.{with_items}
use Rattle.std.proofs.lemmas.List.{with_items_is}
use Rattle.std.proofs.lemmas.List.Elements.{All-cons, All-nil}
use Rattle.vm_ids.specs.declared.reply.RegionStatus.{RegionStatus}
use Rattle.vm_model.specs.Machine.{Actor, Region, numbered}
use Rattle.vm_model.specs.Regions.{region_among, replace_in, replace_region, status_with}
use Rattle.vm_model.proofs.Parts.Lists.{is_there}
use Rattle.regions.specs.AddressSpace.{AddressSpace, StartsAt}
use Rattle.contexts.specs.Actors.{Actors}
use Rattle.contexts.specs.Counting.{count_of, times_mapped}
use Rattle.contexts.specs.Layout.{IsChanged, IsSound, StartsAs, actors_seen, owner_of, regions_in}
use Rattle.contexts.specs.declared.contexts.Contexts.TheInside.{Inside}
use Rattle.contexts.proofs.Counted.{times_here}
use Rattle.contexts.proofs.Once.{once_same, times_same}
use Rattle.contexts.proofs.Owners.{IsFor}
use Rattle.contexts.proofs.Replaced.{all_replaced}
use Rattle.contexts.proofs.Sound.{sound_same}
use Rattle.contexts.proofs.Starts.{told_starts}
use Rattle.contexts.proofs.Told.{IsTold, is_told, told_alive, told_among, told_becomes}

module _ (i : Inside) (a : Actors) (seen : actors_seen i ≡ a) (n : ℕ) (s : RegionStatus) (is : status_with n 1 a.actors ≡ Some s) where
  -- what is seen of the region is told of the spaces
  pub told_inside : IsTold n 1 (regions_in i.actors.items) s
  told_inside = is_told n 1 (regions_in i.actors.items) s (subst (λ (a : Actors). status_with n 1 a.actors ≡ Some s) (sym seen) is)

  -- its cache is mapped
  pub told_counted : 1 ≤ times_mapped s.mapping.extent.cache.0 (regions_in i.actors.items)
  told_counted =
      let t = told_inside in
      let space = is_there (numbered i.actors.items s.actor.0) (told_alive n i.actors.items s t) in
      subst (λ (u : RegionStatus). 1 ≤ times_mapped u.mapping.extent.cache.0 (regions_in i.actors.items)) (sym t.told)
      (times_here i.actors.items s.actor.0 space.0 space.1 n t.region (told_among n i.actors.items s t space.0 space.1))

  module _ (xs : List (Option AddressSpace)) (same : xs ≡ i.actors.items) where
    pub inside_alive : IsSome (numbered xs s.actor.0)
    inside_alive = subst (λ (xs : List (Option AddressSpace)). IsSome (numbered xs s.actor.0)) (sym same) (told_alive n i.actors.items s told_inside)

    pub inside_there : (space : AddressSpace) → numbered xs s.actor.0 ≡ Some space → IsSome (region_among n space.regions)
    inside_there space here = ap is_some (told_among n i.actors.items s told_inside space (subst (λ (xs : List (Option AddressSpace)). numbered xs s.actor.0 ≡ Some space) same here))

    pub inside_starts : IsSound i → (space : AddressSpace) → numbered xs s.actor.0 ≡ Some space → StartsAt n s.mapping.address space.regions
    inside_starts sound space here =
        told_starts i.starts.items n i.actors.items s told_inside sound.started space (subst (λ (xs : List (Option AddressSpace)). numbered xs s.actor.0 ≡ Some space) same here)

    module _ (change : Region → Region) where
      -- it becomes one region
      abbrev one : Region → List Region
      one r = change r ∷ []

      module _ (ys : List (Option AddressSpace)) (len : length ys ≡ i.actors.len) (by : IsChanged s.actor.0 (replace_region n one) xs ys) where
        changed : IsChanged s.actor.0 (replace_region n one) i.actors.items ys
        changed = subst (λ (xs : List (Option AddressSpace)). IsChanged s.actor.0 (replace_region n one) xs ys) same by

        pub inside_sound : ((r : Region) → (change r).number ≡ r.number) → ((r : Region) → (change r).cache ≡ r.cache) → ((r : Region) → (change r).start ≡ r.start) → IsSound i → IsSound (record i { actors = with_items i.actors ys })
        inside_sound number cache start sound =
            let e : IsChanged s.actor.0 (replace_region n one) i.actors.items (with_items i.actors ys).items = subst (IsChanged s.actor.0 (replace_region n one) i.actors.items) (sym (with_items_is i.actors ys len)) changed in
            let P : Region → Type 0 = IsFor i.owners.items s.actor.0 in
            let r = told_inside.region in
            let among = told_among n i.actors.items s told_inside e.space e.here in
            sound_same i (record i { actors = with_items i.actors ys }) sound refl refl s.actor.0 (replace_region n one) e refl refl
            (all_replaced P n one r e.space.regions among (λ p. All-cons P (change r) [] (subst (λ (k : ℕ). owner_of i.owners.items k ≡ Some (record { 0 = s.actor.0 })) (sym (number r)) p) (All-nil P)))
            (once_same n one r e.space.regions among (λ k. omega (arith, ap {B = ℕ} (λ (m : ℕ). cond (m == k) 1 0) (number r))))
            (λ k. ap (λ (m : ℕ). count_of i.mapped k + m)
            (sym (times_same (λ (x : Region). x.cache == k) n one r e.space.regions among (omega (arith, ap {B = ℕ} (λ (m : ℕ). cond (m == k) 1 0) (cache r))))))
            (let starts = i.starts.items in
            all_replaced (StartsAs starts) n one r e.space.regions among
            (λ p. All-cons (StartsAs starts) (change r) [] (subst (λ (k : ℕ). slice_get starts (k - 1) ≡ Some (change r).start) (sym (number r)) (subst (λ (at : ℕ). slice_get starts (r.number - 1) ≡ Some at) (sym (start r)) p)) (All-nil (StartsAs starts))))

        pub inside_seen : actors_seen (record i { actors = with_items i.actors ys }) ≡ record a { actors = replace_in n one a.actors }
        inside_seen =
            ap (λ (zs : List (Option Actor)). record (actors_seen i) { actors = zs }) (ap regions_in (with_items_is i.actors ys len) ∙ told_becomes n i.actors.items s told_inside one ys changed)
            ∙ ap (λ (a : Actors). record a { actors = replace_in n one a.actors }) seen
