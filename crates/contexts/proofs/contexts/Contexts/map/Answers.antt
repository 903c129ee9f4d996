use Rattle.std.proofs.Common.{◌≡◌, ◌==◌, ℕ, ◌+◌, ◌-◌, ◌<◌, ◌∷◌, ◌++◌, [], false, List, Option, Some, length, refl, set, sym, ap, subst, ◌∙◌, arith}
use Rattle.std.specs.Prelude.{IsSome, IsSomeAnd, option_map}
use Rattle.std.specs.List.{list_any}
use Rattle.std.proofs.lemmas.List.{length-append, with_items_is}
use Rattle.vm_model.specs.declared.limits.TheConstants.{MOST_MADE}
use Rattle.vm_ids.specs.declared.command.Mapping.{Mapping}
use Rattle.vm_ids.specs.declared.numbers.ActorId.{ActorId}
use Rattle.vm_model.specs.Answering.{insert_region, overlaps, region_of}
use Rattle.vm_model.specs.Machine.{Actor, Region, numbered}
use Rattle.regions.specs.AddressSpace.{AddressSpace}
use Rattle.contexts.specs.Actors.{Actors, with_region}
use Rattle.contexts.specs.Counting.{one_for, times_in}
use Rattle.contexts.specs.Layout.{IsChanged, actors_seen, regions_in}
use Rattle.contexts.specs.declared.contexts.Contexts.TheInside.{Inside}
use Rattle.contexts.proofs.Owners.{all_insert}
use Rattle.contexts.proofs.Once.{is_numbered, times_insert}
use Rattle.contexts.proofs.Kept.{changed_same, changed_seen, err_all, seen_and}
use Rattle.contexts.proofs.Sound.{sound_few, sound_more, sound_same, sound_still}
use Rattle.contexts.proofs.contexts.Contexts.map.Goals as goal

pub invariant_of-self-in_err-add_region : goal.invariant_of-self-in_err-add_region
invariant_of-self-in_err-add_region c =
    let i = c.self.inside in
    let a = c.args.actor.0 in
    let ys = c.add_region.new.spaces in
    let e : IsChanged a (λ rs. rs) i.actors.items ys =
    subst (λ (xs : List (Option AddressSpace)). IsChanged a (λ rs. rs) xs ys) c.deref_mut.ensures.value c.in_err-add_region.ensures.err in
    let items = with_items_is i.actors ys (omega (arith, c.add_region.auto.spaces, c.deref_mut.ensures.len)) in
    let same : IsChanged a (λ rs. rs) i.actors.items (Rattle.std.specs.Vec.with_items i.actors ys).items =
    subst (IsChanged a (λ rs. rs) i.actors.items) (sym items) e in
    sound_same i _ c.self.invariant refl refl a (λ rs. rs) same c.reserve.ensures.items c.reserve-2.ensures.items (λ h. h) (λ h. h)
    (λ n. ap (λ (k : ℕ). k + times_in n (Some same.space.regions)) (c.make_place.ensures.same n)) (λ h. h)

pub invariant_of-self-2 : goal.invariant_of-self-2
invariant_of-self-2 c =
    let i = c.self.inside in
    let a = c.args.actor.0 in
    let ys = c.add_region.new.spaces in
    let r = region_of c.next_region-region.result.0 c.args.mapping in
    let items = with_items_is i.actors ys (omega (arith, c.add_region.auto.spaces, c.deref_mut.ensures.len)) in
    let change = subst (λ (xs : List (Option AddressSpace)). IsChanged a (insert_region r) xs ys) c.deref_mut.ensures.value c.in_ok-add_region.ensures.ok in
    let e : IsChanged a (insert_region r) i.actors.items (Rattle.std.specs.Vec.with_items i.actors ys).items =
    subst (IsChanged a (insert_region r) i.actors.items) (sym items) change in
    let after : c.push_reserved.new.self.items ≡ i.owners.items ++ c.args.actor ∷ [] = c.push_reserved.ensures.items ∙ ap (λ (os : List ActorId). os ++ c.args.actor ∷ []) c.reserve.ensures.items in
    let starts : c.push_reserved-2.new.self.items ≡ i.starts.items ++ r.start ∷ [] = c.push_reserved-2.ensures.items ∙ ap (λ (ss : List ℕ). ss ++ r.start ∷ []) c.reserve-2.ensures.items in
    let number : r.number ≡ length i.owners.items + 1 = subst (λ (t : Actors). r.number ≡ t.regions_made + 1) (sym c.self.view_is) c.next_region-region.ensures in
    let few : length i.owners.items < MOST_MADE = subst (λ (t : Actors). t.regions_made < MOST_MADE) (sym c.self.view_is) c.requires.few in
    sound_more i _ c.self.invariant refl refl c.args.actor r (insert_region r) e after starts few number
    (λ P new h. all_insert (λ (x : Region). P x.number x.start) r e.space.regions new h) (λ n. times_insert (is_numbered n) r e.space.regions)
    (λ n. times_insert (λ (x : Region). x.cache == n) r e.space.regions) (λ n. c.add.ensures n ∙ ap (λ (k : ℕ). k + one_for r.cache n) (c.make_place.ensures.same n))

pub returns-in_err-add_region-clause-err : goal.returns-in_err-add_region-clause-err
returns-in_err-add_region-clause-err c =
    let i = c.self.inside in
    let a = c.args.actor.0 in
    let ys = c.add_region.new.spaces in
    let e : IsChanged a (λ rs. rs) i.actors.items ys =
    subst (λ (xs : List (Option AddressSpace)). IsChanged a (λ rs. rs) xs ys) c.deref_mut.ensures.value c.in_err-add_region.ensures.err in
    let items = with_items_is i.actors ys (omega (arith, c.add_region.auto.spaces, c.deref_mut.ensures.len)) in
    let seen = ap regions_in items ∙ changed_same a i.actors.items ys e in
    let made = ap length c.reserve.ensures.items in
    err_all c.from_residual-in_err-add_region.result
    (subst (λ (t : Actors). (record { page_bytes = i.page; actors = regions_in (Rattle.std.specs.Vec.with_items i.actors ys).items; regions_made = length c.reserve.new.self.items }) ≡ t) c.self.view_is
    (λ j. record { page_bytes = i.page; actors = seen j; regions_made = made j }))

pub returns-clause-ok : goal.returns-clause-ok
returns-clause-ok c =
    let i = c.self.inside in
    let a = c.args.actor.0 in
    let ys = c.add_region.new.spaces in
    let fresh : ℕ = c.next_region-region.result.0 in
    let r = region_of fresh c.args.mapping in
    let e : IsChanged a (insert_region r) i.actors.items ys =
    subst (λ (xs : List (Option AddressSpace)). IsChanged a (insert_region r) xs ys) c.deref_mut.ensures.value c.in_ok-add_region.ensures.ok in
    let items = with_items_is i.actors ys (omega (arith, c.add_region.auto.spaces, c.deref_mut.ensures.len)) in
    let after : c.push_reserved.new.self.items ≡ i.owners.items ++ c.args.actor ∷ [] = c.push_reserved.ensures.items ∙ ap (λ (os : List ActorId). os ++ c.args.actor ∷ []) c.reserve.ensures.items in
    let made : length c.push_reserved.new.self.items ≡ length i.owners.items + 1 = omega (arith, ap length after, length-append i.owners.items (c.args.actor ∷ [])) in
    let number : fresh ≡ length i.owners.items + 1 = subst (λ (t : Actors). fresh ≡ t.regions_made + 1) (sym c.self.view_is) c.next_region-region.ensures in
    let seen = ap regions_in items ∙ changed_seen a (insert_region r) i.actors.items ys e
    ∙ ap (λ (n : ℕ). set (regions_in i.actors.items) (a - 1) (option_map (insert_region (region_of n c.args.mapping)) (numbered (regions_in i.actors.items) a))) number in
    subst (λ (t : Actors). (record { page_bytes = i.page; actors = regions_in (Rattle.std.specs.Vec.with_items i.actors ys).items; regions_made = length c.push_reserved.new.self.items }) ≡ with_region t a c.args.mapping) c.self.view_is
    (λ j. record { page_bytes = i.page; actors = seen j; regions_made = made j })

-- the pages share no address with a region of the actor
abbrev IsFreeAt : Mapping → ℕ → ℕ → List (Option Actor) → Type 0
IsFreeAt mapping a page actors = IsSomeAnd (numbered actors a) (λ rs. list_any (overlaps page mapping.address mapping.extent.pages) rs ≡ false)

free_at : (mapping : Mapping) (a : ℕ) (i : Inside) (t : Actors) → actors_seen i ≡ t → IsFreeAt mapping a t.page_bytes t.actors
    → IsSome (numbered i.actors.items a) × ((s : AddressSpace) → numbered i.actors.items a ≡ Some s → list_any (overlaps i.page mapping.address mapping.extent.pages) s.regions ≡ false)
free_at mapping a i t is h =
    seen_and (λ rs. list_any (overlaps i.page mapping.address mapping.extent.pages) rs ≡ false) i.actors.items a
    (subst (λ (u : Actors). IsFreeAt mapping a u.page_bytes u.actors) (sym is) h)

pub invariant_of-self : goal.invariant_of-self
invariant_of-self c = sound_still c.self.inside _ c.self.invariant refl refl refl c.reserve.ensures.items refl (λ n. refl)

pub invariant_of-self-in_err-reserve-2 : goal.invariant_of-self-in_err-reserve-2
invariant_of-self-in_err-reserve-2 c = sound_still c.self.inside _ c.self.invariant refl refl refl c.reserve.ensures.items c.reserve-2.ensures.items (λ n. refl)

pub invariant_of-self-in_err-make_place : goal.invariant_of-self-in_err-make_place
invariant_of-self-in_err-make_place c = sound_still c.self.inside _ c.self.invariant refl refl refl c.reserve.ensures.items c.reserve-2.ensures.items c.make_place.ensures.same

-- no number is too large
pub add-requires-clause-few : goal.add-requires-clause-few
add-requires-clause-few c =
    let n = c.args.mapping.extent.cache.0 in
    omega (arith, c.make_place.ensures.same n, sound_few c.self.inside c.self.invariant n)

pub add_region-requires-clause-alive : goal.add_region-requires-clause-alive
add_region-requires-clause-alive c =
    let a = c.args.actor.0 in
    subst (λ (ys : List (Option AddressSpace)). IsSome (numbered ys a)) (sym c.deref_mut.ensures.value)
    (free_at c.args.mapping a c.self.inside c.args.self.now c.self.view_is c.requires.fits).0

pub add_region-requires-clause-fits : goal.add_region-requires-clause-fits
add_region-requires-clause-fits c =
    let a = c.args.actor.0 in
    let p = c.args.mapping in
    let free = free_at p a c.self.inside c.args.self.now c.self.view_is c.requires.fits in
    subst (λ (ys : List (Option AddressSpace)). (s : AddressSpace) → numbered ys a ≡ Some s → list_any (overlaps s.page_bytes p.address p.extent.pages) s.regions ≡ false) (sym c.deref_mut.ensures.value)
    (λ s here. subst (λ (page : ℕ). list_any (overlaps page p.address p.extent.pages) s.regions ≡ false) (sym (c.self.invariant.kept a s here).page_bytes) (free.1 s here))
