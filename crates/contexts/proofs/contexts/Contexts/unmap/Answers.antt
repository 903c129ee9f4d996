use Rattle.std.proofs.Common.{◌≡◌, ◌==◌, ◌≤◌, ℕ, List, Option, Some, true, length, map, refl, sym, ap, subst, ◌∙◌, arith}
use Rattle.std.specs.Prelude.{is_some, option_map}
use Rattle.std.specs.Vec.{with_items}
use Rattle.std.proofs.lemmas.List.{with_items_is}
use Rattle.vm_ids.specs.declared.reply.RegionStatus.{RegionStatus}
use Rattle.vm_model.specs.Answering.{without_region}
use Rattle.vm_model.specs.Machine.{Actor, Region, numbered}
use Rattle.vm_model.specs.Regions.{status_with}
use Rattle.regions.specs.AddressSpace.{AddressSpace}
use Rattle.contexts.specs.Actors.{Actors, has_region, times_made}
use Rattle.contexts.specs.Counting.{one_for}
use Rattle.contexts.specs.Layout.{IsChanged, IsSound, StartsAs, actors_seen, regions_in}
use Rattle.contexts.specs.declared.contexts.Contexts.TheInside.{Inside}
use Rattle.contexts.proofs.Owners.{IsFor}
use Rattle.contexts.proofs.Changing.{inside_alive, inside_starts, told_counted, told_inside}
use Rattle.contexts.proofs.Gone.{goes}
use Rattle.contexts.proofs.Kept.{all_without}
use Rattle.contexts.proofs.Once.{made_once, once_without, times_gone}
use Rattle.contexts.proofs.Sound.{sound_same}
use Rattle.contexts.proofs.Told.{told_actor, told_among, told_some}
use Rattle.contexts.proofs.contexts.Contexts.unmap.Goals.{In-Some}
use Rattle.contexts.proofs.contexts.Contexts.unmap.Goals as goal

-- what is seen of the fields
once_seen : (i : Inside) → IsSound i → (seen : Actors) → actors_seen i ≡ seen → (n : ℕ) → times_made n seen.actors ≤ 1
once_seen i k seen is n = subst (λ (a : Actors). times_made n a.actors ≤ 1) is (made_once i.page i.owners.items i.actors.items k.kept n)

-- the region is told
told : (c : In-Some) → status_with c.args.region.0 1 c.args.self.now.actors ≡ Some c.in-Some.status
told c = sym c.status.ensures ∙ c.in-Some.is

pub returns-in_default-clause-found : goal.returns-in_default-clause-found
returns-in_default-clause-found c = ap is_some (sym c.in_default.is ∙ c.status.ensures) ∙ told_some c.args.region.0 1 c.args.self.now.actors

pub returns-in_default-clause-once : goal.returns-in_default-clause-once
returns-in_default-clause-once c = once_seen c.self.inside c.self.invariant c.args.self.now c.self.view_is c.args.region.0

pub take-requires : goal.take-requires
take-requires c =
    let s : RegionStatus = c.in-Some.status in
    omega (arith, c.self.invariant.mapped s.mapping.extent.cache.0, told_counted c.self.inside c.args.self.now c.self.view_is c.args.region.0 s (told (goal.at.take-requires c).In-Some))

pub remove_region-requires-clause-alive : goal.remove_region-requires-clause-alive
remove_region-requires-clause-alive c = inside_alive c.self.inside c.args.self.now c.self.view_is c.args.region.0 c.in-Some.status (told (goal.at.remove_region-requires-clause-alive c).In-Some) _ c.deref_mut.ensures.value

pub remove_region-requires-clause-start : goal.remove_region-requires-clause-start
remove_region-requires-clause-start c = inside_starts c.self.inside c.args.self.now c.self.view_is c.args.region.0 c.in-Some.status (told (goal.at.remove_region-requires-clause-start c).In-Some) _ c.deref_mut.ensures.value c.self.invariant

pub invariant_of-self : goal.invariant_of-self
invariant_of-self c =
    let i = c.self.inside in
    let n = c.args.region.0 in
    let s : RegionStatus = c.in-Some.status in
    let a = s.actor.0 in
    let ys = c.remove_region.new.spaces in
    let t = told_inside i c.args.self.now c.self.view_is n s (told (goal.at.invariant_of-self c).In-Some) in
    let items = with_items_is i.actors ys (omega (arith, c.remove_region.auto.spaces, c.deref_mut.ensures.len)) in
    let change = subst (λ (xs : List (Option AddressSpace)). IsChanged a (without_region n) xs ys) c.deref_mut.ensures.value c.remove_region.ensures in
    let e : IsChanged a (without_region n) i.actors.items (with_items i.actors ys).items =
    subst (IsChanged a (without_region n) i.actors.items) (sym items) change in
    let among = told_among n i.actors.items s t e.space e.here in
    let once = (c.self.invariant.kept a e.space e.here).once in
    sound_same i _ c.self.invariant refl refl a (without_region n) e refl refl (all_without (IsFor i.owners.items a) n e.space.regions) (once_without n e.space.regions)
    (λ k.
    omega (
      arith,
      c.take.ensures k,
      ap (λ (u : RegionStatus). one_for u.mapping.extent.cache.0 k) t.told,
      times_gone (λ (x : Region). x.cache == k) n t.region e.space.regions among (once n),
    ))
    (all_without (StartsAs i.starts.items) n e.space.regions)

pub returns-clause-once : goal.returns-clause-once
returns-clause-once c = once_seen c.self.inside c.self.invariant c.args.self.now c.self.view_is c.args.region.0

pub returns-clause-found : goal.returns-clause-found
returns-clause-found c = ap is_some (sym c.in-Some.is ∙ c.status.ensures) ∙ told_some c.args.region.0 1 c.args.self.now.actors

pub returns-clause-gone : goal.returns-clause-gone
returns-clause-gone c = λ _.
    let i = c.self.inside in
    let n = c.args.region.0 in
    let s : RegionStatus = c.in-Some.status in
    let a = s.actor.0 in
    let ys = c.remove_region.new.spaces in
    let t = told_inside i c.args.self.now c.self.view_is n s (told (goal.at.returns-clause-gone c).In-Some) in
    let h : has_region n (numbered (regions_in i.actors.items) a) ≡ true = ap (has_region n) (told_actor n (regions_in i.actors.items) s t) ∙ ap is_some t.there in
    let e : IsChanged a (without_region n) i.actors.items ys =
    subst (λ (xs : List (Option AddressSpace)). IsChanged a (without_region n) xs ys) c.deref_mut.ensures.value c.remove_region.ensures in
    let items = with_items_is i.actors ys (omega (arith, c.remove_region.auto.spaces, c.deref_mut.ensures.len)) in
    let seen = ap regions_in items ∙ goes i.page i.owners.items n a i.actors.items ys e c.self.invariant.kept h in
    subst (λ (t : Actors). (record { page_bytes = i.page; actors = regions_in (with_items i.actors ys).items; regions_made = length i.owners.items }) ≡ record t { actors = map (option_map (without_region n)) t.actors }) c.self.view_is
    (ap (λ (xs : List (Option Actor)). record { page_bytes = i.page; actors = xs; regions_made = length i.owners.items }) seen)
