use Rattle.std.proofs.Common.{◌≡◌, ◌-◌, ◌≤◌, ℕ, List, Option, Some, None, false, length, sym, ap, subst, ◌∙◌, arith}
use Rattle.std.proofs.lemmas.Option.{slice_get-get_or}
use Rattle.std.specs.Prelude.{is_some}
use Rattle.vm_ids.specs.declared.numbers.ActorId.{ActorId}
use Rattle.vm_model.specs.Machine.{numbered}
use Rattle.vm_model.specs.Regions.{mapping_of, region_among, status_with}
use Rattle.regions.specs.declared.region.RegionView.{RegionView}
use Rattle.contexts.specs.Actors.{Actors, has_region}
use Rattle.contexts.specs.Layout.{owner_of, regions_in}
use Rattle.contexts.proofs.Few.{in_range}
use Rattle.contexts.proofs.Owners.{among_of}
use Rattle.contexts.proofs.Told.{nothing_told, told_here, view_told}
use Rattle.contexts.proofs.Starts.{seen_starts, starts_at}
use Rattle.contexts.proofs.contexts.Contexts.status.Goals.{In-Some}
use Rattle.contexts.proofs.contexts.Contexts.status.Goals as goal

pub returns-in_default : goal.returns-in_default
returns-in_default c =
    let i = c.self.inside in
    let n = c.args.region.0 in
    let none : owner_of i.owners.items n ≡ None = ap (λ (xs : List ActorId). owner_of xs n) (sym c.deref.ensures.value) ∙ sym c.owner_in.ensures ∙ c.in_default.is in
    sym (subst (λ (a : Actors). status_with n 1 a.actors ≡ None) c.self.view_is (nothing_told i.page i.owners.items n i.actors.items None c.self.invariant.kept none tt))

pub returns-in_default-regions : goal.returns-in_default-regions
returns-in_default-regions c =
    let i = c.self.inside in
    let n = c.args.region.0 in
    let owner : ActorId = c.in-Some.actor in
    let is : owner_of i.owners.items n ≡ Some owner = ap (λ (xs : List ActorId). owner_of xs n) (sym c.deref.ensures.value) ∙ sym c.owner_in.ensures ∙ c.in-Some.is in
    let dead : numbered c.args.self.now.actors owner.0 ≡ None = sym c.in_default-regions.ensures.regions in
    let not = subst (λ (a : Actors). has_region n (numbered a.actors owner.0) ≡ false) (sym c.self.view_is) (ap (has_region n) dead) in
    sym (subst (λ (a : Actors). status_with n 1 a.actors ≡ None) c.self.view_is (nothing_told i.page i.owners.items n i.actors.items (Some owner) c.self.invariant.kept is not))

pub returns-in_err-view : goal.returns-in_err-view
returns-in_err-view c =
    let i = c.self.inside in
    let n = c.args.region.0 in
    let owner : ActorId = c.in-Some.actor in
    let is : owner_of i.owners.items n ≡ Some owner = ap (λ (xs : List ActorId). owner_of xs n) (sym c.deref.ensures.value) ∙ sym c.owner_in.ensures ∙ c.in-Some.is in
    let space = c.in-Some-regions.regions.now in
    let alive : numbered c.args.self.now.actors owner.0 ≡ Some space.regions = sym c.in-Some-regions.ensures.regions in
    let gone : is_some (region_among n space.regions) ≡ false = among_of (region_among n space.regions) _ c.in_err-view.ensures in
    let not = subst (λ (a : Actors). has_region n (numbered a.actors owner.0) ≡ false) (sym c.self.view_is) (ap (has_region n) alive ∙ gone) in
    c.from_residual.ensures
    ∙ sym (subst (λ (a : Actors). status_with n 1 a.actors ≡ None) c.self.view_is (nothing_told i.page i.owners.items n i.actors.items (Some owner) c.self.invariant.kept is not))

pub returns : goal.returns
returns c =
    let i = c.self.inside in
    let n = c.args.region.0 in
    let owner : ActorId = c.in-Some.actor in
    let space = c.in-Some-regions.regions.now in
    let alive : numbered (regions_in i.actors.items) owner.0 ≡ Some space.regions =
    subst (λ (a : Actors). numbered a.actors owner.0 ≡ Some space.regions) (sym c.self.view_is) (sym c.in-Some-regions.ensures.regions) in
    let found = view_told (region_among n space.regions) c.in_ok-view.view c.in_ok-view.ensures in
    let told = told_here i.page i.owners.items n owner.0 i.actors.items space.regions found.0 c.self.invariant.kept alive found.1 in
    ap (λ (v : RegionView). Some (record { actor = owner; mapping = v.mapping; locked = v.locked })) found.2
    ∙ sym (subst (λ (a : Actors). status_with n 1 a.actors ≡ Some (record { actor = owner; mapping = mapping_of found.0; locked = found.0.locked })) c.self.view_is told)

-- the region was made
made : (c : In-Some) → (1 ≤ c.args.region.0) × (c.args.region.0 ≤ length c.self.inside.owners.items)
made c =
    in_range c.self.inside.owners.items c.args.region.0 c.in-Some.actor
    (ap (λ (xs : List ActorId). owner_of xs c.args.region.0) (sym c.deref.ensures.value) ∙ sym c.owner_in.ensures ∙ c.in-Some.is)

pub overflow_sub-region : goal.overflow_sub-region
overflow_sub-region c = (made (goal.at.overflow_sub-region c).In-Some).0

pub index-start-requires : goal.index-start-requires
index-start-requires c =
    let range = made (goal.at.index-start-requires c).In-Some in
    let starts = c.self.invariant.starts in
    omega (arith, range.0, range.1, starts)

pub status-requires : goal.status-requires
status-requires c =
    let i = c.self.inside in
    let n = c.args.region.0 in
    let space = c.in-Some-regions.regions.now in
    let range = made (goal.at.status-requires c).In-Some in
    let starts = c.self.invariant.starts in
    let alive : numbered (regions_in i.actors.items) c.in-Some.actor.0 ≡ Some space.regions =
    subst (λ (a : Actors). numbered a.actors c.in-Some.actor.0 ≡ Some space.regions) (sym c.self.view_is) (sym c.in-Some-regions.ensures.regions) in
    starts_at i.starts.items n c.index-start.result.now space.regions (seen_starts i.starts.items i.actors.items c.self.invariant.started c.in-Some.actor.0 space.regions alive)
    (slice_get-get_or i.starts.items (n - 1) c.index-start.result.now (omega (arith, range.0, range.1, starts)) ∙ ap {B = Option ℕ} (λ (k : ℕ). Some k) (sym c.index-start.ensures))
