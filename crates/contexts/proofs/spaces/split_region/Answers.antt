use Rattle.std.proofs.Common.{◌≡◌, ℕ, ◌+◌, ◌-◌, ◌*◌, ◌<◌, Some, ap, set, sym, subst, ◌∙◌}
use Rattle.std.specs.Prelude.{IsSome, IsSomeAnd}
use Rattle.vm_model.specs.Machine.{Actor}
use Rattle.vm_model.specs.Regions.{region_among, replace_region, split_at}
use Rattle.regions.specs.AddressSpace.{AddressSpace, StartsAt}
use Rattle.contexts.specs.Layout.{IsChanged}
use Rattle.contexts.proofs.Places.{found_here}
use Rattle.contexts.proofs.spaces.split_region.Goals as goal

pub unreachable-requires : goal.unreachable-requires
unreachable-requires c =
    let none = found_here c.args.spaces.now c.args.actor.0 _ _ c.requires.alive c.in-None.is in
    absurd (cc (subst IsSome none c.requires.alive))

pub split-requires-clause-start : goal.split-requires-clause-start
split-requires-clause-start c =
    let here = found_here c.args.spaces.now c.args.actor.0 _ _ c.requires.alive c.in-Some.is in
    subst (λ (s : AddressSpace). StartsAt c.args.region.0 c.args.start s.regions) (sym c.reserve.ensures.same) (c.requires.start c.in-Some.regions here)

pub split-requires-clause-fewer : goal.split-requires-clause-fewer
split-requires-clause-fewer c =
    let here = found_here c.args.spaces.now c.args.actor.0 _ _ c.requires.alive c.in-Some.is in
    subst (λ (s : AddressSpace). IsSomeAnd (region_among c.args.region.0 s.regions) (λ r. c.args.pages < r.pages)) (sym c.reserve.ensures.same) (c.requires.fewer c.in-Some.regions here)

pub returns-clause-ok : goal.returns-clause-ok
returns-clause-ok c = λ s at.
    let n = c.args.actor.0 in
    let xs = c.args.spaces.now in
    let old : AddressSpace = c.in-Some.regions in
    let room : AddressSpace = c.reserve.new.self in
    let by : ℕ → Actor → Actor = λ page. replace_region c.args.region.0 (split_at page c.args.pages c.args.fresh.0) in
    let here = found_here xs n _ _ c.requires.alive c.in-Some.is in
    let both = sym here ∙ at in
    let is : old ≡ s = cc both in
    let same = c.split.ensures.cut ∙ ap (λ (t : AddressSpace). record t { spare = t.spare - 1; regions = by t.page_bytes t.regions }) c.reserve.ensures.same in
    subst (λ (t : AddressSpace). IsChanged n (by t.page_bytes) xs (set xs (n - 1) (Some c.split.new.self))) is
    (record { space = old; here = here; spare = room.spare - 1; there = ap (λ (t : AddressSpace). set xs (n - 1) (Some t)) same })

pub returns-clause-address : goal.returns-clause-address
returns-clause-address c = λ s at.
    let old : AddressSpace = c.in-Some.regions in
    let P : AddressSpace → Type 0 = λ t. IsSomeAnd (region_among c.args.region.0 t.regions) (λ r. c.split.result ≡ r.start + t.page_bytes * c.args.pages) in
    let here = found_here c.args.spaces.now c.args.actor.0 _ _ c.requires.alive c.in-Some.is in
    let both = sym here ∙ at in
    let is : old ≡ s = cc both in
    subst P is (subst P c.reserve.ensures.same c.split.ensures.address)
