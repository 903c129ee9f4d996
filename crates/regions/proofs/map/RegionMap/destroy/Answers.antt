use Rattle.std.proofs.Common.{◌≡◌, length, map, sym, ap, subst, ◌∙◌, arith}
use Rattle.std.proofs.lemmas.List.Edits.{length-remove}
use Rattle.stretches.specs.Leaves.{entries}
use Rattle.stretches.specs.Spots.{index}
use Rattle.vm_model.specs.Answering.{without_region}
use Rattle.regions.specs.AddressSpace.{AddressSpace, AreInOrder, StartsAt}
use Rattle.regions.specs.Seen.{region_seen}
use Rattle.regions.proofs.Found.{removed, stays}
use Rattle.regions.proofs.Ordered.{without_keeps}
use Rattle.regions.proofs.map.RegionMap.destroy.Goals as goal

pub spot_of-requires-clause-start : goal.spot_of-requires-clause-start
spot_of-requires-clause-start c = subst (λ (s : AddressSpace). StartsAt c.args.id.0 c.args.start s.regions) (sym c.self.view_is) c.requires

pub returns-in_default-clause-regions : goal.returns-in_default-clause-regions
returns-in_default-clause-regions c =
    let n = c.args.id.0 in
    subst (λ (s : AddressSpace). s.regions ≡ without_region n s.regions) c.self.view_is (sym (stays n (entries c.self.inside.regions) c.in_default.ensures.place))

pub invariant_of-self : goal.invariant_of-self
invariant_of-self c =
    let n = c.args.id.0 in
    let b = c.self.inside.page_bytes in
    let l = c.self.inside.regions in
    let seen = ap (map region_seen) c.remove.ensures.entries ∙ removed n (entries l) (index l c.in-Some.spot) c.in-Some.ensures.place in
    record {
      some = c.self.invariant.some;
      most = c.self.invariant.most;
      order = subst (AreInOrder b 0) (sym seen) (without_keeps n b 0 (map region_seen (entries l)) c.self.invariant.order);
    }

pub returns-clause-regions : goal.returns-clause-regions
returns-clause-regions c =
    let n = c.args.id.0 in
    let l = c.self.inside.regions in
    ap (map region_seen) c.remove.ensures.entries ∙ removed n (entries l) (index l c.in-Some.spot) c.in-Some.ensures.place
    ∙ ap (λ (s : AddressSpace). without_region n s.regions) c.self.view_is

pub returns-clause-spare : goal.returns-clause-spare
returns-clause-spare c =
    let l = c.self.inside.regions in
    omega (
      arith,
      ap (λ (s : AddressSpace). s.spare) c.self.view_is,
      c.remove.ensures.places,
      ap length c.remove.ensures.entries,
      length-remove (entries l) (index l c.in-Some.spot) c.in-Some.ensures.place.within,
    )
