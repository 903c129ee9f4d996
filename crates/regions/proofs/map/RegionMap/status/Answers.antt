use Rattle.std.proofs.Common.{Some, sym, ap, subst, ◌∙◌}
use Rattle.std.specs.Prelude.{option_map}
use Rattle.stretches.specs.Leaves.{entries}
use Rattle.stretches.specs.Spots.{index}
use Rattle.vm_model.specs.Regions.{region_among}
use Rattle.regions.specs.AddressSpace.{AddressSpace, StartsAt, view_of}
use Rattle.regions.specs.Seen.{region_seen}
use Rattle.regions.specs.declared.region.Region.{Region}
use Rattle.regions.proofs.Found.{among_found, among_none}
use Rattle.regions.proofs.map.RegionMap.status.Goals as goal

pub spot_of-requires-clause-start : goal.spot_of-requires-clause-start
spot_of-requires-clause-start c = subst (λ (s : AddressSpace). StartsAt c.args.id.0 c.args.start s.regions) (sym c.self.view_is) c.requires

pub returns : goal.returns
returns c =
    let n = c.args.id.0 in
    let l = c.self.inside.regions in
    let found = among_found n (entries l) (index l c.in_ok-spot.spot) c.at.result.now c.in_ok-spot.ensures.place in
    ap (λ v. Some v) c.view.ensures
    ∙ ap (λ (r : Region). Some (view_of (region_seen r))) c.at.ensures
    ∙ ap (option_map view_of) (sym found)
    ∙ ap (λ (s : AddressSpace). option_map view_of (region_among n s.regions)) c.self.view_is

pub returns-in_err-spot : goal.returns-in_err-spot
returns-in_err-spot c =
    let n = c.args.id.0 in
    c.from_residual.ensures
    ∙ ap (option_map view_of) (sym (among_none n (entries c.self.inside.regions) c.in_err-spot.ensures.place))
    ∙ ap (λ (s : AddressSpace). option_map view_of (region_among n s.regions)) c.self.view_is
