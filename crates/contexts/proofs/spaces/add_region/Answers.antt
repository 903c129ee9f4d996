use Rattle.std.proofs.Common.{◌≡◌, ◌-◌, Some, false, ap, set, sym, subst, ◌∙◌}
use Rattle.std.specs.Prelude.{IsSome}
use Rattle.std.specs.List.{list_any}
use Rattle.vm_model.specs.Answering.{insert_region, overlaps, region_of}
use Rattle.regions.specs.AddressSpace.{AddressSpace, IsWellFormed}
use Rattle.contexts.proofs.Places.{found_here}
use Rattle.contexts.proofs.spaces.add_region.Goals as goal

pub unreachable-requires : goal.unreachable-requires
unreachable-requires c =
    let none = found_here c.args.spaces.now c.args.actor.0 _ _ c.requires.alive c.in-None.is in
    absurd (cc (subst IsSome none c.requires.alive))

pub create-requires-clause-formed : goal.create-requires-clause-formed
create-requires-clause-formed c =
    let here = found_here c.args.spaces.now c.args.actor.0 _ _ c.requires.alive c.in-Some.is in
    subst (λ (s : AddressSpace). IsWellFormed s.page_bytes (region_of c.args.region.0 c.args.mapping)) (sym c.reserve.ensures.same) (c.requires.formed c.in-Some.regions here)

pub create-requires-clause-fits : goal.create-requires-clause-fits
create-requires-clause-fits c =
    let here = found_here c.args.spaces.now c.args.actor.0 _ _ c.requires.alive c.in-Some.is in
    subst (λ (s : AddressSpace). list_any (overlaps s.page_bytes c.args.mapping.address c.args.mapping.extent.pages) s.regions ≡ false) (sym c.reserve.ensures.same) (c.requires.fits c.in-Some.regions here)

pub returns-clause-ok : goal.returns-clause-ok
returns-clause-ok c =
    let n = c.args.actor.0 in
    let old : AddressSpace = c.in-Some.regions in
    let room : AddressSpace = c.reserve.new.self in
    let by = insert_region (region_of c.args.region.0 c.args.mapping) in
    let same = c.create.ensures ∙ ap (λ (s : AddressSpace). record s { spare = s.spare - 1; regions = by s.regions }) c.reserve.ensures.same in
    record {
      space = old;
      here = found_here c.args.spaces.now n _ _ c.requires.alive c.in-Some.is;
      spare = room.spare - 1;
      there = ap (λ (s : AddressSpace). set c.args.spaces.now (n - 1) (Some s)) same;
    }
