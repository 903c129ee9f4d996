use Rattle.std.proofs.Common.{◌≡◌, ◌-◌, Some, ap, set, subst}
use Rattle.std.specs.Prelude.{IsSome}
use Rattle.vm_model.specs.Answering.{without_region}
use Rattle.regions.specs.AddressSpace.{AddressSpace}
use Rattle.contexts.proofs.Places.{found_here}
use Rattle.contexts.proofs.spaces.remove_region.Goals as goal

pub unreachable-requires : goal.unreachable-requires
unreachable-requires c =
    let none = found_here c.args.spaces.now c.args.actor.0 _ _ c.requires.alive c.in-None.is in
    absurd (cc (subst IsSome none c.requires.alive))

pub destroy-requires : goal.destroy-requires
destroy-requires c = c.requires.start c.in-Some.regions (found_here c.args.spaces.now c.args.actor.0 _ _ c.requires.alive c.in-Some.is)

pub returns : goal.returns
returns c =
    let n = c.args.actor.0 in
    let old : AddressSpace = c.in-Some.regions in
    let new : AddressSpace = c.destroy.new.self in
    let e = c.destroy.ensures in
    let same : new ≡ record old { regions = without_region c.args.region.0 old.regions; spare = new.spare } =
    λ i. record { page_bytes = e.page i; spare = new.spare; regions = e.regions i } in
    record {
      space = old;
      here = found_here c.args.spaces.now n _ _ c.requires.alive c.in-Some.is;
      spare = new.spare;
      there = ap (λ (s : AddressSpace). set c.args.spaces.now (n - 1) (Some s)) same;
    }
