use Rattle.std.proofs.Common.{◌-◌, Some, ap, set, subst}
use Rattle.std.specs.Prelude.{IsSome}
use Rattle.regions.specs.AddressSpace.{AddressSpace}
use Rattle.contexts.proofs.Places.{found_here}
use Rattle.contexts.proofs.spaces.lock_region.Goals as goal

pub unreachable-requires : goal.unreachable-requires
unreachable-requires c =
    let none = found_here c.args.spaces.now c.args.actor.0 _ _ c.requires.alive c.in-None.is in
    absurd (cc (subst IsSome none c.requires.alive))

pub set_locked-requires-clause-start : goal.set_locked-requires-clause-start
set_locked-requires-clause-start c = c.requires.start c.in-Some.regions (found_here c.args.spaces.now c.args.actor.0 _ _ c.requires.alive c.in-Some.is)

pub set_locked-requires-clause-there : goal.set_locked-requires-clause-there
set_locked-requires-clause-there c = c.requires.there c.in-Some.regions (found_here c.args.spaces.now c.args.actor.0 _ _ c.requires.alive c.in-Some.is)

pub returns : goal.returns
returns c =
    let n = c.args.actor.0 in
    let old : AddressSpace = c.in-Some.regions in
    record {
      space = old;
      here = found_here c.args.spaces.now n _ _ c.requires.alive c.in-Some.is;
      spare = old.spare;
      there = ap (λ (s : AddressSpace). set c.args.spaces.now (n - 1) (Some s)) c.set_locked.ensures;
    }
