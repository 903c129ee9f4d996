use Rattle.std.proofs.Common.{ap, arith}
use Rattle.seg_manager.proofs.Lookup.Placed.{placed_none}
use Rattle.seg_manager.proofs.links.Links.new.Goals as goal

pub invariant_of-result : goal.invariant_of-result
invariant_of-result c = (omega arith, omega arith, placed_none c.new-2.result.items c.new.result.places 0 c.new-2.ensures.items (ap (λ e. e.places) c.new.ensures))
