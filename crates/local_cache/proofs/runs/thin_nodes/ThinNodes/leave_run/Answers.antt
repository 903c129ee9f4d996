use Rattle.std.proofs.Common.{ap, arith}
use Rattle.std.specs.FinMap as map
use Rattle.stretches.specs.Cells.{cells}
use Rattle.stretches.specs.Rising.{rising}
use Rattle.local_cache.proofs.ManyNodes.Cleared.{len_range_most}
use Rattle.local_cache.proofs.runs.thin_nodes.ThinNodes.leave_run.Goals as goal

pub invariant_of-self : goal.invariant_of-self
invariant_of-self c =
    let less = ap map.len c.clear_many.ensures.cells in
    let most = len_range_most (cells rising c.self.inside.runs.list) c.in-Some.number c.args.nodes.count in
    record {
      counted = c.clear_many.ensures.counted;
      places = omega (arith, c.clear_many.ensures.places, c.self.invariant.places);
      few = omega (arith, less, most, c.self.invariant.few);
    }
