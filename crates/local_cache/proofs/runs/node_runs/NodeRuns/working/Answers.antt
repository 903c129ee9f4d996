use Rattle.std.proofs.Common.{ap, arith}
use Rattle.std.specs.FinMap as map
use Rattle.local_cache.specs.PageNodes.{PageNodes}
use Rattle.local_cache.proofs.NodesKept.{few_pages}
use Rattle.local_cache.proofs.runs.node_runs.NodeRuns.working.Goals as goal

pub overflow_sub-result : goal.overflow_sub-result
overflow_sub-result c = omega (arith, c.self.invariant.counted.nodes, c.self.invariant.counted.live, few_pages c.self.inside.table.cells c.self.inside.pages.nodes.cells c.self.invariant.paged)

pub returns-clause-working : goal.returns-clause-working
returns-clause-working c =
    omega (
      arith,
      c.self.invariant.counted.nodes,
      c.self.invariant.counted.live,
      few_pages c.self.inside.table.cells c.self.inside.pages.nodes.cells c.self.invariant.paged,
      ap (λ (m : PageNodes). map.len m.cells) c.self.view_is,
      ap (λ (m : PageNodes). map.len m.pages) c.self.view_is,
    )

pub returns-clause-few : goal.returns-clause-few
returns-clause-few c = omega (arith, c.self.invariant.places.nodes, c.self.invariant.places.few, ap (λ (m : PageNodes). map.len m.cells) c.self.view_is)
