use Rattle.std.proofs.Common.{◌≡◌, ◌+◌, ◌-◌, ◌≤◌}
use Rattle.std.specs.FinMap as map
use Rattle.local_cache.specs.PageNodes.{without_names}
use Rattle.local_cache.proofs.runs.naming.leave_pages.Given as goal

abbrev pub invariant-loop-done : goal.invariant-loop-done
invariant-loop-done l = record {
  most : l.done ≤ l.count;
  few : l.live ≤ l.done;
  pages : l.pages.nodes.cells ≡ without_names l.initial.pages.nodes.cells l.nodes.cells l.first l.done;
  fewer : map.len l.pages.nodes.cells + l.live ≡ map.len l.initial.pages.nodes.cells;
  count : l.pages.nodes.count + l.live ≡ l.initial.pages.nodes.count;
  room : l.pages.nodes.room ≡ l.initial.pages.nodes.room;
}

abbrev pub decreases-loop-done : goal.decreases-loop-done
decreases-loop-done l = l.count - l.done
