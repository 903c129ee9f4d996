use Rattle.std.proofs.Common.{◌≡◌, ◌+◌, ◌-◌, ◌≤◌}
use Rattle.std.specs.FinMap as map
use Rattle.stretches.specs.Cells.{cells}
use Rattle.local_cache.specs.Singles.{without_range}
use Rattle.local_cache.proofs.runs.counting.count_said.Given as goal

abbrev pub invariant-loop-next : goal.invariant-loop-next
invariant-loop-next g l = record {
  from : l.first ≤ l.next;
  within : l.next ≤ l.end;
  few : l.first + l.said ≤ l.next;
  said : l.said + map.len (without_range (cells g.V.Says l.list.list) l.first (l.next - l.first))
      ≡ map.len (cells g.V.Says l.list.list);
}

abbrev pub decreases-loop-next : goal.decreases-loop-next
decreases-loop-next g l = l.end - l.next
