use Rattle.std.proofs.Common.{◌≡◌, ◌-◌, ◌≤◌}
use Rattle.stretches.specs.Cells.{cells}
use Rattle.local_cache.specs.Singles.{IsCounted, without_range}
use Rattle.local_cache.proofs.runs.clearing.clear_many.Given as goal

abbrev pub invariant-loop-next : goal.invariant-loop-next
invariant-loop-next g l = record {
  from : l.first ≤ l.next;
  within : l.next ≤ l.end;
  cells : cells g.V.Says l.list.list
      ≡ without_range (cells g.V.Says l.initial.list.list) l.first (l.next - l.first);
  counted : IsCounted g.V.Says l.list;
  places : l.list.places ≡ l.initial.list.places;
}

abbrev pub decreases-loop-next : goal.decreases-loop-next
decreases-loop-next g l = l.end - l.next
