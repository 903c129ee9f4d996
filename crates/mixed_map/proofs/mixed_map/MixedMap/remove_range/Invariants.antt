use Rattle.std.proofs.Common.{◌≡◌, ◌+◌, ◌-◌, ◌<◌, ◌≤◌}
use Rattle.mixed_map.specs.Mixed.{without_range}
use Rattle.mixed_map.proofs.mixed_map.MixedMap.remove_range.Given as goal

-- so many entries are taken out
abbrev pub invariant-loop-done : goal.invariant-loop-done
invariant-loop-done g l = record {
  within : l.done ≤ l.count;
  cells : l.self.cells ≡ without_range l.initial.self.cells l.first l.done;
  slots : l.self.slots ≡ without_range l.initial.self.slots l.first l.done;
  count : l.self.count + l.done ≡ l.initial.self.count;
  fits : 0 < l.done → l.self.count + l.done ≤ l.self.room;
  room : l.self.room ≡ l.initial.self.room;
}

abbrev pub decreases-loop-done : goal.decreases-loop-done
decreases-loop-done g l = l.count - l.done
