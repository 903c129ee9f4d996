use Rattle.std.proofs.Common.{◌≤◌, length, ◌-◌}
use Rattle.probe_table.specs.Probing.{IsPassed}
use Rattle.probe_table.proofs.probe.first_with.Given as goal

abbrev pub invariant-loop-wanted : goal.invariant-loop-wanted
invariant-loop-wanted l = (l.from ≤ l.at) × IsPassed l.buckets l.from l.at l.wanted

abbrev pub decreases-loop-wanted : goal.decreases-loop-wanted
decreases-loop-wanted l = length l.buckets - l.at
