use Rattle.probe_table.proofs.Closing.{IsClosing}
use Rattle.probe_table.proofs.probe.close_gap.Given as goal

abbrev pub invariant-loop-at : goal.invariant-loop-at
invariant-loop-at l = IsClosing l.hashes l.buckets l.gap l.at
