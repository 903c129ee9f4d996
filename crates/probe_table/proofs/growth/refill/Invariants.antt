use Rattle.std.proofs.Common.{length}
use Rattle.probe_table.specs.Probing.{IsProbing}
use Rattle.probe_table.proofs.Growing.{hashes_below}
use Rattle.probe_table.proofs.growth.refill.Given as goal

abbrev pub invariant-loop-number : goal.invariant-loop-number
invariant-loop-number l = IsProbing (hashes_below l.hashes l.number) l.buckets (length l.buckets)
