use Rattle.std.proofs.Common.{◌≡◌, ℕ, ◌<◌, ◌≤◌, Some, false}
use Rattle.probe_table.specs.Entries.{hash_of}
use Rattle.probe_table.specs.Probing.{bucket}
use Rattle.probe_table.proofs.table.ProbeTable.find.Given as goal

abbrev pub invariant-loop-at : goal.invariant-loop-at
invariant-loop-at g l = (k number : ℕ) → l.home ≤ k → k < l.at
    → bucket l.self-inside.buckets.items k ≡ Some number
    → hash_of l.self-inside.hashes.items number ≡ Some l.hash → goal.F-post g l.passes number false
