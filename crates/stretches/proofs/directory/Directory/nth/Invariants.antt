use Rattle.std.proofs.Common.{◌≡◌}
use Rattle.stretches.specs.Spots.{index_at}
use Rattle.stretches.proofs.directory.Directory.nth.Given as goal

-- so far behind the start of this leaf stands the entry
abbrev pub invariant-loop-leaf : goal.invariant-loop-leaf
invariant-loop-leaf g l = index_at l.self.lists l.leaf l.ahead ≡ l.index
