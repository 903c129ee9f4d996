use Rattle.std.proofs.Common.{◌≡◌}
use Rattle.own_states.specs.Blocks.{with_code}
use Rattle.own_states.proofs.block.Block.write.Given as goal

-- so many codes are written
abbrev pub invariant-loop-k : goal.invariant-loop-k
invariant-loop-k l = l.self ≡ record l.initial.self { codes = with_code l.initial.self.codes l.fn.from l.k l.fn.code }
