use Rattle.mix_process.specs.Inner.{AreCleared}
use Rattle.mix_process.proofs.mix.Mix.destroy_own.Given as goal

abbrev pub invariant-loop-part : goal.invariant-loop-part
invariant-loop-part g l = AreCleared g.M.Mapper g.G.Gmi l.fn.mapper l.fn.self l.fn.parts.items l.parts.items l.mapper l.self

abbrev pub decreases-loop-part : goal.decreases-loop-part
decreases-loop-part g l = goal.left-loop-part g l
