use Rattle.replay.proofs.KeepsFormed.{formed}
use Rattle.replay.proofs.segments.SegManagerAnswerer.read_line.Goals as goal

pub returns-clause-formed : goal.returns-clause-formed
returns-clause-formed g c = rw c.read_keep.ensures (formed c.args.line.now)
