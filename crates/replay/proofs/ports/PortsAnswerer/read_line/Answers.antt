use Rattle.replay.proofs.PortsFormed.{formed}
use Rattle.replay.proofs.ports.PortsAnswerer.read_line.Goals as goal

pub returns-clause-formed : goal.returns-clause-formed
returns-clause-formed g c = rw c.read_ports.ensures (formed c.args.line.now)
