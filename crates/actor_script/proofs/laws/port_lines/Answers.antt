use Rattle.actor_script.proofs.Fronts.{port_command_of-front}
use Rattle.actor_script.proofs.PortWorked as worked
use Rattle.actor_script.proofs.laws.port_lines.Goals as goal

pub returns-clause-fronts : goal.returns-clause-fronts
returns-clause-fronts c = port_command_of-front

pub returns-clause-port : goal.returns-clause-port
returns-clause-port c = worked.port

pub returns-clause-send : goal.returns-clause-send
returns-clause-send c = worked.send

pub returns-clause-receive : goal.returns-clause-receive
returns-clause-receive c = worked.receive

pub returns-clause-shared : goal.returns-clause-shared
returns-clause-shared c = worked.shared

pub returns-clause-too_deep : goal.returns-clause-too_deep
returns-clause-too_deep c = worked.too_deep

pub returns-clause-not_shared : goal.returns-clause-not_shared
returns-clause-not_shared c = worked.not_shared
