use Rattle.transit_ipc.proofs.Definition.InOrder.{messages_are_in_order}
use Rattle.transit_ipc.proofs.laws.sending.Goals as goal

pub returns : goal.returns
returns c = messages_are_in_order
