use Rattle.transit_ipc.proofs.Definition.Played.{messages_in_order, refused_messages}
use Rattle.transit_ipc.proofs.laws.worked_scripts.Goals as goal

pub returns-clause-messages_in_order : goal.returns-clause-messages_in_order
returns-clause-messages_in_order c = messages_in_order

pub returns-clause-refused_messages : goal.returns-clause-refused_messages
returns-clause-refused_messages c = refused_messages
