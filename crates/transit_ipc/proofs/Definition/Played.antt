-- The definitions compute the worked scripts.
use Rattle.std.proofs.Common.{refl}
use Rattle.vm_model.specs.Answering as plain
use Rattle.transit_ipc.specs.Answering.{make_port_of, plain_of, receive_of, send_of, unless, with_some}
use Rattle.transit_ipc.specs.Rows.{MessagesInOrder, RefusedMessages}

pub messages_in_order : MessagesInOrder
unfolding make_port_of plain_of receive_of send_of unless with_some plain.make_actor_of plain.make_temp_of plain.map_of plain.load_of plain.store_of plain.unless plain.with_some plain.with_ok
messages_in_order = refl

pub refused_messages : RefusedMessages
unfolding make_port_of plain_of receive_of send_of unless with_some plain.make_actor_of plain.make_temp_of plain.map_of plain.load_of plain.store_of plain.unless plain.with_some plain.with_ok
refused_messages = refl
