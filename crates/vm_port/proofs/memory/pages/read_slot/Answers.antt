use Rattle.std.proofs.Common.{length, sym}
use Rattle.vm_port.proofs.Holding.{slot_length}
use Rattle.vm_port.proofs.memory.pages.read_slot.Goals as goal

pub copy_from_slice-requires : goal.copy_from_slice-requires
copy_from_slice-requires c = sym (slot_length c.args.slots.now c.args.slot (length c.args.into.now) c.in-Some.bytes.now c.requires.whole (sym c.in-Some.ensures))
