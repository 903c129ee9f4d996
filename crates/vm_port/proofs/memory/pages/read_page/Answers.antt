use Rattle.std.proofs.Common.{length, sym}
use Rattle.vm_port.proofs.Holding.{page_length}
use Rattle.vm_port.proofs.memory.pages.read_page.Goals as goal

pub copy_from_slice-requires : goal.copy_from_slice-requires
copy_from_slice-requires c = sym (page_length c.args.segments.now c.args.seg c.args.page (length c.args.into.now) c.in-Some.bytes.now c.requires.whole (sym c.in-Some.ensures))
