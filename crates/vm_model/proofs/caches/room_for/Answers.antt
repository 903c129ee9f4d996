use Rattle.std.proofs.Common.{None}
use Rattle.vm_model.proofs.Machines.Sound.{zeros_whole}
use Rattle.vm_model.proofs.caches.room_for.Goals as goal

pub returns-clause-whole : goal.returns-clause-whole
returns-clause-whole c = zeros_whole (record { segment = None; pages = c.in_ok-zero_pages.field-0 }) c.in-Some.size c.args.tables.now.page_bytes c.in_ok-zero_pages.ensures
