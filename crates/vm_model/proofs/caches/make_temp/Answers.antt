use Rattle.std.proofs.Common.{None}
use Rattle.vm_model.proofs.Machines.Sound.{zeros_whole}
use Rattle.vm_model.proofs.caches.make_temp.Goals as goal

pub add_cache-requires-clause-whole : goal.add_cache-requires-clause-whole
add_cache-requires-clause-whole c = zeros_whole (record { segment = None; pages = c.in_ok-pages_made.pages_made }) c.args.pages c.args.tables.now.page_bytes c.in_ok-pages_made.ensures
