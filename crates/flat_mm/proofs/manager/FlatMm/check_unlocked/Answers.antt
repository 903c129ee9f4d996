use Rattle.std.proofs.Common.{sym}
use Rattle.flat_mm.proofs.Extents.{extent_locked}
use Rattle.flat_mm.proofs.manager.FlatMm.check_unlocked.Goals as goal

pub returns-then-is_any_locked-clause-refused : goal.returns-then-is_any_locked-clause-refused
returns-then-is_any_locked-clause-refused c = extent_locked c.args.self.now c.args.extent.now c.in_ok-seg.seg c.in_ok-seg.ensures.extent (sym c.if-is_any_locked.ensures)
