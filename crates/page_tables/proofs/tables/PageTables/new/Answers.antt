use Rattle.std.proofs.Common.{◌*◌}
use Rattle.page_tables.proofs.RowPlaces.{empty_rows}
use Rattle.page_tables.proofs.tables.PageTables.new.Goals as goal

pub invariant_of-result : goal.invariant_of-result
invariant_of-result c = rw (c.in_ok-places.ensures, c.in_ok-rows.ensures) (empty_rows (4 * c.args.frames))
