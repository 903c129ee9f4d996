use Rattle.page_tables.proofs.RowPlaces.{put_in_rows}
use Rattle.page_tables.proofs.tables.PageTables.put.Goals as goal

pub invariant_of-self : goal.invariant_of-self
invariant_of-self c =
    rw (c.put.ensures, c.join.ensures, c.leave.ensures) (put_in_rows c.self.inside.places c.self.inside.rows c.args.place c.args.entry c.self.invariant)
