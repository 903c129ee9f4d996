use Rattle.page_tables.proofs.Narrowing.{narrowed_rows}
use Rattle.page_tables.proofs.tables.PageTables.narrow_picked.Goals as goal

pub invariant_of-self : goal.invariant_of-self
invariant_of-self g c = narrowed_rows c.self.inside.places c.narrow_picked.new.self c.self.inside.rows c.narrow_picked.ensures.frames c.self.invariant c.narrow_picked.ensures.tables
