use Rattle.std.proofs.Common.{◌==◌}
use Rattle.page_tables.proofs.Narrowing.{narrowed_rows}
use Rattle.page_tables.proofs.tables.PageTables.narrow_frame.Goals as goal

pub invariant_of-self : goal.invariant_of-self
invariant_of-self c = narrowed_rows c.self.inside.places c.narrow_frame.new.self c.self.inside.rows (λ n. n == c.args.frame.0) c.self.invariant c.narrow_frame.ensures
