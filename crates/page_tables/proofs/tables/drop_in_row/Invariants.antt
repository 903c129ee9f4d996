use Rattle.std.specs.Prelude.{count_by}
use Rattle.page_tables.specs.Membership.{is_on}
use Rattle.page_tables.specs.Rows.{IsAside}
use Rattle.page_tables.proofs.tables.drop_in_row.Given as goal

abbrev pub invariant-loop-place : goal.invariant-loop-place
invariant-loop-place l = IsAside l.places l.rows l.fn.actor.0

abbrev pub decreases-loop-place : goal.decreases-loop-place
decreases-loop-place l = count_by (is_on 1024) l.rows.on
