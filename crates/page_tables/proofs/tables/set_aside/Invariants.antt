use Rattle.std.proofs.Common.{◌≡◌, map}
use Rattle.std.specs.Prelude.{count_by}
use Rattle.page_tables.specs.Entries.{actor_row, is_picked}
use Rattle.page_tables.specs.Membership.{is_on}
use Rattle.page_tables.specs.Translations.{unless}
use Rattle.page_tables.proofs.RowPlaces.{IsSorting}
use Rattle.page_tables.proofs.tables.set_aside.Given as goal

abbrev pub invariant-loop-place : goal.invariant-loop-place
invariant-loop-place l = record { sorting : IsSorting l.places l.rows l.actor.0 l.pages; rest : map (unless (is_picked l.actor.0 l.pages)) l.places ≡ map (unless (is_picked l.actor.0 l.pages)) l.fn.places }

abbrev pub decreases-loop-place : goal.decreases-loop-place
decreases-loop-place l = count_by (is_on (actor_row l.actor.0)) l.rows.on
