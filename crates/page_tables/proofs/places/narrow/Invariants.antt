use Rattle.std.proofs.Common.{◌≡◌, map, true}
use Rattle.std.specs.Prelude.{count_by}
use Rattle.page_tables.specs.Entries.{frame_row}
use Rattle.page_tables.specs.Indexes.{listed_at}
use Rattle.page_tables.specs.Membership.{is_on}
use Rattle.page_tables.specs.Translations.{narrowed}
use Rattle.page_tables.proofs.places.narrow.Given as goal

abbrev pub invariant-loop-place : goal.invariant-loop-place
invariant-loop-place l = record {
  lists : l.by_frame.lists ≡ l.fn.by_frame.lists;
  on : l.by_frame.on ≡ map listed_at l.entries;
  rest : map (narrowed l.frame.0) l.entries ≡ map (narrowed l.frame.0) l.fn.entries;
}

abbrev pub decreases-loop-place : goal.decreases-loop-place
decreases-loop-place l = count_by (is_on (frame_row l.frame.0 true)) l.by_frame.on
