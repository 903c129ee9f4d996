use Rattle.std.proofs.Common.{◌≡◌, map}
use Rattle.page_tables.specs.Entries.{is_in_range}
use Rattle.page_tables.specs.Translations.{unless}
use Rattle.page_tables.proofs.tables.PageTables.drop_pages.Given as goal

abbrev pub invariant-loop-i : goal.invariant-loop-i
invariant-loop-i l = l.self ≡ map (unless (is_in_range l.actor.0 l.first l.i)) l.fn.self
