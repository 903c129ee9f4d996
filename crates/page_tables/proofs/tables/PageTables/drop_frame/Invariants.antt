use Rattle.std.proofs.Common.{◌≡◌, map}
use Rattle.page_tables.specs.Entries.{is_in_frame}
use Rattle.page_tables.specs.Translations.{entry_count, unless, IsFrame}
use Rattle.page_tables.proofs.tables.PageTables.drop_frame.Given as goal

abbrev pub invariant-loop-place : goal.invariant-loop-place
invariant-loop-place l = record { frame : IsFrame l.self l.frame.0; rest : map (unless (is_in_frame l.frame.0)) l.self ≡ map (unless (is_in_frame l.frame.0)) l.fn.self }

abbrev pub decreases-loop-place : goal.decreases-loop-place
decreases-loop-place l = entry_count l.self
