use Rattle.std.proofs.Common.{◌≡◌, ◌+◌, ◌-◌, ◌≤◌}
use Rattle.vm_ids.specs.Forest.Commands.{extent_names, page_names}
use Rattle.residency.specs.Translating.{without}
use Rattle.page_commands.specs.Translating.{is_seen}
use Rattle.page_commands.proofs.StaleTranslations.Ranges.{OnlyTables}
use Rattle.page_commands.proofs.translations.drop_seen.Given as goal

abbrev pub invariant-loop-done : goal.invariant-loop-done
invariant-loop-done l =
    let seen = is_seen l.fn.caches l.fn.store.map in
    let all = extent_names l.extent in
    let left = page_names l.extent.cache (l.extent.first.0 + l.done) (l.extent.pages - l.done) in
    record {
      most : l.done ≤ l.extent.pages;
      only : OnlyTables l.fn.store l.store;
      tables : without (seen left) l.store.tables ≡ without (seen all) l.fn.store.tables;
    }

abbrev pub decreases-loop-done : goal.decreases-loop-done
decreases-loop-done l = l.extent.pages - l.done
