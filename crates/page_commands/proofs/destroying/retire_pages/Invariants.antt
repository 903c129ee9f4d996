use Rattle.std.proofs.Common.{◌-◌, ◌≤◌}
use Rattle.page_commands.proofs.RetiredPages.Parts.{RetiresPages}
use Rattle.page_commands.proofs.destroying.retire_pages.Given as goal

abbrev pub invariant-loop-done : goal.invariant-loop-done
invariant-loop-done l = record {
  retired : RetiresPages l.cache 0 l.done l.fn.store l.fn.caches l.store l.caches;
  few : l.done ≤ l.pages;
}

abbrev pub decreases-loop-done : goal.decreases-loop-done
decreases-loop-done l = l.pages - l.done
