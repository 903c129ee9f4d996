use Rattle.std.proofs.Common.{◌-◌, ◌≤◌}
use Rattle.page_commands.proofs.MovedPages.Parts.{MovesPages}
use Rattle.page_commands.proofs.moving.move_each.Given as goal

abbrev pub invariant-loop-done : goal.invariant-loop-done
invariant-loop-done l = record {
  moved : MovesPages l.span.from l.span.from_page.0 l.span.to l.span.to_page.0 l.done l.fn.store l.fn.caches l.store l.caches;
  few : l.done ≤ l.span.pages;
}

abbrev pub decreases-loop-done : goal.decreases-loop-done
decreases-loop-done l = l.span.pages - l.done
