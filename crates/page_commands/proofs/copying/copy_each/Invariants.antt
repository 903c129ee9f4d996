use Rattle.std.proofs.Common.{◌-◌, ◌≤◌, leb}
use Rattle.vm_ids.specs.Forest.Commands.{small_copy}
use Rattle.page_commands.proofs.CopiedPages.Parts.{CopiesPages}
use Rattle.page_commands.proofs.copying.copy_each.Given as goal

abbrev pub invariant-loop-done : goal.invariant-loop-done
invariant-loop-done l = record {
  copied : CopiesPages (leb l.span.pages small_copy) l.span.from l.span.from_page.0 l.span.to l.span.to_page.0 l.done l.fn.store l.fn.caches l.store l.caches;
  few : l.done ≤ l.span.pages;
}

abbrev pub decreases-loop-done : goal.decreases-loop-done
decreases-loop-done l = l.span.pages - l.done
