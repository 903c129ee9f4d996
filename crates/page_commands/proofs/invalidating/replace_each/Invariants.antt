use Rattle.std.proofs.Common.{◌-◌, ◌≤◌}
use Rattle.page_commands.proofs.PassedOver.Replacing.{ReplacesPages}
use Rattle.page_commands.proofs.invalidating.replace_each.Given as goal

abbrev pub invariant-loop-done : goal.invariant-loop-done
invariant-loop-done l = record {
  replaced : ReplacesPages l.extent.cache l.extent.first.0 l.done l.fn.store l.fn.caches l.store l.caches;
  few : l.done ≤ l.extent.pages;
}

abbrev pub decreases-loop-done : goal.decreases-loop-done
decreases-loop-done l = l.extent.pages - l.done
