use Rattle.std.proofs.Common.{◌≡◌}
use Rattle.host_adapter_tests.proofs.steps.all_hold.Given as goal

abbrev pub invariant-loop-run : goal.invariant-loop-run
invariant-loop-run l = (l.one.page_bytes ≡ 512) × (l.other.page_bytes ≡ 512)
