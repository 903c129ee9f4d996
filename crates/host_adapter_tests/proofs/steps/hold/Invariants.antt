use Rattle.std.proofs.Common.{◌≡◌}
use Rattle.host_adapter_tests.proofs.steps.hold.Given as goal

abbrev pub invariant-loop-step : goal.invariant-loop-step
invariant-loop-step l = l.mapper.page_bytes ≡ 512
