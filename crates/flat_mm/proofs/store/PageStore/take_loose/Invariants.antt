use Rattle.std.proofs.Common.{◌≡◌}
use Rattle.flat_mm.proofs.Loosening.{taken}
use Rattle.flat_mm.proofs.store.PageStore.take_loose.Given as goal

abbrev pub invariant-loop-taken : goal.invariant-loop-taken
invariant-loop-taken l = l.self ≡ taken l.fn.self l._taken
