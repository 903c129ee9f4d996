use Rattle.std.proofs.Common.{◌≡◌}
use Rattle.flat_mm.specs.Store.{AreWhole, cleared}
use Rattle.flat_mm.proofs.span_calls.clear.Given as goal

abbrev pub invariant-loop-i : goal.invariant-loop-i
invariant-loop-i l = (l.store ≡ cleared l.initial.store l.span l.i) × (AreWhole l.initial.store → AreWhole l.store)
