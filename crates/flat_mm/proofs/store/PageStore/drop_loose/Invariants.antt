use Rattle.std.proofs.Common.{length}
use Rattle.flat_mm.proofs.Loosening.{IsDropping}
use Rattle.flat_mm.proofs.store.PageStore.drop_loose.Given as goal

abbrev pub invariant-loop-self : goal.invariant-loop-self
invariant-loop-self l = IsDropping l.fn.self l.self

abbrev pub decreases-loop-self : goal.decreases-loop-self
decreases-loop-self l = length l.self.loose
