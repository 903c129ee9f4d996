use Rattle.std.proofs.Common.{ℕ, List, refl, sym, subst, set}
use Rattle.least_heap.specs.declared.heap.Numbered.{Numbered}
use Rattle.least_heap.specs.Heaps.{entry_at, IsRising}
use Rattle.least_heap.proofs.Moving.{IsOnWay, rise_on}
use Rattle.least_heap.proofs.heap.rise.Goals as goal

pub loop-above-preserved : goal.loop-above-preserved
loop-above-preserved c =
    subst (λ (h : List Numbered). IsOnWay IsRising (set c.args.heap.now c.args.index c.args.numbered) h c.stand.new.stands c.in-Some.above c.args.numbered) (sym c.stand.ensures.heap)
    (subst (λ (s : List ℕ). IsOnWay IsRising (set c.args.heap.now c.args.index c.args.numbered) (set c.loop-above.heap c.loop-above.hole (entry_at c.loop-above.heap c.in-Some.above)) s c.in-Some.above c.args.numbered) (sym c.stand.ensures.stands)
    (rise_on (set c.args.heap.now c.args.index c.args.numbered) c.loop-above.heap c.loop-above.stands c.loop-above.hole c.in-Some.above c.args.numbered (entry_at c.loop-above.heap c.in-Some.above) c.loop-above.invariant c.in-Some.ensures.above.0 c.in-Some.ensures.above.1 c.in-Some.ensures.greater refl))
