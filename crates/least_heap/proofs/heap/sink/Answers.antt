use Rattle.std.proofs.Common.{ℕ, List, refl, sym, subst, set}
use Rattle.least_heap.specs.declared.heap.Numbered.{Numbered}
use Rattle.least_heap.specs.Heaps.{entry_at, IsSinking}
use Rattle.least_heap.proofs.Moving.{IsOnWay, sink_on}
use Rattle.least_heap.proofs.heap.sink.Goals as goal

pub loop-below-preserved : goal.loop-below-preserved
loop-below-preserved c =
    subst (λ (h : List Numbered). IsOnWay IsSinking (set c.args.heap.now c.args.index c.args.numbered) h c.stand.new.stands c.in-Some.below c.args.numbered) (sym c.stand.ensures.heap)
    (subst (λ (s : List ℕ). IsOnWay IsSinking (set c.args.heap.now c.args.index c.args.numbered) (set c.loop-below.heap c.loop-below.hole (entry_at c.loop-below.heap c.in-Some.below)) s c.in-Some.below c.args.numbered) (sym c.stand.ensures.stands)
    (sink_on (set c.args.heap.now c.args.index c.args.numbered) c.loop-below.heap c.loop-below.stands c.loop-below.hole c.in-Some.below c.args.numbered (entry_at c.loop-below.heap c.in-Some.below) c.loop-below.invariant c.in-Some.ensures.below.0 c.in-Some.ensures.below.1 c.in-Some.ensures.below.2 c.in-Some.ensures.less c.in-Some.ensures.least refl))
