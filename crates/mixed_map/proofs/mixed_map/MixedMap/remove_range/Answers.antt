use Rattle.std.proofs.Common.{◌≡◌, ◌+◌, inl, inr, sym, ap, subst, ◌∙◌, arith}
use Rattle.std.proofs.lemmas.Bool.{cases_eq}
use Rattle.std.specs.Prelude.{IsSome}
use Rattle.std.specs.Ordering.{nat_cmp}
use Rattle.std.specs.FinMap.{FinMap}
use Rattle.std.specs.FinMap as map
use Rattle.mixed_map.specs.Mixed.{without_range}
use Rattle.mixed_map.proofs.Maps.{range_behind, range_more}
use Rattle.mixed_map.proofs.mixed_map.MixedMap.remove_range.Goals as goal

pub remove_some-done-requires-clause-held : goal.remove_some-done-requires-clause-held
remove_some-done-requires-clause-held g c =
    let first = c.args.first in
    let done = c.loop-done.done in
    let left = ap (λ (m : FinMap nat_cmp _). map.get m (first + done)) c.loop-done.invariant.cells ∙ range_behind c.args.self.now.cells first done (first + done) (omega arith) in
    subst IsSome (sym left) (c.requires.held done (omega (arith, c.loop-done-test.true)))

pub loop-done-preserved : goal.loop-done-preserved
loop-done-preserved g c =
    let first = c.args.first in
    let done = c.loop-done.done in
    let some = c.remove_some-done.result in record {
      within = omega (arith, c.loop-done.invariant.within, c.remove_some-done.ensures.within, c.loop-done-test.true);
      cells = c.remove_some-done.ensures.cells ∙ ap (λ (m : FinMap nat_cmp _). without_range m (first + done) some) c.loop-done.invariant.cells ∙ range_more c.args.self.now.cells first done some;
      slots = c.remove_some-done.ensures.slots ∙ ap (λ (m : FinMap nat_cmp _). without_range m (first + done) some) c.loop-done.invariant.slots ∙ range_more c.args.self.now.slots first done some;
      count = omega (arith, c.loop-done.invariant.count, c.remove_some-done.ensures.count);
      fits = λ h. elim (cases_eq done 0) [
        | inl none ↦ omega (arith, c.remove_some-done.ensures.fits)
        | inr other ↦
            let before = c.loop-done.invariant.fits (omega arith) in
            omega (arith, before, c.remove_some-done.ensures.count, c.remove_some-done.ensures.room)
      ];
      room = c.remove_some-done.ensures.room ∙ c.loop-done.invariant.room;
    }

pub returns-clause-cells : goal.returns-clause-cells
returns-clause-cells g c =
    let all : c.loop-done.done ≡ c.args.count = omega (arith, c.loop-done.invariant.within, c.loop-done-test.false) in
    c.loop-done.invariant.cells ∙ ap (without_range c.args.self.now.cells c.args.first) all

pub returns-clause-slots : goal.returns-clause-slots
returns-clause-slots g c =
    let all : c.loop-done.done ≡ c.args.count = omega (arith, c.loop-done.invariant.within, c.loop-done-test.false) in
    c.loop-done.invariant.slots ∙ ap (without_range c.args.self.now.slots c.args.first) all
