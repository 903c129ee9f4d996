use Rattle.std.proofs.Common.{ap, sym, subst, IsSome, ◌∙◌}
use Rattle.std.proofs.lemmas.Bool.{false≢true}
use Rattle.stretches.specs.Leaves.{entries}
use Rattle.stretches.specs.Spots.{index}
use Rattle.stretches.specs.declared.stretch.Stretch.{Stretch}
use Rattle.stretches.proofs.Nothing.{match_none}
use Rattle.stretches.proofs.Reading.Numbers.{any_default}
use Rattle.stretches.proofs.Reading.Together.{part_is, part_together, together_said}
use Rattle.stretches.proofs.bounds.whole_spot.Goals as goal

pub returns-then-is_of-clause-part : goal.returns-then-is_of-clause-part
returns-then-is_of-clause-part g c =
    let within = c.in_ok-spot.ensures.has.within in
    let same = λ (d : Stretch _). any_default _ (index c.args.stretches.now c.in_ok-spot.spot) d _ within ∙ sym c.get-stretch.ensures in
    let numbers = c.is_of.ensures.0 c.if-is_of.true in
    record {
      within = within;
      first = λ d. ap (λ (r : Stretch _). r.first) (same d) ∙ numbers.0;
      count = λ d. ap (λ (r : Stretch _). r.count) (same d) ∙ numbers.1;
    }

pub returns-else-is_of-clause-part : goal.returns-else-is_of-clause-part
returns-else-is_of-clause-part g c at part =
    let here = part_is g.V.Says _ c.requires.order c.args.first c.args.count at _ c.get-stretch.result c.requires.some part c.in_ok-spot.ensures.has in
    false≢true (sym c.if-is_of.false ∙ c.is_of.ensures.1 (
      ap (λ (r : Stretch _). r.first) c.get-stretch.ensures ∙ here.first c.get-stretch.result,
      ap (λ (r : Stretch _). r.count) c.get-stretch.ensures ∙ here.count c.get-stretch.result,
    ))

pub returns-in_err-spot-clause-part : goal.returns-in_err-spot-clause-part
returns-in_err-spot-clause-part g c =
    match_none _ c.from_residual.result c.from_residual.ensures (λ at part.
    false≢true (subst IsSome c.in_err-spot.ensures.has (together_said g.V.Says _ c.requires.order c.args.first c.args.count c.requires.some (part_together (entries c.args.stretches.now) c.args.first c.args.count at part))))
