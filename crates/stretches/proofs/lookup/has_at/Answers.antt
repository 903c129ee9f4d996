use Rattle.std.proofs.Common.{sym, ap, subst, ◌∙◌}
use Rattle.stretches.specs.Leaves.{entries}
use Rattle.stretches.specs.Spots.{index}
use Rattle.stretches.specs.declared.stretch.Stretch.{Stretch}
use Rattle.stretches.specs.Stretch.{IsFit, is_in}
use Rattle.stretches.proofs.Leaves.Held.{held_within}
use Rattle.stretches.proofs.Reading.Numbers.{any_default}
use Rattle.stretches.proofs.Reading.Order.{fit_at}
use Rattle.stretches.proofs.lookup.has_at.Goals as goal

pub has-requires : goal.has-requires
has-requires g c =
    let l = c.args.stretches.now in
    subst (IsFit g.V.Says) (sym c.get.ensures) (fit_at g.V.Says 0 (entries l) c.requires.order (index l c.args.spot) c.get.result (held_within l c.args.spot c.requires.held))

pub returns : goal.returns
returns g c =
    let l = c.args.stretches.now in
    let at = index l c.args.spot in
    let within = held_within l c.args.spot c.requires.held in (
      (λ yes. record { within = within; has = λ d. ap (λ (r : Stretch _). is_in r c.args.number) (any_default _ at d _ within ∙ sym c.get.ensures) ∙ sym c.has.ensures ∙ yes }),
      (λ has. c.has.ensures ∙ ap (λ (r : Stretch _). is_in r c.args.number) c.get.ensures ∙ has.has c.get.result),
    )
