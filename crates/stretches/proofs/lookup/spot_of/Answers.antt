use Rattle.std.proofs.Common.{sym, subst, ◌∙◌}
use Rattle.std.proofs.lemmas.Bool.{false≢true}
use Rattle.stretches.specs.Leaves.{entries}
use Rattle.stretches.specs.Places.{IsFirstBehind}
use Rattle.stretches.proofs.Reading.Sayings.{said_first, said_last}
use Rattle.stretches.proofs.Nothing.{match_none}
use Rattle.stretches.proofs.lookup.spot_of.Goals as goal

pub returns-else-has_at-2-clause-has : goal.returns-else-has_at-2-clause-has
returns-else-has_at-2-clause-has g c =
    let rs = entries c.args.stretches.now in
    said_last g.V.Says rs c.requires c.args.number _ (subst (IsFirstBehind rs c.args.number) (sym c.in_ok-spot.ensures.1) c.first_behind-behind.ensures.behind)
    (λ has. false≢true (sym c.if-has_at-2.false ∙ c.has_at-2.ensures.1 has))

pub returns-in_err-spot-clause-has : goal.returns-in_err-spot-clause-has
returns-in_err-spot-clause-has g c =
    match_none _ c.from_residual.result c.from_residual.ensures
    (said_first g.V.Says (entries c.args.stretches.now) c.requires c.args.number _ c.first_behind-behind.ensures.behind c.in_err-spot.ensures)
