use Rattle.std.proofs.Common.{ap, sym, ◌∙◌}
use Rattle.stretches.proofs.Nothing.{match_none}
use Rattle.regions.specs.declared.region.Region.{Region}
use Rattle.regions.proofs.Found.{last_is, last_other, none_starts}
use Rattle.regions.proofs.Ordered.{starts_rise}
use Rattle.regions.proofs.search.spot_of.Goals as goal

pub spot_behind-behind-requires : goal.spot_behind-behind-requires
spot_behind-behind-requires c = starts_rise c.args.page_bytes 0 _ c.requires.order

pub returns-in_err-last-clause-place : goal.returns-in_err-last-clause-place
returns-in_err-last-clause-place c =
    match_none _ c.from_residual.result c.from_residual.ensures
    (none_starts c.args.page_bytes c.args.number.0 c.args.start _ _ c.requires.some c.requires.order c.requires.start c.spot_behind-behind.ensures.parted c.in_err-last.ensures)

pub returns-then-at-number-clause-place : goal.returns-then-at-number-clause-place
returns-then-at-number-clause-place c =
    last_is c.args.page_bytes c.args.number.0 c.args.start _ _ c.requires.some c.requires.order c.requires.start c.spot_behind-behind.ensures.parted _ c.at.result.now
    c.in_ok-last.ensures.1 (ap (λ (r : Region). r.number.0) (sym c.at.ensures) ∙ c.if-at-number.true)

pub returns-else-at-number-clause-place : goal.returns-else-at-number-clause-place
returns-else-at-number-clause-place c =
    last_other c.args.page_bytes c.args.number.0 c.args.start _ _ c.requires.some c.requires.order c.requires.start c.spot_behind-behind.ensures.parted _ c.at.result.now
    c.in_ok-last.ensures.1 (λ same. c.if-at-number.false (ap (λ (r : Region). r.number.0) c.at.ensures ∙ same))
