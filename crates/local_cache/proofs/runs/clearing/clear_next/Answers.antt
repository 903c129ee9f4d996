use Rattle.std.proofs.Common.{◌∙◌, arith}
use Rattle.stretches.specs.Cells.{cells}
use Rattle.stretches.proofs.Cells.{get_cells}
use Rattle.local_cache.proofs.ManyNodes.Cleared.{range_skipped, range_vacant}
use Rattle.local_cache.proofs.runs.clearing.clear_next.Goals as goal

pub returns-in-Some-clause-cells : goal.returns-in-Some-clause-cells
returns-in-Some-clause-cells g c =
    let old = c.args.list.now.list in
    let from = c.in-Some.ensures.next in
    c.clear_part.ensures.cells
    ∙ range_skipped (cells g.V.Says old) c.args.next c.in-Some.stretch.first c.clear_part.result from.from (omega (arith, c.clear_part.ensures.more))
    (λ q low high. get_cells g.V.Says old q ∙ from.none q low high)

pub returns-in_default-clause-cells : goal.returns-in_default-clause-cells
returns-in_default-clause-cells g c =
    let old = c.args.list.now.list in
    let from = c.in-Some.ensures.next in
    range_vacant (cells g.V.Says old) _ _ (λ q low high. get_cells g.V.Says old q ∙ from.none q low (omega (arith, high, c.if-stretch-end.false, c.requires.some)))

pub returns-in_default-2-clause-cells : goal.returns-in_default-2-clause-cells
returns-in_default-2-clause-cells g c =
    let old = c.args.list.now.list in
    range_vacant (cells g.V.Says old) _ _ (λ q low high. get_cells g.V.Says old q ∙ c.in_default.ensures.next q low)
