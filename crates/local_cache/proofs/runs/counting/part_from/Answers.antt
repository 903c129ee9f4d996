use Rattle.std.proofs.Common.{◌∙◌, arith}
use Rattle.stretches.proofs.Cells.{get_cells}
use Rattle.local_cache.proofs.CacheList.Counting.{none_said, part_said}
use Rattle.local_cache.proofs.runs.counting.part_from.Goals as goal

pub returns-in-Some-clause-said : goal.returns-in-Some-clause-said
returns-in-Some-clause-said g c m same =
    part_said g.V.Says c.args.list.now.list m c.args.next c.min-until.result same c.in-Some.stretch c.in-Some.ensures.next
    (omega (arith, c.min-until.ensures, c.if-stretch-end.true)) (omega (arith, c.min-until.ensures))

pub returns-in_default-clause-said : goal.returns-in_default-clause-said
returns-in_default-clause-said g c m same =
    let list = c.args.list.now.list in
    none_said g.V.Says list m c.args.next c.args.end same
    (λ q low high. get_cells g.V.Says list q ∙ c.in-Some.ensures.next.none q low (omega (arith, high, c.if-stretch-end.false)))
    (omega (arith, c.requires.some))

pub returns-in_default-2-clause-said : goal.returns-in_default-2-clause-said
returns-in_default-2-clause-said g c m same =
    let list = c.args.list.now.list in
    none_said g.V.Says list m c.args.next c.args.end same
    (λ q low high. get_cells g.V.Says list q ∙ c.in_default.ensures.next q low)
    (omega (arith, c.requires.some))
