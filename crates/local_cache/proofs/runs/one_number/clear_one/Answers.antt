use Rattle.std.proofs.Common.{◌∙◌, IsSome, is_some, ap, sym, arith}
use Rattle.std.specs.FinMap as map
use Rattle.stretches.specs.Cells.{cells}
use Rattle.stretches.proofs.Cells.{get_cells}
use Rattle.local_cache.proofs.Singles.{len_remove_old, none_of, remove_absent}
use Rattle.local_cache.proofs.runs.one_number.clear_one.Goals as goal

pub returns-then-is_some-clause-counted : goal.returns-then-is_some-clause-counted
returns-then-is_some-clause-counted g c =
    let some : IsSome (map.get (cells g.V.Says c.args.list.now.list) c.args.number) =
    ap is_some (get_cells g.V.Says c.args.list.now.list c.args.number ∙ sym c.get.ensures) ∙ sym c.is_some.ensures ∙ c.if-is_some.true in
    let len = ap map.len c.take_one.ensures.cells in
    omega (arith, c.take_one.ensures.count, c.requires.counted, len, len_remove_old _ _ some)

pub returns-else-is_some-clause-cells : goal.returns-else-is_some-clause-cells
returns-else-is_some-clause-cells g c =
    sym (remove_absent _ _ (get_cells g.V.Says c.args.list.now.list c.args.number ∙ sym c.get.ensures ∙ none_of _ (sym c.is_some.ensures ∙ c.if-is_some.false)))
