use Rattle.std.proofs.Common.{◌∙◌, IsTrue, Some, ap, rules}
use Rattle.stretches.proofs.Cells.{get_cells}
use Rattle.local_cache.proofs.Singles.{insert_again}
use Rattle.local_cache.proofs.runs.one_number.change_one.Goals as goal

pub returns-else-not-is_same-clause-cells : goal.returns-else-not-is_same-clause-cells
returns-else-not-is_same-clause-cells g c =
    let is : IsTrue c.is_same.result = search rules in
    insert_again _ _ _ (get_cells g.V.Says c.args.list.now.list c.args.number ∙ c.requires.before ∙ ap Some (c.is_same.ensures.0 is))
