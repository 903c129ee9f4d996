use Rattle.std.proofs.Common.{◌≡◌, ◌∙◌, IsSome, is_some, None, ap, sym, arith}
use Rattle.std.specs.FinMap as map
use Rattle.stretches.specs.Cells.{cells}
use Rattle.stretches.proofs.Cells.{get_cells}
use Rattle.local_cache.proofs.Singles.{len_insert_new, len_insert_old}
use Rattle.local_cache.proofs.runs.one_number.set_one.Given.{Over}
use Rattle.local_cache.proofs.runs.one_number.set_one.Goals as goal

some : (g : Over) (c : goal.After-change_one-arg-1 g) → IsSome (map.get (cells g.V.Says c.args.list.now.list) c.args.number)
some g c = ap is_some (get_cells g.V.Says c.args.list.now.list c.args.number ∙ sym c.get.ensures ∙ c.in-Some.is)

none : (g : Over) (c : goal.After-add_one-arg-1 g) → map.get (cells g.V.Says c.args.list.now.list) c.args.number ≡ None
none g c = get_cells g.V.Says c.args.list.now.list c.args.number ∙ sym c.get.ensures ∙ c.in-None.is

pub change_one-requires-clause-places : goal.change_one-requires-clause-places
change_one-requires-clause-places g c = omega (arith, c.requires.counted, c.requires.places, len_insert_old _ _ c.args.value (some g c))

pub add_one-requires-clause-places : goal.add_one-requires-clause-places
add_one-requires-clause-places g c = omega (arith, c.requires.counted, c.requires.places, len_insert_new _ _ c.args.value (none g c))

pub returns-in-Some-clause-counted : goal.returns-in-Some-clause-counted
returns-in-Some-clause-counted g c =
    c.change_one.ensures.count ∙ c.requires.counted
    ∙ sym (ap map.len c.change_one.ensures.cells ∙ len_insert_old _ _ c.args.value (some g c.before))

pub returns-in-None-clause-counted : goal.returns-in-None-clause-counted
returns-in-None-clause-counted g c =
    let count = ap map.len c.add_one.ensures.cells ∙ len_insert_new _ _ c.args.value (none g c.before) in
    omega (arith, c.add_one.ensures.count, c.requires.counted, count)
