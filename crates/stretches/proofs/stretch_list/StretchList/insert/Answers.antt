use Rattle.std.proofs.Common.{◌≤◌, ◌+◌, ◌∙◌, ap, subst, sym, arith, cond, List, Option, Some}
use Rattle.stretches.specs.declared.stretch.Stretch.{Stretch}
use Rattle.stretches.specs.Changes.{IsVacantFor}
use Rattle.stretches.specs.Leaves.{entries}
use Rattle.stretches.specs.Spots.{index}
use Rattle.stretches.specs.Stretch.{is_in, value_at}
use Rattle.stretches.specs.Stretches.{AreInOrder, Stretches, number_count, said}
use Rattle.stretches.proofs.Cells.{more_cells}
use Rattle.stretches.proofs.Changes.Insertion.{count_insert, order_insert, said_insert}
use Rattle.stretches.proofs.Reading.Counts.{few}
use Rattle.stretches.proofs.stretch_list.StretchList.insert.Goals as goal

-- the place is where the stretch belongs, and no stretch there is in its way
pub invariant_of-self : goal.invariant_of-self
invariant_of-self g c =
    let vacant = subst (λ (v : Stretches _). IsVacantFor g.V.Says v.list c.args.stretch) (sym c.self.view_is) c.requires.vacant in
    subst (λ (rs : List (Stretch _)). AreInOrder g.V.Says 0 rs) (sym c.insert.ensures.entries) (order_insert g.V.Says 0 _ _ _ c.self.invariant (omega arith) c.requires.fit c.first_behind-at.ensures.behind vacant)

-- there are no more stretches than numbers
pub insert-requires-clause-room : goal.insert-requires-clause-room
insert-requires-clause-room g c =
    let places : number_count (entries c.self.inside.stretches) + c.args.stretch.count ≤ c.self.inside.stretches.places = subst (λ (v : Stretches _). number_count v.list + c.args.stretch.count ≤ v.places) (sym c.self.view_is) c.requires.places in
    omega (arith, places, few g.V.Says 0 _ c.self.invariant, c.requires.fit.some)

pub returns-clause-also : goal.returns-clause-also
returns-clause-also g c n =
    let vacant = subst (λ (v : Stretches _). IsVacantFor g.V.Says v.list c.args.stretch) (sym c.self.view_is) c.requires.vacant in
    let spoken = said_insert g.V.Says _ (index c.self.inside.stretches c.first_behind-at.result) c.args.stretch vacant n in
    let view = ap (λ (v : Stretches _). said g.V.Says v.list n) c.self.view_is in
    ap (λ (rs : List (Stretch _)). said g.V.Says rs n) c.insert.ensures.entries ∙ spoken ∙ ap (λ (o : Option _). cond (is_in c.args.stretch n) (Some (value_at g.V.Says c.args.stretch n)) o) view

pub returns-clause-cells : goal.returns-clause-cells
returns-clause-cells g c = more_cells g.V.Says _ c.args.stretch _ (returns-clause-also g c)

pub returns-clause-count : goal.returns-clause-count
returns-clause-count g c = ap number_count c.insert.ensures.entries ∙ count_insert _ (index c.self.inside.stretches c.first_behind-at.result) c.args.stretch ∙ ap (λ (v : Stretches _). number_count v.list + c.args.stretch.count) c.self.view_is
