use Rattle.std.proofs.Common.{◌+◌, ◌∙◌, ap, subst, sym, cond, List, None}
use Rattle.stretches.specs.declared.stretch.Stretch.{Stretch}
use Rattle.stretches.specs.Leaves.{entries}
use Rattle.stretches.specs.Spots.{index}
use Rattle.stretches.specs.Stretch.{is_in}
use Rattle.stretches.specs.Stretches.{AreInOrder, IsStretchWith, Stretches, number_count, said}
use Rattle.stretches.proofs.Cells.{fewer_cells}
use Rattle.stretches.proofs.Changes.Removal.{count_removed, order_removed, said_removed}
use Rattle.stretches.proofs.Reading.Sayings.{stretch_at_place}
use Rattle.stretches.proofs.stretch_list.StretchList.remove.Goals as goal

pub invariant_of-self : goal.invariant_of-self
invariant_of-self g c = subst (λ (rs : List (Stretch _)). AreInOrder g.V.Says 0 rs) (sym c.remove.ensures.entries) (order_removed g.V.Says 0 _ (index c.self.inside.stretches c.in-Some.at) c.self.invariant c.in-Some.ensures.has.within)

pub returns-clause-with : goal.returns-clause-with
returns-clause-with g c =
    let has = stretch_at_place g.V.Says _ c.self.invariant _ _ c.remove.result c.in-Some.ensures.has in
    subst (λ (v : Stretches _). IsStretchWith g.V.Says v.list c.args.number c.remove.result) c.self.view_is (subst (λ (r : Stretch _). IsStretchWith g.V.Says (entries c.self.inside.stretches) c.args.number r) (sym c.remove.ensures.entry) has)

pub returns-clause-less : goal.returns-clause-less
returns-clause-less g c n =
    let gone = said_removed g.V.Says 0 _ (index c.self.inside.stretches c.in-Some.at) c.remove.result c.self.invariant c.in-Some.ensures.has.within n in
    ap (λ (rs : List (Stretch _)). said g.V.Says rs n) c.remove.ensures.entries ∙ gone ∙ (λ i. cond (is_in (sym c.remove.ensures.entry i) n) None (said g.V.Says (c.self.view_is i).list n))

pub returns-clause-cells : goal.returns-clause-cells
returns-clause-cells g c = fewer_cells g.V.Says _ c.remove.result _ (returns-clause-less g c)

pub returns-clause-count : goal.returns-clause-count
returns-clause-count g c =
    let left = count_removed _ (index c.self.inside.stretches c.in-Some.at) c.remove.result c.in-Some.ensures.has.within in
    (λ i. number_count (c.remove.ensures.entries i) + (c.remove.ensures.entry i).count) ∙ left ∙ ap (λ (v : Stretches _). number_count v.list) c.self.view_is
