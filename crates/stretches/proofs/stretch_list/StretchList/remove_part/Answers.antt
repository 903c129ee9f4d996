use Rattle.std.proofs.Common.{◌+◌, ◌∙◌, ap, subst, sym, arith, cond, List, None}
use Rattle.stretches.specs.declared.stretch.Stretch.{Stretch}
use Rattle.stretches.specs.Leaves.{entries}
use Rattle.stretches.specs.Stretch.{is_in}
use Rattle.stretches.specs.Stretches.{AreInOrder, IsStretchWith, Stretches, number_count, said}
use Rattle.stretches.proofs.Cells.{fewer_cells}
use Rattle.stretches.proofs.Changes.Removal.{count_removed, order_removed, said_removed}
use Rattle.stretches.proofs.Reading.Sayings.{stretch_at_place}
use Rattle.stretches.proofs.Reading.Together.{part_has}
use Rattle.stretches.proofs.stretch_list.StretchList.remove_part.Goals as goal

pub invariant_of-self : goal.invariant_of-self
invariant_of-self g c =
    let alone = c.isolate-at.ensures in
    subst (λ (rs : List (Stretch _)). AreInOrder g.V.Says 0 rs) (sym c.remove.ensures.entries) (order_removed g.V.Says 0 _ _ alone.order alone.part.within)

pub returns-clause-whole : goal.returns-clause-whole
returns-clause-whole g c = ap (λ (r : Stretch _). r.count) c.remove.ensures.entry ∙ c.isolate-at.ensures.part.count c.remove.result

pub returns-clause-from : goal.returns-clause-from
returns-clause-from g c =
    let alone = c.isolate-at.ensures in
    let has = part_has _ c.args.first c.args.count _ c.requires.some alone.part in
    let with = stretch_at_place g.V.Says _ alone.order _ _ c.remove.result has in
    let is = subst (λ (r : Stretch _). IsStretchWith g.V.Says (entries c.isolate-at.new.stretches) c.args.first r) (sym c.remove.ensures.entry) with in
    record {
      begins = ap (λ (r : Stretch _). r.first) c.remove.ensures.entry ∙ alone.part.first c.remove.result;
      fit = is.fit;
      said = λ n h. sym (alone.same n ∙ ap (λ (v : Stretches _). said g.V.Says v.list n) c.self.view_is) ∙ is.said n h;
    }

pub returns-clause-less : goal.returns-clause-less
returns-clause-less g c n =
    let alone = c.isolate-at.ensures in
    let gone = said_removed g.V.Says 0 _ _ c.remove.result alone.order alone.part.within n in
    ap (λ (rs : List (Stretch _)). said g.V.Says rs n) c.remove.ensures.entries ∙ gone
    ∙ (λ i. cond (is_in (sym c.remove.ensures.entry i) n) None (alone.same n i))
    ∙ ap (λ (v : Stretches _). cond (is_in c.remove.result n) None (said g.V.Says v.list n)) c.self.view_is

pub returns-clause-cells : goal.returns-clause-cells
returns-clause-cells g c = fewer_cells g.V.Says _ c.remove.result _ (returns-clause-less g c)

pub returns-clause-count : goal.returns-clause-count
returns-clause-count g c =
    let alone = c.isolate-at.ensures in
    let left = count_removed _ _ c.remove.result alone.part.within in
    let long = returns-clause-whole g c in
    let all = (λ i. number_count (c.remove.ensures.entries i) + (c.remove.ensures.entry i).count) ∙ left ∙ alone.count ∙ ap (λ (v : Stretches _). number_count v.list) c.self.view_is in
    omega (arith, all, long)
