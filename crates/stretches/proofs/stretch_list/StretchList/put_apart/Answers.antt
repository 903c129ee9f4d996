use Rattle.std.proofs.Common.{◌∙◌, ap, cond, subst, sym, List, Option, Some}
use Rattle.stretches.specs.declared.stretch.Stretch.{Stretch}
use Rattle.stretches.specs.Stretch.{is_in, value_at}
use Rattle.stretches.specs.Stretches.{AreInOrder, Stretches, number_count, said}
use Rattle.stretches.proofs.Changes.Replacement.{count_replaced, order_replaced, said_replaced}
use Rattle.stretches.proofs.stretch_list.StretchList.put_apart.Goals as goal

pub invariant_of-self : goal.invariant_of-self
invariant_of-self g c =
    let alone = c.isolate-at.ensures in
    subst (λ (rs : List (Stretch _)). AreInOrder g.V.Says 0 rs) (sym c.set.ensures.entries) (order_replaced g.V.Says 0 _ _ c.args.stretch alone.order alone.part c.requires.fit)

pub returns-clause-also : goal.returns-clause-also
returns-clause-also g c n =
    let alone = c.isolate-at.ensures in
    ap (λ (rs : List (Stretch _)). said g.V.Says rs n) c.set.ensures.entries
    ∙ said_replaced g.V.Says 0 _ _ c.args.stretch alone.order alone.part n
    ∙ ap (λ (o : Option _). cond (is_in c.args.stretch n) (Some (value_at g.V.Says c.args.stretch n)) o) (alone.same n ∙ ap (λ (v : Stretches _). said g.V.Says v.list n) c.self.view_is)

pub returns-clause-count : goal.returns-clause-count
returns-clause-count g c =
    let alone = c.isolate-at.ensures in
    ap number_count c.set.ensures.entries ∙ count_replaced _ _ c.args.stretch alone.part ∙ alone.count ∙ ap (λ (v : Stretches _). number_count v.list) c.self.view_is
