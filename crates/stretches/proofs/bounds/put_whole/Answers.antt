use Rattle.std.proofs.Common.{ap, sym, subst, List, ◌∙◌}
use Rattle.stretches.specs.declared.stretch.Stretch.{Stretch}
use Rattle.stretches.specs.Stretches.{AreInOrder, number_count, said}
use Rattle.stretches.proofs.Changes.Replacement.{count_replaced, order_replaced, said_replaced}
use Rattle.stretches.proofs.bounds.put_whole.Goals as goal

pub join_around-requires-clause-order : goal.join_around-requires-clause-order
join_around-requires-clause-order g c =
    subst (λ (rs : List (Stretch _)). AreInOrder g.V.Says 0 rs) (sym c.set.ensures.entries) (order_replaced g.V.Says 0 _ _ c.args.new c.requires.order c.in-Some.ensures.part c.requires.fit)

pub returns-in-Some-clause-also : goal.returns-in-Some-clause-also
returns-in-Some-clause-also g c n =
    c.join_around.ensures.same n ∙ ap (λ (rs : List (Stretch _)). said g.V.Says rs n) c.set.ensures.entries
    ∙ said_replaced g.V.Says 0 _ _ c.args.new c.requires.order c.in-Some.ensures.part n

pub returns-in-Some-clause-count : goal.returns-in-Some-clause-count
returns-in-Some-clause-count g c =
    c.join_around.ensures.count ∙ ap number_count c.set.ensures.entries ∙ count_replaced _ _ c.args.new c.in-Some.ensures.part
