use Rattle.std.proofs.Common.{Option, sym, subst}
use Rattle.std.specs.Prelude.{IfSome}
use Rattle.vm_ids.specs.declared.numbers.NodeId.{NodeId}
use Rattle.tree_merge.specs.Copying.{AreApart}
use Rattle.tree_merge.proofs.settling_many.are_beside.Goals as goal

pub returns-then-are_apart-clause-nodes : goal.returns-then-are_apart-clause-nodes
returns-then-are_apart-clause-nodes c = λ is.
    subst (λ (o : Option NodeId). IfSome o (λ p. AreApart p c.args.node c.args.count)) (sym c.in-Some.is) (c.are_apart.ensures.apart c.if-are_apart.true)

pub returns-then-are_apart-clause-children : goal.returns-then-are_apart-clause-children
returns-then-are_apart-clause-children c = λ is.
    subst (λ (o : Option NodeId). IfSome o (λ p. AreApart p c.args.child c.args.count)) (sym c.in-Some.is) (c.are_apart-then-are_apart.ensures.apart is)
