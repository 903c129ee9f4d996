use Rattle.std.proofs.Common.{Option, sym, subst}
use Rattle.std.specs.Prelude.{IfSome}
use Rattle.vm_ids.specs.declared.numbers.NodeId.{NodeId}
use Rattle.tree_merge.specs.Copying.{AreSameOrApart}
use Rattle.tree_merge.proofs.CopiedPages.Rows.{fewer_same}
use Rattle.tree_merge.proofs.copying.free_parents.Goals as goal

pub returns-in-Some-clause-sources : goal.returns-in-Some-clause-sources
returns-in-Some-clause-sources c =
    let free = c.free_of_histories in
    subst (λ (o : Option NodeId). IfSome o (λ p. AreSameOrApart p c.args.source free.result)) (sym c.in-Some.is)
    (fewer_same c.in-Some.parent c.args.source c.same_or_apart_from-count.result free.result free.ensures.most c.same_or_apart_from-count.ensures.same)
