use Rattle.std.proofs.Common.{Option, sym, subst}
use Rattle.std.specs.Prelude.{IfSome}
use Rattle.vm_ids.specs.declared.numbers.NodeId.{NodeId}
use Rattle.tree_merge.specs.Copying.{AreApart}
use Rattle.tree_merge.proofs.CopiedPages.Rows.{fewer_apart}
use Rattle.tree_merge.proofs.copying.free_histories.Goals as goal

pub returns-in-Some-clause-apart : goal.returns-in-Some-clause-apart
returns-in-Some-clause-apart c =
    let apart = c.apart_from in
    subst (λ (o : Option NodeId). IfSome o (λ h. AreApart h c.args.source apart.result × AreApart h c.args.node apart.result)) (sym c.in-Some.is)
    (fewer_apart c.in-Some.history c.args.source c.apart_from-count.result apart.result apart.ensures.most c.apart_from-count.ensures.apart, apart.ensures.apart)
