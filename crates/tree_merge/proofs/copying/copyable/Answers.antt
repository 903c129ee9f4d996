use Rattle.std.proofs.Common.{◌≤◌, subst, arith}
use Rattle.local_cache.specs.Arena.{cell}
use Rattle.tree_merge.specs.Copyable.{history_of}
use Rattle.tree_merge.specs.Copying.{AreFree}
use Rattle.tree_merge.proofs.AlikeNodes.{fewer_leaves}
use Rattle.tree_merge.proofs.CopiedPages.Rows.{fewer_apart, fewer_free}
use Rattle.tree_merge.proofs.copying.copyable.Goals as goal

pub returns-clause-copyable : goal.returns-clause-copyable
returns-clause-copyable c = λ some.
    let a = c.args.caches.now in
    let d = c.args.node in
    let s = c.args.source in
    let count = c.row.result in
    let free = c.free_count-free in
    let apart = c.apart_from-apart in
    let leaves = c.leaf_nodes-leaves in
    let few : count ≤ apart.result = omega (arith, c.row.ensures.within, free.ensures.most) in
    record {
      leaves = fewer_leaves a d leaves.result count (omega (arith, few, apart.ensures.most)) leaves.ensures.leaves;
      row = c.row.ensures.row;
      apart = fewer_apart s d apart.result count few apart.ensures.apart;
      short = omega (arith, few, apart.ensures.short);
      free = fewer_free (cell a d).links.parent (history_of a d s) d s free.result count c.row.ensures.within
          (subst (λ p. AreFree p (history_of a d s) d s free.result) c.parent-parent.ensures
          (subst (λ h. AreFree c.parent-parent.result h d s free.result) c.history_of-history.ensures free.ensures.free));
    }
