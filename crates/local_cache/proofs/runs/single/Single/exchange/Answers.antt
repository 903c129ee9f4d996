use Rattle.std.proofs.Common.{List, ap, ◌∙◌}
use Rattle.std.specs.Prelude.{option_and_then}
use Rattle.vm_ids.specs.declared.numbers.NodeId.{NodeId}
use Rattle.local_cache.specs.NodeCells.{exchanged, in_place, over, tree_of}
use Rattle.local_cache.proofs.Packing.{two_at_most}
use Rattle.local_cache.proofs.RunAfter.{tree_each}
use Rattle.local_cache.proofs.runs.single.Single.exchange.Goals as goal

pub returns : goal.returns
returns c =
    let f = in_place c.args.gone c.args.instead in
    let tree = c.args.self.now.tree in
    let older = c.in_place-older.ensures ∙ ap (option_and_then f) c.tree_child.ensures.child in
    let newer = c.in_place-newer.ensures ∙ ap (option_and_then f) c.tree_child-2.ensures.child in
    c.set_children.ensures
    ∙ ap (λ (ns : List NodeId). over ns c.args.self.now)
    ((λ i. tree_of (older i) (newer i)) ∙ tree_each f _ _
    ∙ ap (exchanged c.args.gone c.args.instead) (two_at_most tree c.tree_child.ensures.few))
