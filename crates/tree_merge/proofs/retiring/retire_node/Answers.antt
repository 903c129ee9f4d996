use Rattle.std.proofs.Common.{rules, ◌≡◌, sym, ap, ◌∙◌, subst}
use Rattle.std.proofs.lemmas.Bool.{false≢true}
use Rattle.vm_ids.specs.declared.numbers.NodeId.{NodeId}
use Rattle.local_cache.specs.Arena.{Arena, as_working}
use Rattle.local_cache.specs.Many.{as_working_many}
use Rattle.local_cache.specs.Reading.{forest_of}
use Rattle.local_cache.specs.Sound.{IsSound}
use Rattle.history_tree.proofs.OnCells.{here, one_held}
use Rattle.tree_merge.proofs.Leaving.Left.{no_children, some_child}
use Rattle.tree_merge.proofs.Leaving.Retired.{retire_none, retired-forest, retired-sound, retired_parent, retired_leaf}
use Rattle.tree_merge.proofs.retiring.retire_node.Goals as goal

once : (a b : Arena) (n : NodeId) → b ≡ as_working_many a n 1 → b ≡ as_working a n
once a b n is = is ∙ ap (as_working a) (here n)

pub drop_node-requires-clause-leaf : goal.drop_node-requires-clause-leaf
drop_node-requires-clause-leaf c =
    let r = c.requires in
    let leaf = c.is_leaf.ensures.0 c.if-is_leaf.true in
    no_children c.args.caches.now r.sound c.args.node r.held leaf.0 leaf.1

pub to_working_many-requires-clause-held : goal.to_working_many-requires-clause-held
to_working_many-requires-clause-held c = one_held c.args.caches.now c.args.node c.requires.held

pub returns-then-is_leaf : goal.returns-then-is_leaf
returns-then-is_leaf c =
    let r = c.requires in
    let a = c.args.caches.now in
    let leaf = c.is_leaf.ensures.0 c.if-is_leaf.true in
    let e = c.drop_node.ensures in
    record {
      forest = c.drop_node.ensures.forest ∙ sym (retire_none (forest_of a) _ (no_children a r.sound c.args.node r.held leaf.0 leaf.1));
      sound = search rules;
      retired = retired_leaf a _ c.args.node _ (no_children a r.sound c.args.node r.held leaf.0 leaf.1) e.released e.gone e.owns;
    }

pub returns-else-is_leaf : goal.returns-else-is_leaf
returns-else-is_leaf c =
    let r = c.requires in
    let a = c.args.caches.now in
    let children = some_child a r.sound c.args.node r.held (λ tree first. false≢true (sym c.if-is_leaf.false ∙ c.is_leaf.ensures.1 (tree, first))) in
    record {
      forest = ap forest_of (once a c.to_working_many.new.self c.args.node c.to_working_many.ensures.changed) ∙ retired-forest a r.sound c.args.node r.held r.live children;
      sound = subst IsSound (sym (once a c.to_working_many.new.self c.args.node c.to_working_many.ensures.changed)) (retired-sound a r.sound c.args.node r.held r.live children);
      retired = retired_parent a c.to_working_many.new.self c.args.node children (once a c.to_working_many.new.self c.args.node c.to_working_many.ensures.changed);
    }
