use Rattle.std.proofs.Common.{option_map, sym, ap, ◌∙◌}
use Rattle.local_cache.specs.Reading.{name_of, forest_of}
use Rattle.tree_merge.specs.Releasing.{released_to}
use Rattle.tree_merge.proofs.ChildLists.Names.{first_child_up, first_is, first_none}
use Rattle.tree_merge.proofs.Merge.Step.{settle_none, settle_some}
use Rattle.tree_merge.proofs.settling.merge.Goals as goal

pub give_in_steps-requires-clause-child : goal.give_in_steps-requires-clause-child
give_in_steps-requires-clause-child c =
    let r = c.requires in
    (first_child_up c.args.caches.now r.sound c.args.node r.held _ (sym c.in-Some.is ∙ c.first_child.ensures)).0

pub give_in_steps-requires-clause-up : goal.give_in_steps-requires-clause-up
give_in_steps-requires-clause-up c =
    let r = c.requires in
    (first_child_up c.args.caches.now r.sound c.args.node r.held _ (sym c.in-Some.is ∙ c.first_child.ensures)).1

pub drop_node-requires-clause-leaf : goal.drop_node-requires-clause-leaf
drop_node-requires-clause-leaf c =
    let r = c.requires in
    first_none c.args.caches.now r.sound c.args.node r.held (sym c.in-None.is ∙ c.first_child.ensures)

pub returns-in-Some : goal.returns-in-Some
returns-in-Some c =
    let r = c.requires in
    let a = c.args.caches.now in
    let e = c.give_in_steps.ensures in
    let first = sym c.first_child.ensures ∙ c.in-Some.is in
    record {
      forest = e.forest ∙ sym (settle_some (forest_of a) (name_of a c.args.node) _ (first_is a r.sound c.args.node r.held ∙ ap (option_map (name_of a)) first));
      sound = e.sound;
      released = e.told ∙ ap (released_to a c.args.node) (sym first);
      gone = e.gone;
      owns = e.owns;
    }

pub returns-in-None-clause-forest : goal.returns-in-None-clause-forest
returns-in-None-clause-forest c =
    let r = c.requires in
    let a = c.args.caches.now in
    c.drop_node.ensures.forest
    ∙ sym (settle_none (forest_of a) (name_of a c.args.node) (name_of a c.args.node) (first_is a r.sound c.args.node r.held ∙ ap (option_map (name_of a)) (sym c.first_child.ensures ∙ c.in-None.is)))
