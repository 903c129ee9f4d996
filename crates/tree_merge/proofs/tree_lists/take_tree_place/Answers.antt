use Rattle.std.proofs.Common.{Some, ◌∙◌}
use Rattle.history_tree.proofs.OnCells.{one_held}
use Rattle.tree_merge.proofs.Place.TreeCut.{one_exchanged}
use Rattle.tree_merge.proofs.Place.TreeExchange.{take_tree_place-Step}
use Rattle.tree_merge.proofs.tree_lists.take_tree_place.Goals as goal

pub exchange_many-requires-clause-held : goal.exchange_many-requires-clause-held
exchange_many-requires-clause-held c =
    let r = c.requires in
    one_held c.args.caches.now c.args.parent (r.sound.kept.parents c.args.node c.args.parent r.held r.parent)

pub exchange_many-requires-clause-gone : goal.exchange_many-requires-clause-gone
exchange_many-requires-clause-gone c = one_held c.args.caches.now c.args.node c.requires.held

pub returns : goal.returns
returns c =
    let r = c.requires in
    let a = c.args.caches.now in
    let instead = c.exchange_many.ensures.changed ∙ one_exchanged a c.args.parent c.args.node (Some c.args.instead) in
    let step = take_tree_place-Step a r.sound c.args.node c.args.instead c.args.parent r.held r.instead r.parent r.by_tree r.loose r.below _ _ _ instead c.hang.ensures.changed c.hang-2.ensures.changed in
    record { forest = step.forest; sound = step.sound; rehung = step.rehung }
