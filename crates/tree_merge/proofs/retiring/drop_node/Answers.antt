use Rattle.std.proofs.Common.{rules}
use Rattle.tree_merge.proofs.Leaving.Left.{left_went}
use Rattle.tree_merge.proofs.retiring.drop_node.Goals as goal

pub free-requires : goal.free-requires
free-requires c = c.leave_parent.ensures.held

pub returns : goal.returns
returns c =
    let r = c.requires in
    let went = left_went c.args.caches.now c.leave_parent.new.caches r.sound c.args.node r.held c.leave_parent.ensures r.leaf _ c.free.ensures in
    record { forest = went.forest; sound = went.sound; released = search rules; gone = went.gone; owns = went.owns }
