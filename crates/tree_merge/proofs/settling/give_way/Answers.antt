use Rattle.tree_merge.proofs.Place.Heir.{give_way-Freed}
use Rattle.tree_merge.proofs.settling.give_way.Goals as goal

pub returns : goal.returns
returns c =
    let r = c.requires in
    let e = c.put_instead.ensures in
    let went = give_way-Freed c.args.caches.now _ _ r.sound c.args.node c.args.child r.held r.root r.below r.none (record { forest = e.forest; sound = e.sound; rehung = e.rehung }) c.free.ensures in
    record { forest = went.forest; sound = went.sound; gone = went.gone; owns = went.owns }
