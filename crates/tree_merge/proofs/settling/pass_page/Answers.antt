use Rattle.tree_merge.proofs.Merge.Page.{passed}
use Rattle.tree_merge.proofs.settling.pass_page.Goals as goal

pub returns : goal.returns
returns c =
    let r = c.requires in
    let given = c.passed_to-released.ensures in
    let done = passed c.args.caches.now r.sound c.args.node c.args.child r.held r.child r.root _ given.state _ c.set_state.ensures.changed _ given.released in
    record { forest = done.forest; sound = done.sound; released = given.released; like = done.like; owns = done.owns; counters = done.counters; room = done.room }
