use Rattle.tree_merge.proofs.Merge.Step.{cut_root, passed_root, passed_below, passed_none, given_forest, given_gone, given_released, given_owns}
use Rattle.tree_merge.proofs.settling.give_in_steps.Goals as goal

pub pass_page-released-requires-clause-root : goal.pass_page-released-requires-clause-root
pass_page-released-requires-clause-root c =
    let r = c.requires in
    cut_root c.args.caches.now r.sound c.args.node c.args.child r.up r.few _ c.cut.ensures.forest c.cut.ensures.rehung

pub give_way-requires-clause-root : goal.give_way-requires-clause-root
give_way-requires-clause-root c =
    let r = c.requires in
    let p = c.pass_page-released.ensures in
    passed_root c.args.caches.now r.sound c.args.node c.args.child r.up r.few _ c.cut.ensures.forest c.cut.ensures.rehung _ p.forest p.like

pub give_way-requires-clause-below : goal.give_way-requires-clause-below
give_way-requires-clause-below c =
    let r = c.requires in
    let p = c.pass_page-released.ensures in
    passed_below c.args.caches.now r.sound c.args.node c.args.child r.up r.few _ c.cut.ensures.forest c.cut.ensures.rehung _ p.forest p.like

pub give_way-requires-clause-none : goal.give_way-requires-clause-none
give_way-requires-clause-none c =
    let r = c.requires in
    let p = c.pass_page-released.ensures in
    passed_none c.args.caches.now r.sound c.args.node c.args.child r.up r.few _ c.cut.ensures.forest c.cut.ensures.rehung _ p.forest p.like

pub returns : goal.returns
returns c =
    let r = c.requires in
    let p = c.pass_page-released.ensures in
    let w = c.give_way.ensures in
    let cut = c.cut.ensures in
    record {
      forest = given_forest c.args.caches.now r.sound c.args.node c.args.child r.up r.few _ cut.forest cut.rehung _ p.forest p.like _ w.forest;
      sound = w.sound;
      told = given_released c.args.caches.now _ c.args.node c.args.child _ cut.rehung p.released;
      gone = given_gone c.args.caches.now r.sound c.args.node c.args.child r.up r.few _ cut.forest cut.rehung _ p.forest p.like _ p.counters p.room w.gone;
      owns = given_owns c.args.caches.now _ _ _ c.args.node _ cut.rehung p.owns w.owns;
    }
