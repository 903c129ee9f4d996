use Rattle.std.proofs.Common.{sym, ap, ◌∙◌}
use Rattle.local_cache.specs.Own.{is_absent}
use Rattle.tree_merge.proofs.Place.Cut.{cut_linked, cut_stub-Step}
use Rattle.tree_merge.proofs.Place.Heir.{bare-placed, below_clear, is_a_stub, is_bare, no_parent-placed, stub-placed, tree-placed}
use Rattle.tree_merge.proofs.settling.put_instead.Goals as goal

pub take_place_of-requires-clause-stub : goal.take_place_of-requires-clause-stub
take_place_of-requires-clause-stub c =
    let r = c.requires in
    is_a_stub c.args.caches.now r.sound c.args.node c.args.child r.held r.child r.root _ (sym c.parent.ensures ∙ c.in-Some-2.is) (sym c.hangs_by_stub.ensures ∙ c.if-not-hangs_by_stub.false)

pub take_place_of-requires-clause-bare : goal.take_place_of-requires-clause-bare
take_place_of-requires-clause-bare c =
    let r = c.requires in
    is_bare c.args.caches.now r.sound c.args.node c.args.child r.held r.child r.root (ap is_absent (sym c.own_state.ensures) ∙ sym c.is_absent.ensures.absent ∙ c.if-is_absent.true)

pub take_place_of-requires-clause-clear : goal.take_place_of-requires-clause-clear
take_place_of-requires-clause-clear c = below_clear _ _ _ c.requires.below

pub cut_stub-requires-clause-linked : goal.cut_stub-requires-clause-linked
cut_stub-requires-clause-linked c =
    let r = c.requires in
    cut_linked c.args.caches.now r.sound c.args.node _ r.held (sym c.parent.ensures ∙ c.in-Some-3.is) (sym c.hangs_by_stub.ensures ∙ c.if-not-hangs_by_stub.false)

pub returns-in-None-clause-forest : goal.returns-in-None-clause-forest
returns-in-None-clause-forest c =
    let r = c.requires in
    (no_parent-placed c.args.caches.now r.sound c.args.node c.args.child r.held r.child r.root (sym c.parent.ensures ∙ c.in-None.is)).forest

pub returns-in-Some-clause-forest : goal.returns-in-Some-clause-forest
returns-in-Some-clause-forest c =
    let r = c.requires in
    c.take_tree_place.ensures.forest
    ∙ sym (tree-placed c.args.caches.now r.sound c.args.node c.args.child r.held r.child r.root _ (sym c.parent.ensures ∙ c.in-Some.is) (sym c.hangs_by_stub.ensures ∙ c.if-not-hangs_by_stub.true))

pub returns-in-Some-2-clause-forest : goal.returns-in-Some-2-clause-forest
returns-in-Some-2-clause-forest c =
    let r = c.requires in
    c.take_place_of.ensures.forest
    ∙ sym (bare-placed c.args.caches.now r.sound c.args.node c.args.child r.held r.child r.root _ (sym c.parent.ensures ∙ c.in-Some-2.is) (ap is_absent (sym c.own_state.ensures) ∙ sym c.is_absent.ensures.absent ∙ c.if-is_absent.true))

pub returns-in-Some-3-clause-forest : goal.returns-in-Some-3-clause-forest
returns-in-Some-3-clause-forest c =
    let r = c.requires in
    let up = sym c.parent.ensures ∙ c.in-Some-3.is in
    let by_stub = sym c.hangs_by_stub.ensures ∙ c.if-not-hangs_by_stub.false in
    let e = c.cut_stub.ensures in
    (cut_stub-Step c.args.caches.now r.sound c.args.node _ r.held up by_stub _ e.forest e.sound e.links e.room).forest
    ∙ sym (stub-placed c.args.caches.now r.sound c.args.node c.args.child r.held r.child r.root _ up by_stub (ap is_absent (sym c.own_state.ensures) ∙ sym c.is_absent.ensures.absent ∙ c.if-is_absent.false))
