use Rattle.std.proofs.Common.{sym, ◌∙◌}
use Rattle.history_tree.proofs.OnCells.{one_held}
use Rattle.tree_merge.proofs.Leaving.Left.{left_root, left_stub, left_tree}
use Rattle.tree_merge.proofs.Place.Cut.{cut_linked, is_a_stub}
use Rattle.tree_merge.proofs.retiring.leave_parent.Goals as goal

pub leave_stubs-requires-clause-linked : goal.leave_stubs-requires-clause-linked
leave_stubs-requires-clause-linked c =
    let r = c.requires in
    cut_linked c.args.caches.now r.sound c.args.node _ r.held (sym c.parent.ensures ∙ c.in-Some.is) (sym c.hangs_by_stub.ensures ∙ c.if-hangs_by_stub.true)

pub leave_stubs-requires-clause-stub : goal.leave_stubs-requires-clause-stub
leave_stubs-requires-clause-stub c =
    let r = c.requires in
    is_a_stub c.args.caches.now r.sound c.args.node _ r.held (sym c.parent.ensures ∙ c.in-Some.is) (sym c.hangs_by_stub.ensures ∙ c.if-hangs_by_stub.true)

pub exchange_many-requires-clause-held : goal.exchange_many-requires-clause-held
exchange_many-requires-clause-held c =
    let r = c.requires in
    one_held c.args.caches.now c.in-Some.field-0 (r.sound.kept.parents c.args.node c.in-Some.field-0 r.held (sym c.parent.ensures ∙ c.in-Some.is))

pub exchange_many-requires-clause-gone : goal.exchange_many-requires-clause-gone
exchange_many-requires-clause-gone c = one_held c.args.caches.now c.args.node c.requires.held

pub returns-in-None : goal.returns-in-None
returns-in-None c =
    let r = c.requires in
    left_root c.args.caches.now r.sound c.args.node r.held (sym c.parent.ensures ∙ c.in-None.is)

pub returns-in-Some : goal.returns-in-Some
returns-in-Some c =
    let r = c.requires in
    let e = c.leave_stubs.ensures in
    left_stub c.args.caches.now r.sound c.args.node r.held _ (sym c.parent.ensures ∙ c.in-Some.is) (sym c.hangs_by_stub.ensures ∙ c.if-hangs_by_stub.true)
    c.leave_stubs.new.caches e.forest e.sound e.links e.room (e.stays c.args.node r.held)

pub returns-in-Some-2 : goal.returns-in-Some-2
returns-in-Some-2 c =
    let r = c.requires in
    left_tree c.args.caches.now r.sound c.args.node r.held c.in-Some.field-0 (sym c.parent.ensures ∙ c.in-Some.is) (sym c.hangs_by_stub.ensures ∙ c.if-hangs_by_stub.false)
    c.exchange_many.new.self c.exchange_many.ensures.changed
