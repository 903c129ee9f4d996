use Rattle.std.proofs.Common.{sym, ◌∙◌}
use Rattle.tree_merge.proofs.Place.Cut.{cut_linked, cut_stub-Step, no_parent-Step}
use Rattle.tree_merge.proofs.cutting.cut.Goals as goal

pub cut_stub-requires-clause-linked : goal.cut_stub-requires-clause-linked
cut_stub-requires-clause-linked c =
    let r = c.requires in
    cut_linked c.args.caches.now r.sound c.args.node _ r.held (sym c.parent.ensures ∙ c.in-Some.is) (sym c.hangs_by_stub.ensures ∙ c.if-hangs_by_stub.true)

pub returns-in-Some-clause-forest : goal.returns-in-Some-clause-forest
returns-in-Some-clause-forest c =
    let r = c.requires in
    let e = c.cut_stub.ensures in
    (cut_stub-Step c.args.caches.now r.sound c.args.node _ r.held (sym c.parent.ensures ∙ c.in-Some.is) (sym c.hangs_by_stub.ensures ∙ c.if-hangs_by_stub.true) _ e.forest e.sound e.links e.room).forest

pub returns-in-None-clause-forest : goal.returns-in-None-clause-forest
returns-in-None-clause-forest c =
    let r = c.requires in
    (no_parent-Step c.args.caches.now r.sound c.args.node r.held (sym c.parent.ensures ∙ c.in-None.is)).forest
