use Rattle.std.proofs.Common.{◌≡◌, ap, ◌∙◌}
use Rattle.local_cache.specs.declared.own_state.OwnState.TheVariants.{Zero}
use Rattle.local_cache.specs.Arena.{Arena, NodesStay, cell}
use Rattle.local_cache.specs.NodeCells.{renewed}
use Rattle.local_cache.specs.OnCells.{on_cells}
use Rattle.tree_merge.specs.Copying.{renewed_many}
use Rattle.move_pages.proofs.MovedPages.AtOnce.{all_moved, destinations_still, first_held, nodes_apart, nodes_held, parents_held, sources_still}
use Rattle.move_pages.proofs.moving_many.move_alike.Goals as goal

pub leave_many-requires-clause-held : goal.leave_many-requires-clause-held
leave_many-requires-clause-held c = let can = c.requires.can in nodes_held c.args.caches.now c.args.node c.args.source can.0 c.args.count can.1 can.2

pub leave_many-requires-clause-parents : goal.leave_many-requires-clause-parents
leave_many-requires-clause-parents c = let can = c.requires.can in parents_held c.args.caches.now c.args.node c.args.source can.0 c.args.count can.1 can.2

pub leave_many-requires-clause-node : goal.leave_many-requires-clause-node
leave_many-requires-clause-node c = let can = c.requires.can in first_held c.args.caches.now c.args.node c.args.source can.0 c.args.count can.1 can.2 c.requires.some

pub renew_many-requires-clause-held : goal.renew_many-requires-clause-held
renew_many-requires-clause-held c = λ k less.
    let can = c.requires.can in
    c.leave_many.ensures.stays _ (nodes_held c.args.caches.now c.args.node c.args.source can.0 c.args.count can.1 can.2 k less)

pub exchange_names-requires-clause-nodes : goal.exchange_names-requires-clause-nodes
exchange_names-requires-clause-nodes c =
    let a = c.args.caches.now in
    let d = c.args.node in
    let can = c.requires.can in
    let stays : NodesStay a c.renew_many.new.self = λ n held. c.renew_many.ensures.stays n (c.leave_many.ensures.stays n held) in
    let is : c.renew_many.new.self ≡ renewed_many a (cell a d).links.parent d Zero c.args.count =
    c.renew_many.ensures.changed ∙ ap (λ (x : Arena). on_cells x d (λ _. renewed Zero) c.args.count) c.leave_many.ensures.changed in
    (can.0.to, can.0.to_page, destinations_still a d c.args.source can.0 c.args.count can.1 can.2 c.renew_many.new.self is stays)

pub exchange_names-requires-clause-others : goal.exchange_names-requires-clause-others
exchange_names-requires-clause-others c =
    let a = c.args.caches.now in
    let d = c.args.node in
    let can = c.requires.can in
    let stays : NodesStay a c.renew_many.new.self = λ n held. c.renew_many.ensures.stays n (c.leave_many.ensures.stays n held) in
    let is : c.renew_many.new.self ≡ renewed_many a (cell a d).links.parent d Zero c.args.count =
    c.renew_many.ensures.changed ∙ ap (λ (x : Arena). on_cells x d (λ _. renewed Zero) c.args.count) c.leave_many.ensures.changed in
    (can.0.from, can.0.from_page, sources_still a d c.args.source can.0 c.args.count can.1 can.2 c.renew_many.new.self is stays)

pub exchange_names-requires-clause-apart : goal.exchange_names-requires-clause-apart
exchange_names-requires-clause-apart c =
    let can = c.requires.can in
    nodes_apart c.args.caches.now c.args.node c.args.source can.0 c.args.count can.1 can.2

pub returns : goal.returns
returns c = λ span same can.
    let a = c.args.caches.now in
    let d = c.args.node in
    let is : c.renew_many.new.self ≡ renewed_many a (cell a d).links.parent d Zero c.args.count =
    c.renew_many.ensures.changed ∙ ap (λ (x : Arena). on_cells x d (λ _. renewed Zero) c.args.count) c.leave_many.ensures.changed in
    all_moved a d c.args.source span c.args.count same can c.renew_many.new.self _ is c.exchange_names.ensures.changed
