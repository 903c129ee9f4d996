use Rattle.std.proofs.Common.{◌≡◌, sym, ap, ◌∙◌, subst, arith}
use Rattle.std.specs.Prelude.{IfSome}
use Rattle.local_cache.specs.declared.own_state.OwnState.TheVariants.{Absent}
use Rattle.local_cache.specs.Arena.{Arena, NodesStay, cell}
use Rattle.local_cache.specs.Many.{HaveNodes, HaveNone}
use Rattle.local_cache.specs.NodeCells.{renewed}
use Rattle.local_cache.specs.OnCells.{on_cells}
use Rattle.tree_merge.specs.Copyable.{history_of}
use Rattle.tree_merge.specs.Copying.{linked_many, renewed_many}
use Rattle.tree_merge.specs.Stepping.{AreCopied}
use Rattle.tree_merge.proofs.CopiedPages.AtOnce.{held_d, held_h, held_p, held_s, if_new, if_stay, made_renewed, many_copied, room_renewed}
use Rattle.tree_merge.proofs.copying.copy_ready.Goals as goal

pub leave_many-requires-clause-parents : goal.leave_many-requires-clause-parents
leave_many-requires-clause-parents c = held_p c.args.caches.now c.requires.sound c.args.node c.args.source c.args.count c.requires.copyable

pub renew_many-requires-clause-held : goal.renew_many-requires-clause-held
renew_many-requires-clause-held c = λ k less.
    c.leave_many.ensures.stays _ (held_d c.args.caches.now c.requires.sound c.args.node c.args.source c.args.count c.requires.copyable k less)

pub link_many-requires-clause-nodes : goal.link_many-requires-clause-nodes
link_many-requires-clause-nodes c = λ k less.
    c.renew_many.ensures.stays _ (c.leave_many.ensures.stays _ (held_d c.args.caches.now c.requires.sound c.args.node c.args.source c.args.count c.requires.copyable k less))

pub link_many-requires-clause-sources : goal.link_many-requires-clause-sources
link_many-requires-clause-sources c = λ k less.
    let from = c.requires.source in
    c.renew_many.ensures.stays _ (c.leave_many.ensures.stays _
    (held_s c.args.caches.now c.requires.sound c.args.node c.args.source c.args.count c.requires.copyable from.0 from.1 from.2 k less))

pub link_many-requires-clause-histories : goal.link_many-requires-clause-histories
link_many-requires-clause-histories c =
    let a = c.args.caches.now in
    let from = c.requires.source in
    let stays : NodesStay a c.renew_many.new.self = λ n held. c.renew_many.ensures.stays n (c.leave_many.ensures.stays n held) in
    subst (λ o. IfSome o (λ h. HaveNodes c.renew_many.new.self h c.args.count)) (sym c.history_of-history.ensures)
    (if_stay a c.renew_many.new.self c.args.count stays (history_of a c.args.node c.args.source)
    (held_h a c.requires.sound c.args.node c.args.source c.args.count c.requires.copyable from.0 from.1 from.2))

pub link_many-requires-clause-room : goal.link_many-requires-clause-room
link_many-requires-clause-room c =
    let a = c.args.caches.now in
    let is : c.renew_many.new.self ≡ renewed_many a (cell a c.args.node).links.parent c.args.node Absent c.args.count =
    c.renew_many.ensures.changed ∙ ap (λ (x : Arena). on_cells x c.args.node (λ _. renewed Absent) c.args.count) c.leave_many.ensures.changed in
    omega (arith, ap (λ (x : Arena). x.room.nodes) is, ap (λ r. r.nodes) (room_renewed a c.args.node Absent c.args.count (cell a c.args.node).links.parent), c.requires.room)

pub link_many-requires-clause-made : goal.link_many-requires-clause-made
link_many-requires-clause-made c =
    let a = c.args.caches.now in
    let is : c.renew_many.new.self ≡ renewed_many a (cell a c.args.node).links.parent c.args.node Absent c.args.count =
    c.renew_many.ensures.changed ∙ ap (λ (x : Arena). on_cells x c.args.node (λ _. renewed Absent) c.args.count) c.leave_many.ensures.changed in
    omega (arith, ap (λ (x : Arena). x.made) is, made_renewed a c.args.node Absent c.args.count (cell a c.args.node).links.parent, c.requires.made)

pub returns : goal.returns
returns c = λ to to_page from from_page named_d named_s.
    let a = c.args.caches.now in
    let d = c.args.node in
    let s = c.args.source in
    let count = c.args.count in
    let parent = (cell a d).links.parent in
    let b = c.renew_many.new.self in
    let linked = c.link_many.ensures.changed in
    let stays : NodesStay a b = λ n held. c.renew_many.ensures.stays n (c.leave_many.ensures.stays n held) in
    let is : b ≡ renewed_many a parent d Absent count =
    c.renew_many.ensures.changed ∙ ap (λ (x : Arena). on_cells x d (λ _. renewed Absent) count) c.leave_many.ensures.changed in
    let none : IfSome (history_of a d s) (λ _. HaveNone b linked.0 count) = subst (λ o. IfSome o (λ _. HaveNone b linked.0 count)) c.history_of-history.ensures linked.1 in
    subst (λ (x : Arena). AreCopied a x to to_page from from_page count)
    (sym (linked.2 ∙ (λ i. linked_many (is i) (c.history_of-history.ensures i) d s linked.0 count)))
    (many_copied a c.requires.sound d s count c.requires.copyable from from_page named_s to to_page named_d linked.0
    (if_new a b linked.0 count stays c.requires.room (history_of a d s) none))
