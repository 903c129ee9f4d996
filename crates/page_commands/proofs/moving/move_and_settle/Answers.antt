use Rattle.std.proofs.Common.{[], ℕ, None, arith, false, sym, ap, ◌∙◌, subst}
use Rattle.std.specs.Prelude.{option_map, replicate}
use Rattle.vm_ids.proofs.Forest.Laws.Copying.{still_can}
use Rattle.vm_ids.proofs.Forest.Laws.Commands.{move_counts_saves}
use Rattle.vm_ids.specs.declared.node_name.NodeName.TheVariants.{Working}
use Rattle.vm_ids.specs.Forest.Commands.{firsts, move_, move_pages, page_names, span_pairs}
use Rattle.vm_ids.specs.Forest.NameLists.{◌∈◌}
use Rattle.vm_ids.specs.Forest.Nodes.{Forest}
use Rattle.vm_ids.specs.Forest.Settling.{settle}
use Rattle.local_cache.specs.declared.own_state.OwnState.{OwnState}
use Rattle.local_cache.specs.declared.own_state.OwnState.TheVariants.{Zero}
use Rattle.local_cache.specs.Arena.{Arena}
use Rattle.local_cache.specs.Reading.{forest_of}
use Rattle.residency.specs.Seeing.{frame_forest}
use Rattle.residency.specs.StoreForest.{store_forest}
use Rattle.residency.specs.World.{world}
use Rattle.residency.proofs.Worlds.Nodes.{still_like}
use Rattle.page_commands.specs.Homes.{is_named}
use Rattle.page_commands.specs.Steps.{forgotten_where, zeros_told}
use Rattle.page_commands.proofs.Forgotten.Law.{move_forgotten}
use Rattle.page_commands.proofs.SeenFrames.Shape.{frame_can, frame_consistent, frame_saved}
use Rattle.page_commands.proofs.FreedFrames.Commands.{move_replaces}
use Rattle.page_commands.proofs.TiedStores.Homes.{writable_after}
use Rattle.page_commands.proofs.TiedStores.Kept.{kept_both, kept_then, unpinned_kept}
use Rattle.page_commands.proofs.TiedStores.Named.{named_same}
use Rattle.page_commands.proofs.TiedStores.Shape.{store_can, store_consistent, store_saved}
use Rattle.local_cache.proofs.Whole.Like.{like_node}
use Rattle.page_commands.proofs.CommandSteps.Ranges.{destination_names, destination_nodes}
use Rattle.page_commands.proofs.CommandSteps.Forgetting.{retire_kept}
use Rattle.page_commands.proofs.CommandSteps.Settled.{pages_kept}
use Rattle.page_commands.proofs.moving.move_and_settle.Goals as goal

pub forget_named-requires-clause-nodes : goal.forget_named-requires-clause-nodes
forget_named-requires-clause-nodes c = destination_nodes (forest_of c.args.caches.now) c.args.span c.requires.transfer.can

pub forget_named-requires-clause-unpinned : goal.forget_named-requires-clause-unpinned
forget_named-requires-clause-unpinned c x i = c.requires.ready.retire.unpinned x (subst (λ xs. x ∈ xs) (sym (destination_names c.args.span)) i)

pub move_each-requires-clause-can : goal.move_each-requires-clause-can
move_each-requires-clause-can c =
    let f = c.forget_named.ensures in
    still_can (forest_of c.args.caches.now) (forest_of c.forget_named.new.caches) (span_pairs c.args.span)
    (λ x live is. like_node c.args.caches.now c.forget_named.new.caches f.kept.sound (still_like c.args.caches.now c.forget_named.new.caches f.same) x is) c.requires.transfer.can

pub move_each-requires-clause-retire : goal.move_each-requires-clause-retire
move_each-requires-clause-retire c =
    let f = c.forget_named.ensures in
    retire_kept c.args.caches.now c.forget_named.new.caches f.same _ (page_names c.args.span.to c.args.span.to_page.0 c.args.span.pages) c.args.store.now c.forget_named.new.store f.kept f.whole _ c.requires.ready.retire

pub move_each-requires-clause-unclean : goal.move_each-requires-clause-unclean
move_each-requires-clause-unclean c x i = c.forget_named.ensures.unclean x (subst (λ xs. x ∈ xs) (destination_names c.args.span) i)

pub move_each-requires-clause-room : goal.move_each-requires-clause-room
move_each-requires-clause-room c = let room = ap (λ (a : Arena). a.room.nodes) c.forget_named.ensures.same.rest in omega (arith, room, c.requires.room.room)

pub move_each-requires-clause-temporary : goal.move_each-requires-clause-temporary
move_each-requires-clause-temporary c = named_same c.args.caches.now c.forget_named.new.caches c.forget_named.ensures.kept.sizes c.args.span.from ∙ c.requires.temporary

pub move_each-requires-clause-sources : goal.move_each-requires-clause-sources
move_each-requires-clause-sources c x i =
    unpinned_kept (page_names c.args.span.to c.args.span.to_page.0 c.args.span.pages) c.args.store.now c.args.caches.now c.forget_named.new.store c.forget_named.new.caches c.requires.ready.retire.tied c.forget_named.ensures.kept x (c.requires.sources x i)

pub settle-requires-clause-unpinned : goal.settle-requires-clause-unpinned
settle-requires-clause-unpinned c k =
    let f = c.forget_named.ensures in
    let r = c.move_each.ensures in
    unpinned_kept [] c.forget_named.new.store c.forget_named.new.caches c.move_each.new.store c.move_each.new.caches f.kept.tied r.kept (Working k)
    (unpinned_kept (page_names c.args.span.to c.args.span.to_page.0 c.args.span.pages) c.args.store.now c.args.caches.now c.forget_named.new.store c.forget_named.new.caches c.requires.ready.retire.tied f.kept (Working k) (c.requires.ready.working k))

pub returns-clause-rule : goal.returns-clause-rule
returns-clause-rule c =
    let a = c.args.caches.now in
    let u = c.args.store.now in
    let m = u.map in
    let f = c.forget_named.ensures in
    let r = c.move_each.ensures in
    let e = c.settle.ensures in
    let sound = c.requires.ready.retire.whole.sound in
    let consistent = c.requires.ready.retire.whole.consistent in
    let saved = c.requires.ready.saved in
    let s = c.args.span in
    let pairs = span_pairs s in
    let b = c.forget_named.new in
    let named = is_named a s.to in
    let can = c.requires.transfer.can in
    let names = sym (destination_names s) in
    record {
      nodes =
          e.rule.nodes ∙ ap settle r.rule.nodes
          ∙ ap (move_ false Zero pairs) (f.rule.nodes ∙ ap (λ xs. forgotten_where named xs Zero (forest_of a)) names)
          ∙ move_forgotten named pairs (forest_of a) consistent can saved Zero Zero;
      forest = λ told size fit.
          let w = world told size a u in
          let one = (f.kept.gives_back told size fit).tied in
          let two = (r.kept.gives_back told size one).tied in
          e.rule.forest told size two ∙ ap settle (r.rule.forest told size one)
          ∙ ap (λ z. settle (move_pages z pairs (store_forest (world told size b.caches b.store)))) (ap (λ (k : ℕ). option_map (λ _. replicate k 0) told) (f.kept.gives_back told size fit).page)
          ∙ ap (move_ false (zeros_told w) pairs) (f.rule.forest told size fit ∙ ap (λ xs. forgotten_where named xs (zeros_told w) (store_forest w)) names)
          ∙ move_forgotten named pairs (store_forest w) (store_consistent w sound consistent) (store_can w sound pairs can) (λ named x i. store_saved w sound x (saved named x i)) (zeros_told w) (zeros_told w);
      frames =
          e.rule.frames ∙ ap settle r.rule.frames
          ∙ ap (move_ false None pairs) (f.rule.frames ∙ ap (λ xs. forgotten_where named xs None (frame_forest a m)) names)
          ∙ move_forgotten named pairs (frame_forest a m) (frame_consistent a m sound consistent) (frame_can a m sound pairs can) (λ named x i. frame_saved a m sound x (saved named x i)) None None;
    }

pub returns-clause-kept : goal.returns-clause-kept
returns-clause-kept c =
    let s = c.args.span in
    let names = page_names s.to s.to_page.0 s.pages in
    let t = c.forget_named.new.store in
    let b = c.forget_named.new.caches in
    let f = c.forget_named.ensures.kept in
    let rest = kept_both t b c.move_each.new.store c.move_each.new.caches c.settle.new.store c.settle.new.caches f.tied c.move_each.ensures.kept c.settle.ensures.kept in
    kept_then names [] (firsts (span_pairs s)) c.args.store.now c.args.caches.now t b c.settle.new.store c.settle.new.caches c.requires.ready.retire.tied (λ x i. subst (λ xs. x ∈ xs) (sym (destination_names s)) i) (λ x i. absurd i) f rest

pub returns-clause-pages : goal.returns-clause-pages
returns-clause-pages c =
    let names = firsts (span_pairs c.args.span) in
    let a = c.args.caches.now in
    let d = c.settle.new.caches in
    let f = c.forget_named.ensures in
    let r = c.move_each.ensures in
    let e = c.settle.ensures in
    let kept = returns-clause-kept c in
    pages_kept c.args.span.pages names c.args.store.now a c.forget_named.new.caches c.move_each.new.caches c.settle.new.store d kept c.requires.ready.retire.whole c.requires.room f.same
    f.whole r.grows r.kept.sizes e.rule.nodes e.kept.sound e.kept.sizes e.settled e.bounded e.counters.0 e.room
    (writable_after names a d kept.sizes c.requires.transfer.granted) (ap (λ (g : Forest OwnState). g.copies) (returns-clause-rule c).nodes ∙ move_counts_saves false Zero (span_pairs c.args.span) (forest_of a))

pub returns-clause-translations : goal.returns-clause-translations
returns-clause-translations c =
    move_replaces c.args.caches.now c.args.store.now c.settle.new.caches c.settle.new.store c.requires.ready.retire.whole.sound c.requires.ready.retire.whole.consistent (returns-clause-kept c).tables
    (span_pairs c.args.span) c.requires.transfer.can (returns-clause-rule c).nodes (returns-clause-rule c).frames
