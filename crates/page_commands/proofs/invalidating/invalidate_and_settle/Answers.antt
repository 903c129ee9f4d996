use Rattle.std.proofs.Common.{[], ◌+◌, None, arith, sym, refl, ap, ◌∙◌, subst}
use Rattle.vm_ids.proofs.Forest.Counters.{replace_pages-copies, settle-counters}
use Rattle.std.proofs.lemmas.Bool.{false≢true}
use Rattle.vm_ids.proofs.Forest.Laws.Ranges.{ranges_hold_their_pages}
use Rattle.vm_ids.specs.declared.node_name.NodeName.{NodeName}
use Rattle.vm_ids.specs.declared.node_name.NodeName.TheVariants.{Working}
use Rattle.vm_ids.specs.Forest.Commands.{extent_names, page_name, replace_pages}
use Rattle.vm_ids.specs.Forest.NameLists.{◌∈◌}
use Rattle.vm_ids.specs.Forest.Nodes.{Forest}
use Rattle.vm_ids.specs.Forest.Settling.{settle}
use Rattle.local_cache.specs.declared.own_state.OwnState.{OwnState}
use Rattle.local_cache.specs.declared.own_state.OwnState.TheVariants.{OnSegment, Zero}
use Rattle.local_cache.specs.Arena.{Arena}
use Rattle.local_cache.specs.Reading.{forest_of, name_of}
use Rattle.residency.specs.Seeing.{frame_forest}
use Rattle.residency.specs.StoreForest.{store_forest}
use Rattle.residency.specs.World.{world}
use Rattle.residency.proofs.Worlds.Nodes.{still_like}
use Rattle.page_commands.specs.Homes.{HasHome, IsClean, named_page}
use Rattle.page_commands.specs.Readings.{held_pages, new_frames, new_pages, new_states}
use Rattle.page_commands.specs.Steps.{zeros_told}
use Rattle.page_commands.proofs.SeenFrames.Shape.{frame_consistent, frame_pages, frame_saved}
use Rattle.page_commands.proofs.FreedFrames.Commands.{replace_replaces}
use Rattle.page_commands.proofs.TiedStores.Kept.{kept_then, unpinned_kept}
use Rattle.page_commands.proofs.TiedStores.Named.{named_home, named_same}
use Rattle.page_commands.proofs.TiedStores.Shape.{store_consistent, store_pages, store_saved}
use Rattle.local_cache.proofs.Whole.Like.{like_node}
use Rattle.page_commands.proofs.Forgotten.Again.{replace_some}
use Rattle.page_commands.proofs.CommandSteps.Replacing.{clean_then, pages_of, segment_pages_same}
use Rattle.page_commands.proofs.CommandSteps.Forgetting.{retire_kept}
use Rattle.page_commands.proofs.CommandSteps.Settled.{pages_kept}
use Rattle.page_commands.proofs.invalidating.invalidate_and_settle.Goals as goal

pub replace_each-requires-clause-named : goal.replace_each-requires-clause-named
replace_each-requires-clause-named c = named_same c.args.caches.now c.forget_touched.new.caches c.forget_touched.ensures.kept.sizes c.args.extent.cache ∙ c.requires.named

pub replace_each-requires-clause-nodes : goal.replace_each-requires-clause-nodes
replace_each-requires-clause-nodes c i low =
    let f = c.forget_touched.ensures in
    like_node c.args.caches.now c.forget_touched.new.caches f.kept.sound (still_like c.args.caches.now c.forget_touched.new.caches f.same) (page_name c.args.extent.cache (c.args.extent.first.0 + i)) (c.requires.nodes i low)

pub replace_each-requires-clause-retire : goal.replace_each-requires-clause-retire
replace_each-requires-clause-retire c =
    let f = c.forget_touched.ensures in
    retire_kept c.args.caches.now c.forget_touched.new.caches f.same _ (extent_names c.args.extent) c.args.store.now c.forget_touched.new.store f.kept f.whole _ c.requires.ready.retire

pub replace_each-requires-clause-room : goal.replace_each-requires-clause-room
replace_each-requires-clause-room c = let room = ap (λ (a : Arena). a.room.nodes) c.forget_touched.ensures.same.rest in omega (arith, room, c.requires.room.room)

pub settle-requires-clause-unpinned : goal.settle-requires-clause-unpinned
settle-requires-clause-unpinned c k =
    let names = extent_names c.args.extent in
    let f = c.forget_touched.ensures in
    let r = c.replace_each.ensures in
    unpinned_kept names c.forget_touched.new.store c.forget_touched.new.caches c.replace_each.new.store c.replace_each.new.caches f.kept.tied r.kept (Working k)
    (unpinned_kept names c.args.store.now c.args.caches.now c.forget_touched.new.store c.forget_touched.new.caches c.requires.ready.retire.tied f.kept (Working k) (c.requires.ready.working k))

pub returns-clause-rule : goal.returns-clause-rule
returns-clause-rule c =
    let a = c.args.caches.now in
    let u = c.args.store.now in
    let m = u.map in
    let f = c.forget_touched.ensures in
    let r = c.replace_each.ensures in
    let e = c.settle.ensures in
    let sound = c.requires.ready.retire.whole.sound in
    let consistent = c.requires.ready.retire.whole.consistent in
    let saved = c.requires.ready.saved in
    let names = extent_names c.args.extent in
    let b = c.forget_touched.new in
    let named = c.requires.named in
    let there = pages_of (forest_of a) c.args.extent.cache c.args.extent.first.0 c.args.extent.pages c.requires.nodes in
    let among : (x : NodeName) → x ∈ f.rule.some → x ∈ names = λ x i. (f.rule.among x i).1 in
    record {
      nodes =
          e.rule.nodes ∙ ap settle (r.rule.nodes ∙ ap (replace_pages (held_pages new_states names)) f.rule.rule.nodes)
          ∙ replace_some Zero names f.rule.some (forest_of a) consistent there (saved named) among (λ _. OnSegment);
      forest = λ told size fit.
          let w = world told size a u in
          let one = (f.kept.gives_back told size fit).tied in
          let two = (r.kept.gives_back told size one).tied in
          e.rule.forest told size two
          ∙ ap settle (r.rule.forest told size one ∙ ap (λ ps. replace_pages ps (store_forest (world told size b.caches b.store))) (segment_pages_same told size u a b.store b.caches f.kept.sizes names)
          ∙ ap (replace_pages (held_pages (new_pages w) names)) (f.rule.rule.forest told size fit))
          ∙ replace_some (zeros_told w) names f.rule.some (store_forest w) (store_consistent w sound consistent) (store_pages w sound names there)
          (λ x i. store_saved w sound x (saved named x i)) among (named_page w);
      frames =
          e.rule.frames ∙ ap settle (r.rule.frames ∙ ap (replace_pages (held_pages new_frames names)) f.rule.rule.frames)
          ∙ replace_some None names f.rule.some (frame_forest a m) (frame_consistent a m sound consistent) (frame_pages a m sound names there)
          (λ x i. frame_saved a m sound x (saved named x i)) among (λ _. None);
    }

pub returns-clause-kept : goal.returns-clause-kept
returns-clause-kept c =
    let names = extent_names c.args.extent in
    let s = c.args.store.now in
    let a = c.args.caches.now in
    let t = c.forget_touched.new.store in
    let b = c.forget_touched.new.caches in
    let u = c.replace_each.new.store in
    let d = c.replace_each.new.caches in
    let f = c.forget_touched.ensures.kept in
    let both = kept_then names names names s a t b u d c.requires.ready.retire.tied (λ x i. i) (λ x i. i) f c.replace_each.ensures.kept in
    kept_then names [] names s a u d c.settle.new.store c.settle.new.caches c.requires.ready.retire.tied (λ x i. i) (λ x i. absurd i) both c.settle.ensures.kept

-- each of the pages is one of its segment's in the end
clean_now : (c : goal.After-settle) → (x : NodeName) → x ∈ extent_names c.args.extent → IsClean c.settle.new.caches x
clean_now c x i =
    let at = (ranges_hold_their_pages c.args.extent.cache c.args.extent.first.0 c.args.extent.pages x).0 i in
    let d = c.settle.new.caches in
    let home = named_home d c.args.extent.cache (named_same c.args.caches.now d (returns-clause-kept c).sizes c.args.extent.cache ∙ c.requires.named) (record { 0 = c.args.extent.first.0 + at.0 }) in
    clean_then [] c.replace_each.new.caches d c.settle.ensures.kept.homes x (subst (HasHome d) (sym at.2) home) (λ k. k) (c.replace_each.ensures.clean x i)

pub returns-clause-pages : goal.returns-clause-pages
returns-clause-pages c =
    let names = extent_names c.args.extent in
    let a = c.args.caches.now in
    let d = c.settle.new.caches in
    let f = c.forget_touched.ensures in
    let r = c.replace_each.ensures in
    let e = c.settle.ensures in
    let kept = returns-clause-kept c in
    pages_kept c.args.extent.pages names c.args.store.now a c.forget_touched.new.caches c.replace_each.new.caches c.settle.new.store d kept c.requires.ready.retire.whole c.requires.room f.same
    f.whole r.grows r.kept.sizes e.rule.nodes e.kept.sound e.kept.sizes e.settled e.bounded e.counters.0 e.room
    (λ n some i unclean. absurd (false≢true (sym unclean ∙ clean_now c (name_of d n) i n refl))) (ap (λ (g : Forest OwnState). g.copies) (returns-clause-rule c).nodes ∙ (settle-counters (replace_pages (held_pages new_states names) (forest_of a))).copies ∙ replace_pages-copies (held_pages new_states names) (forest_of a))

pub returns-clause-translations : goal.returns-clause-translations
returns-clause-translations c =
    let a = c.args.caches.now in
    replace_replaces a c.args.store.now c.settle.new.caches c.settle.new.store c.requires.ready.retire.whole.sound c.requires.ready.retire.whole.consistent (returns-clause-kept c).tables
    (extent_names c.args.extent) (pages_of (forest_of a) c.args.extent.cache c.args.extent.first.0 c.args.extent.pages c.requires.nodes) (returns-clause-rule c).nodes (returns-clause-rule c).frames
