use Rattle.std.proofs.Common.{◌≡◌, ◌≤◌, ℕ, [], None, length, ap, ◌∙◌, arith, false, sym}
use Rattle.vm_ids.proofs.Forest.Laws.Commands.{destroy_counts_saves}
use Rattle.vm_ids.specs.Forest.Nodes.{Forest}
use Rattle.vm_ids.specs.Forest.Commands.{page_names, retire_all}
use Rattle.vm_ids.specs.Forest.Settling.{settle}
use Rattle.vm_ids.specs.declared.node_name.NodeName.TheVariants.{Working}
use Rattle.local_cache.specs.declared.own_state.OwnState.{OwnState}
use Rattle.local_cache.specs.declared.own_state.OwnState.TheVariants.{Zero}
use Rattle.local_cache.specs.Arena.{Arena, node_at}
use Rattle.local_cache.specs.Own.{own_states}
use Rattle.local_cache.specs.Reading.{forest_of}
use Rattle.local_cache.proofs.Changes.SameNodes.{forest_of-copies}
use Rattle.local_cache.proofs.Whole.Commands.{emptied, whole_emptied}
use Rattle.local_cache.proofs.Whole.LivePages.{pages_once, range_there}
use Rattle.residency.specs.Seeing.{frame_forest}
use Rattle.residency.specs.StoreForest.{store_forest}
use Rattle.residency.specs.World.{world}
use Rattle.page_commands.specs.Homes.{is_named}
use Rattle.page_commands.specs.Steps.{Releases, zeros_told}
use Rattle.page_commands.proofs.Forgotten.Again.{destroy_named}
use Rattle.page_commands.proofs.SeenFrames.Shape.{frame_consistent, frame_pages, frame_saved}
use Rattle.page_commands.proofs.FreedFrames.Commands.{destroy_replaces}
use Rattle.page_commands.proofs.TiedStores.Homes.{homed_gone}
use Rattle.page_commands.proofs.TiedStores.Kept.{kept_both, kept_then, kept_unlisted, unpinned_kept}
use Rattle.page_commands.proofs.TiedStores.Shape.{store_consistent, store_pages, store_saved}
use Rattle.page_commands.proofs.TiedStores.Sized.{right_after}
use Rattle.page_commands.proofs.CommandSteps.Forgetting.{retire_kept}
use Rattle.page_commands.proofs.destroying.destroy_pages.Goals as goal

pub forget_touched-requires-clause-nodes : goal.forget_touched-requires-clause-nodes
forget_touched-requires-clause-nodes c = range_there c.args.caches.now c.requires.ready.retire.whole c.args.cache 0 c.args.pages c.args.pages c.requires.pages (omega arith)

pub retire_pages-requires-clause-pages : goal.retire_pages-requires-clause-pages
retire_pages-requires-clause-pages c = c.forget_touched.ensures.kept.sizes.sizes c.args.cache.0 ∙ c.requires.pages

pub retire_pages-requires-clause-retire : goal.retire_pages-requires-clause-retire
retire_pages-requires-clause-retire c =
    let f = c.forget_touched.ensures in
    retire_kept c.args.caches.now c.forget_touched.new.caches f.same _ (page_names c.args.cache 0 c.args.pages) c.args.store.now c.forget_touched.new.store f.kept f.whole _ c.requires.ready.retire

pub settle-requires-clause-unpinned : goal.settle-requires-clause-unpinned
settle-requires-clause-unpinned c k =
    let f = c.forget_touched.ensures in
    let r = c.retire_pages.ensures in
    unpinned_kept [] c.forget_touched.new.store c.forget_touched.new.caches c.retire_pages.new.store c.retire_pages.new.caches f.kept.tied r.kept (Working k)
    (unpinned_kept (page_names c.args.cache 0 c.args.pages) c.args.store.now c.args.caches.now c.forget_touched.new.store c.forget_touched.new.caches c.requires.ready.retire.tied f.kept (Working k) (c.requires.ready.working k))

pub returns-clause-rule : goal.returns-clause-rule
returns-clause-rule c =
    let a = c.args.caches.now in
    let u = c.args.store.now in
    let m = u.map in
    let f = c.forget_touched.ensures in
    let r = c.retire_pages.ensures in
    let e = c.settle.ensures in
    let sound = c.requires.ready.retire.whole.sound in
    let consistent = c.requires.ready.retire.whole.consistent in
    let saved = c.requires.ready.saved in
    let names = page_names c.args.cache 0 c.args.pages in
    let named = is_named a c.args.cache in
    let there = pages_once a c.requires.ready.retire.whole c.args.cache c.args.pages c.requires.pages in
    record {
      nodes =
          e.rule.nodes ∙ ap settle (r.rule.nodes ∙ ap (retire_all names) f.rule.rule.nodes)
          ∙ destroy_named Zero named names f.rule.some (forest_of a) consistent there saved f.rule.among;
      forest = λ told size fit.
          let w = world told size a u in
          let one = (f.kept.gives_back told size fit).tied in
          let two = (r.kept.gives_back told size one).tied in
          e.rule.forest told size two ∙ ap settle (r.rule.forest told size one ∙ ap (retire_all names) (f.rule.rule.forest told size fit))
          ∙ destroy_named (zeros_told w) named names f.rule.some (store_forest w) (store_consistent w sound consistent) (store_pages w sound names there) (λ named x i. store_saved w sound x (saved named x i)) f.rule.among;
      frames =
          e.rule.frames ∙ ap settle (r.rule.frames ∙ ap (retire_all names) f.rule.rule.frames)
          ∙ destroy_named None named names f.rule.some (frame_forest a m) (frame_consistent a m sound consistent) (frame_pages a m sound names there) (λ named x i. frame_saved a m sound x (saved named x i)) f.rule.among;
    }

emptied_now : (c : goal.After-settle) → (page : ℕ) → node_at c.settle.new.caches c.args.cache.0 page ≡ None
emptied_now c =
    let r = c.retire_pages.ensures in
    let s = c.settle.ensures in
    emptied c.forget_touched.new.caches c.retire_pages.new.caches c.settle.new.caches c.forget_touched.ensures.whole c.args.cache c.args.pages (c.forget_touched.ensures.kept.sizes.sizes c.args.cache.0 ∙ c.requires.pages) r.rule.nodes r.consistent r.kept.sizes r.few s.rule.nodes s.kept.sound s.kept.sizes

-- the pages are gone, and the store followed
released : (c : goal.After-settle) → Releases [] c.args.store.now c.args.caches.now c.settle.new.store c.settle.new.caches
released c =
    let names = page_names c.args.cache 0 c.args.pages in
    let s = c.args.store.now in
    let a = c.args.caches.now in
    let t = c.forget_touched.new.store in
    let b = c.forget_touched.new.caches in
    let u = c.settle.new.store in
    let d = c.settle.new.caches in
    let f = c.forget_touched.ensures.kept in
    let rest = kept_both t b c.retire_pages.new.store c.retire_pages.new.caches u d f.tied c.retire_pages.ensures.kept c.settle.ensures.kept in
    kept_unlisted names s a u d (kept_then names [] names s a t b u d c.requires.ready.retire.tied (λ x i. i) (λ x i. absurd i) f rest)
    (homed_gone d c.settle.ensures.kept.sound.kept.listed c.args.cache 0 c.args.pages (emptied_now c))

pub returns-clause-kept : goal.returns-clause-kept
returns-clause-kept c =
    let r = released c in
    record { gives_back = r.gives_back; sound = r.sound; tied = r.tied; pinned = r.pinned; sizes = r.sizes; homes = r.homes }

pub returns-clause-empties : goal.returns-clause-empties
returns-clause-empties c =
    let a = c.args.caches.now in
    let b = c.forget_touched.new.caches in
    let d = c.settle.new.caches in
    let f = c.forget_touched.ensures in
    let r = c.retire_pages.ensures in
    let s = c.settle.ensures in
    let room = ap (λ (k : Arena). k.room.nodes) f.same.rest in
    let made = ap (λ (k : Arena). k.made) f.same.rest in
    let fewer : length (own_states d) ≤ length (own_states a) = omega (arith, f.count, s.fewer, r.fewer) in
    record {
      settles = record {
        settled = s.settled;
        bounded = s.bounded;
        made = omega (arith, made, s.counters.0, r.made);
        copies = sym (forest_of-copies d) ∙ ap (λ (g : Forest OwnState). g.copies) (returns-clause-rule c).nodes ∙ destroy_counts_saves false (page_names c.args.cache 0 c.args.pages) (forest_of a) ∙ forest_of-copies a;
      };
      consistent = s.consistent;
      empty = emptied_now c;
      whole = whole_emptied b c.retire_pages.new.caches d f.whole c.args.cache c.args.pages (f.kept.sizes.sizes c.args.cache.0 ∙ c.requires.pages) r.rule.nodes r.consistent r.kept.sizes r.few s.rule.nodes s.kept.sound s.kept.sizes;
      right = right_after [] c.args.store.now a c.settle.new.store d (released c) (λ n some i. absurd i) (λ enough. omega (arith, enough, fewer));
      room = omega (arith, room, s.room, r.room);
      fewer = fewer;
    }

pub returns-clause-translations : goal.returns-clause-translations
returns-clause-translations c =
    let a = c.args.caches.now in
    destroy_replaces a c.args.store.now c.settle.new.caches c.settle.new.store c.requires.ready.retire.whole.sound c.requires.ready.retire.whole.consistent (released c).tables
    (page_names c.args.cache 0 c.args.pages) (pages_once a c.requires.ready.retire.whole c.args.cache c.args.pages c.requires.pages) (returns-clause-rule c).nodes (returns-clause-rule c).frames
