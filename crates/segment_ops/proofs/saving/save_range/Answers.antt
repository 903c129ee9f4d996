use Rattle.std.proofs.Common.{rules, ◌≡◌, ℕ, ◌+◌, ◌<◌, ◌≤◌, Bool, List, length, true, Some, Ok, Err, refl, sym, ap, ◌∙◌, subst, arith}
use Rattle.std.specs.List.{count_by}
use Rattle.vm_ids.specs.Forest.Commands.{extent_names, page_name}
use Rattle.vm_ids.specs.Forest.NameMap.{len}
use Rattle.vm_ids.specs.Forest.Nodes.{is_live}
use Rattle.vm_ids.specs.Forest.Rules.{heir, heir_gets}
use Rattle.vm_ids.specs.Forest.Saving.{is_unsaved, saves}
use Rattle.local_cache.specs.Arena.{HasNode}
use Rattle.local_cache.specs.Reading.{forest_of, name_of}
use Rattle.local_cache.specs.Sound.{IsSound}
use Rattle.residency.specs.Between.{world_at}
use Rattle.residency.specs.StoreForest.{store_forest}
use Rattle.residency.specs.World.{World}
use Rattle.residency.proofs.Worlds.Composed.{still}
use Rattle.fault_path.proofs.Calls.Kept.{still_kept, store_heir, store_shaped}
use Rattle.fault_path.specs.Translating.{MayCome}
use Rattle.segment_ops.specs.Translating.{IsSavedOrAbsent}
use Rattle.segment_ops.proofs.Dropped.{absent_before, saved_or_absent}
use Rattle.residency.proofs.Translations.Kept.{drops_trans, same_drops}
use Rattle.fault_path.proofs.Frames.ComingFrames.{come_then, more_come, same_come}
use Rattle.segment_ops.specs.Saving.{IsOfSaves}
use Rattle.segment_ops.proofs.SyncedPages.{same_node}
use Rattle.segment_ops.proofs.Unsaved.{all_done, failed_here, copies_then, few_done, in_more_saves, measured, next_save_is, node_named, no_saves, nodes_by, not_idle, one_more, range_fits, range_node, still_in_range, saved_on, saved_then, unsaved_by, unsaved_owns}
use Rattle.residency.proofs.Pushes.PushedPages.{tells_none}
use Rattle.segment_ops.proofs.Wholly.{saves_read, stays_then}
use Rattle.segment_ops.proofs.saving.save_range.Given.{Over}
use Rattle.segment_ops.proofs.saving.save_range.Goals.{After-node_of-node, In-Some}
use Rattle.segment_ops.proofs.saving.save_range.Goals as goal

pub overflow_add-end : goal.overflow_add-end
overflow_add-end g c = omega (arith, range_fits c.args.caches.now c.requires.whole c.args.range c.requires.range)

pub loop-page-init : goal.loop-page-init
loop-page-init g c =
    let M = g.M.Mapper in
    let old : World = world_at M c.args.mapper.now c.args.caches.now c.args.store.now in
    record {
      stays = record {
        kept = still_kept old old (still old c.requires.right) c.requires.whole.sound c.requires.whole.consistent.shaped refl;
        whole = c.requires.whole;
        later = record { faults = omega arith; pulls = omega arith; pushes = omega arith };
        told = tells_none old old _ _ refl (omega arith);
      };
      forest = (let none : saves 0 (extent_names c.args.range) (store_forest old) ≡ store_forest old = no_saves (extent_names c.args.range) (store_forest old) in sym none);
      saved = λ p from below. absurd (omega (arith, from, below));
      absent = λ n e. e;
      frames = same_come (IsOfSaves {T = ℕ} (Err 0) (extent_names c.args.range) old) old;
      drops = same_drops (IsSavedOrAbsent c.args.caches.now c.args.range) c.args.caches.now c.args.store.now c.requires.right.tied.placed;
      first = omega arith;
      end = omega arith;
      done = omega arith;
      copies = omega arith;
      idle = λ none. (refl, refl, refl, refl);
    }

pub node_of-node-requires : goal.node_of-node-requires
node_of-node-requires g c =
    let i = c.loop-page.invariant in
    let kept = i.stays.kept in
    range_node c.loop-page.caches i.stays.whole c.args.range (still_in_range c.args.caches.now c.loop-page.caches kept.nodes c.args.range c.requires.range) c.loop-page.page c.loop-page-test.true

-- the node of the page has its name
named : (g : Over) (c : After-node_of-node g) → HasNode c.loop-page.caches c.node_of-node.result × (name_of c.loop-page.caches c.node_of-node.result ≡ page_name c.args.range.cache c.loop-page.page)
named g c = node_named c.loop-page.caches c.loop-page.invariant.stays.whole.sound c.args.range.cache c.loop-page.page c.node_of-node.result c.node_of-node.ensures

-- the page isn't saved yet
unsaved : (g : Over) (c : In-Some g) → is_unsaved (store_forest (world_at g.M.Mapper c.loop-page.mapper c.loop-page.caches c.loop-page.store)) (page_name c.args.range.cache c.loop-page.page) ≡ true
unsaved g c =
    let w : World = world_at g.M.Mapper c.loop-page.mapper c.loop-page.caches c.loop-page.store in
    unsaved_by w c.loop-page.invariant.stays.whole.sound _ ∙ ap (is_unsaved (forest_of w.caches)) (sym (named g (goal.at.In-Some g c).After-node_of-node).1) ∙ sym c.in-Some.ensures.unsaved

-- so fewer pages were saved than there are nodes
fewer : (g : Over) (c : In-Some g) → c.loop-page.done < len (forest_of c.args.caches.now).nodes
fewer g c =
    let M = g.M.Mapper in
    let old : World = world_at M c.args.mapper.now c.args.caches.now c.args.store.now in
    let w : World = world_at M c.loop-page.mapper c.loop-page.caches c.loop-page.store in
    let i = c.loop-page.invariant in
    let low = few_done old w c.args.range c.loop-page.done c.loop-page.page i.forest i.first i.saved (store_shaped old c.requires.whole.sound c.requires.whole.consistent.shaped) c.loop-page-test.true (unsaved g c) in
    omega (arith, low, nodes_by old c.requires.whole.sound)

pub reader-requires-clause-node : goal.reader-requires-clause-node
reader-requires-clause-node g c = (named g (goal.at.reader-requires-clause-node g c).After-node_of-node).0

pub reader-requires-clause-live : goal.reader-requires-clause-live
reader-requires-clause-live g c = ap is_live (named g (goal.at.reader-requires-clause-live g c).After-node_of-node).1

pub save-requires-clause-right : goal.save-requires-clause-right
save-requires-clause-right g c =
    let i = c.loop-page.invariant in
    record { store = i.stays.kept.right; sound = i.stays.whole.sound; shaped = i.stays.whole.consistent.shaped }

pub save-requires-clause-own : goal.save-requires-clause-own
save-requires-clause-own g c = unsaved_owns c.loop-page.caches c.loop-page.invariant.stays.whole.sound c.node_of-node.result (named g (goal.at.save-requires-clause-own g c).After-node_of-node).0 c.in-Some.ensures.unsaved

pub save-requires-clause-live : goal.save-requires-clause-live
save-requires-clause-live g c = ap is_live (named g (goal.at.save-requires-clause-live g c).After-node_of-node).1

pub save-requires-clause-loose : goal.save-requires-clause-loose
save-requires-clause-loose g c = let i = c.loop-page.invariant in subst (λ (ps : List Bool). count_by (λ p. p) ps + 2 ≤ length ps) (sym i.stays.kept.pins) c.requires.loose

pub save-requires-clause-copies : goal.save-requires-clause-copies
save-requires-clause-copies g c = let i = c.loop-page.invariant in omega (arith, i.copies, i.done, c.requires.copies)

pub overflow_add-done : goal.overflow_add-done
overflow_add-done g c = omega (arith, fewer g (goal.at.overflow_add-done g c).In-Some, c.requires.whole.few)

pub loop-page-smaller-in-Some : goal.loop-page-smaller-in-Some
loop-page-smaller-in-Some g c =
    measured (len (forest_of c.args.caches.now).nodes) c.loop-page.done (c.args.range.first.0 + c.args.range.pages) c.loop-page.page c.next_page-page.result (fewer g (goal.at.loop-page-smaller-in-Some g c).In-Some) (range_fits c.args.caches.now c.requires.whole c.args.range c.requires.range)

pub loop-page-preserved-in-Some : goal.loop-page-preserved-in-Some
loop-page-preserved-in-Some g c =
    let M = g.M.Mapper in
    let old : World = world_at M c.args.mapper.now c.args.caches.now c.args.store.now in
    let w : World = world_at M c.loop-page.mapper c.loop-page.caches c.loop-page.store in
    let i = c.loop-page.invariant in
    let at = named g (goal.at.loop-page-preserved-in-Some g c).After-node_of-node in
    let is = unsaved g (goal.at.loop-page-preserved-in-Some g c).In-Some in
    let few = fewer g (goal.at.loop-page-preserved-in-Some g c).In-Some in
    let v : World = world_at M c.save.new.mapper c.save.new.caches c.save.new.store in
    let e = c.in-Ok.ensures in
    let k = e.answered.kept in
    let next = c.next_page-page.ensures in
    let h = name_of c.loop-page.caches c.in-Some.heir in
    let is_heir : heir (store_forest w) (page_name c.args.range.cache c.loop-page.page) ≡ Some h = store_heir w i.stays.whole.sound _ ∙ ap (heir (forest_of w.caches)) (sym at.1) ∙ c.in-Some.ensures.heir in
    let after : store_forest v ≡ heir_gets (store_forest w) (page_name c.args.range.cache c.loop-page.page) = e.forest ∙ ap (heir_gets (store_forest w)) at.1 in
    let more = one_more old w c.args.range c.loop-page.done c.loop-page.page i.forest i.first i.saved v h c.loop-page-test.true is is_heir after in
    let sound : IsSound v.caches = k.sound in
    record {
      stays = stays_then old w v _ _ _ i.stays e.answered (saves_read old w c.loop-page.done (extent_names c.args.range) i.forest i.stays.kept.nodes (store_shaped old c.requires.whole.sound c.requires.whole.consistent.shaped));
      forest = more;
      saved = saved_then old w c.args.range c.loop-page.done c.loop-page.page i.forest i.first i.saved v h c.loop-page-test.true is is_heir after (store_shaped w i.stays.whole.sound i.stays.whole.consistent.shaped) c.next_page-page.result next.past
          (λ p from below other q. next.apart p from below other (k.nodes.name c.in-Some.heir ∙ q));
      absent = λ n bare. i.absent n (absent_before w v i.stays.whole.sound k.sound (store_shaped w i.stays.whole.sound i.stays.whole.consistent.shaped) k.nodes (page_name c.args.range.cache c.loop-page.page) h is is_heir after n bare);
      frames = (
          let more = IsOfSaves {T = ℕ} (Err (c.loop-page.done + 1)) (extent_names c.args.range) old in
          come_then more old w v i.stays.kept.nodes
          (more_come _ more old w (λ m k. in_more_saves (Err (c.loop-page.done + 1)) c.loop-page.done (extent_names c.args.range) old m (omega arith) k) i.frames)
          (more_come _ more w v (λ m k. in_more_saves (Err (c.loop-page.done + 1)) c.loop-page.done (extent_names c.args.range) old m (omega arith)
          (next_save_is old w c.args.range c.loop-page.done c.loop-page.page i.forest i.first i.saved c.node_of-node.result m i.stays.whole.sound i.stays.kept.nodes c.loop-page-test.true is at.1 k)) e.frames));
      drops = drops_trans (IsSavedOrAbsent c.args.caches.now c.args.range) (MayCome c.loop-page.caches c.node_of-node.result) (IsSavedOrAbsent c.args.caches.now c.args.range) c.args.caches.now c.loop-page.caches c.save.new.caches c.args.store.now c.loop-page.store c.save.new.store
          (λ n came. came) (saved_or_absent c.args.caches.now c.loop-page.caches c.args.range c.node_of-node.result (c.loop-page.page, (i.first, c.loop-page-test.true), sym (same_node c.args.caches.now c.loop-page.caches i.stays.kept.nodes c.args.range.cache.0 c.loop-page.page) ∙ c.node_of-node.ensures) i.absent) i.drops e.drops;
      first = next.first;
      end = omega (arith, next.past, c.loop-page-test.true);
      done = omega (arith, few);
      idle = λ none. absurd (not_idle c.args.caches.now c.loop-page.caches c.args.range c.loop-page.page i.first c.loop-page-test.true none (i.idle none).1 (sym (ap (is_unsaved (forest_of w.caches)) at.1) ∙ sym c.in-Some.ensures.unsaved));
      copies = copies_then old w v c.loop-page.done i.copies _ h e.forest (store_heir w i.stays.whole.sound (name_of w.caches c.node_of-node.result) ∙ c.in-Some.ensures.heir);
    }

pub saved_pages-page-requires-clause-saved : goal.saved_pages-page-requires-clause-saved
saved_pages-page-requires-clause-saved g c =
    let at = named g (goal.at.saved_pages-page-requires-clause-saved g c).After-node_of-node in
    ap (is_unsaved (forest_of c.loop-page.caches)) (sym at.1) ∙ sym c.in-None.ensures.unsaved

pub loop-page-preserved : goal.loop-page-preserved
loop-page-preserved g c =
    let M = g.M.Mapper in
    let old : World = world_at M c.args.mapper.now c.args.caches.now c.args.store.now in
    let w : World = world_at M c.loop-page.mapper c.loop-page.caches c.loop-page.store in
    let i = c.loop-page.invariant in
    let e = c.saved_pages-page.ensures in
    record {
      stays = i.stays;
      forest = i.forest;
      saved = saved_on old w c.args.range c.loop-page.done c.loop-page.page i.forest i.first i.saved (c.loop-page.page + c.saved_pages-page.result) (λ p from below. unsaved_by w i.stays.whole.sound _ ∙ e.saved p from below);
      absent = i.absent;
      drops = i.drops;
      frames = i.frames;
      first = omega (arith, i.first);
      end = omega (arith, e.few, c.loop-page-test.true);
      done = i.done;
      copies = i.copies;
      idle = i.idle;
    }

pub next_page-page-requires-clause-end : goal.next_page-page-requires-clause-end
next_page-page-requires-clause-end g c = range_fits c.args.caches.now c.requires.whole c.args.range c.requires.range

pub overflow_add-page : goal.overflow_add-page
overflow_add-page g c = omega (arith, range_fits c.args.caches.now c.requires.whole c.args.range c.requires.range, c.saved_pages-page.ensures.few, c.loop-page-test.true)

pub returns-in_default : goal.returns-in_default
returns-in_default g c =
    let M = g.M.Mapper in
    let old : World = world_at M c.args.mapper.now c.args.caches.now c.args.store.now in
    let w : World = world_at M c.loop-page.mapper c.loop-page.caches c.loop-page.store in
    let v : World = world_at M c.save.new.mapper c.save.new.caches c.save.new.store in
    let i = c.loop-page.invariant in
    let is = unsaved g (goal.at.returns-in_default g c).In-Some in
    let at = named g (goal.at.returns-in_default g c).After-node_of-node in
    record {
      stays = stays_then old w v _ _ _ i.stays c.in_default.ensures.answered (saves_read old w c.loop-page.done (extent_names c.args.range) i.forest i.stays.kept.nodes (store_shaped old c.requires.whole.sound c.requires.whole.consistent.shaped));
      saved = search rules;
      failed = failed_here old w c.args.range c.loop-page.done c.loop-page.page i.forest i.first i.saved v c.loop-page-test.true is c.in_default.ensures.missed.forest;
      cause = search rules;
      copies = search rules;
      copied = search rules;
      idle = (λ none.
          let i = c.loop-page.invariant in
          let at = named g (goal.at.returns-in_default g c).After-node_of-node in
          absurd (not_idle c.args.caches.now c.loop-page.caches c.args.range c.loop-page.page i.first c.loop-page-test.true none (i.idle none).1 (sym (ap (is_unsaved (forest_of c.loop-page.caches)) at.1) ∙ sym c.in-Some.ensures.unsaved)));
      drops = (drops_trans (IsSavedOrAbsent c.args.caches.now c.args.range) (MayCome c.loop-page.caches c.node_of-node.result) (IsSavedOrAbsent c.args.caches.now c.args.range) c.args.caches.now c.loop-page.caches c.save.new.caches c.args.store.now c.loop-page.store c.save.new.store
          (λ n came. came) (saved_or_absent c.args.caches.now c.loop-page.caches c.args.range c.node_of-node.result (c.loop-page.page, (i.first, c.loop-page-test.true), sym (same_node c.args.caches.now c.loop-page.caches i.stays.kept.nodes c.args.range.cache.0 c.loop-page.page) ∙ c.node_of-node.ensures) i.absent) i.drops c.save.ensures.drops);
      frames = (let is = unsaved g (goal.at.returns-in_default g c).In-Some in
          come_then _ old w v i.stays.kept.nodes (more_come _ _ old w (λ m k. in_more_saves (Err c.loop-page.done) c.loop-page.done (extent_names c.args.range) old m (omega arith) k) i.frames)
          (more_come _ _ w v (λ m k. in_more_saves (Err c.loop-page.done) c.loop-page.done (extent_names c.args.range) old m (omega arith)
          (next_save_is old w c.args.range c.loop-page.done c.loop-page.page i.forest i.first i.saved c.node_of-node.result m i.stays.whole.sound i.stays.kept.nodes c.loop-page-test.true is at.1 k)) c.save.ensures.frames));
    }

pub returns : goal.returns
returns g c =
    let M = g.M.Mapper in
    let old : World = world_at M c.args.mapper.now c.args.caches.now c.args.store.now in
    let w : World = world_at M c.loop-page.mapper c.loop-page.caches c.loop-page.store in
    let i = c.loop-page.invariant in
    record {
      stays = search rules;
      saved = all_done old w c.args.range c.loop-page.done c.loop-page.page i.forest i.first i.saved (store_shaped old c.requires.whole.sound c.requires.whole.consistent.shaped) (omega (arith, c.loop-page-test.false));
      failed = search rules;
      cause = search rules;
      copies = search rules;
      copied = search rules;
      idle = search rules;
      drops = search rules;
      frames = more_come _ _ old _ (λ m k. in_more_saves (Ok _) c.loop-page.done (extent_names c.args.range) old m tt k) i.frames;
    }
