use Rattle.std.proofs.Common.{◌+◌, ℕ, refl, sym, ap, ◌∙◌, arith, inl, inr}
use Rattle.std.proofs.lemmas.Bool.{cases_lt}
use Rattle.vm_ids.specs.Held.{segments_of}
use Rattle.local_cache.specs.Own.{is_resident}
use Rattle.residency.specs.Between.{world_at}
use Rattle.residency.specs.World.{World}
use Rattle.residency.proofs.Worlds.Composed.{still, still_then}
use Rattle.residency.proofs.Forests.StillForest.{still_like}
use Rattle.fault_path.proofs.Calls.Answered.{later_then}
use Rattle.fault_path.specs.Translating.{Nobody}
use Rattle.segment_ops.specs.Pushing.{TellsValues}
use Rattle.segment_ops.proofs.GivenUp.{loose_stays, traffic_then}
use Rattle.residency.proofs.Translations.Kept.{drops_trans, same_drops}
use Rattle.segment_ops.proofs.PushedPage.{others_clean}
use Rattle.segment_ops.proofs.StillRange.{now_named, now_shaped, now_sound, now_there}
use Rattle.segment_ops.proofs.SyncedPages.{same_node, synced_kept}
use Rattle.segment_ops.proofs.Unsaved.{range_fits}
use Rattle.residency.proofs.Pushes.PushedPages.{tells_none}
use Rattle.segment_ops.proofs.pushing.give_up_pages.Goals as goal

pub overflow_add-end : goal.overflow_add-end
overflow_add-end g c = omega (arith, range_fits c.args.caches.now c.requires.whole c.args.range c.requires.range)

pub loop-page-init : goal.loop-page-init
loop-page-init g c =
    let M = g.M.Mapper in
    let old : World = world_at M c.args.mapper.now c.args.caches.now c.args.store.now in
    record {
      first = omega arith;
      end = omega arith;
      still = still old c.requires.right;
      held = refl;
      pinned = refl;
      later = record { faults = omega arith; pulls = omega arith; pushes = omega arith };
      traffic = record { pulled = λ low. omega arith; pushed = λ low. omega arith };
      synced = c.requires.synced;
      loose = c.requires.loose;
      drops = same_drops Nobody c.args.caches.now c.args.store.now c.requires.right.tied.placed;
      out = λ page n is at. absurd (omega (arith, is.0, is.1));
    }

pub give_up_next-page-requires-clause-sound : goal.give_up_next-page-requires-clause-sound
give_up_next-page-requires-clause-sound g c = now_sound c.loop-page.invariant.still c.requires.whole

pub give_up_next-page-requires-clause-node : goal.give_up_next-page-requires-clause-node
give_up_next-page-requires-clause-node g c = now_there c.loop-page.invariant.still c.requires.whole c.args.range c.requires.range c.loop-page.page c.loop-page-test.true

pub give_up_next-page-requires-clause-named : goal.give_up_next-page-requires-clause-named
give_up_next-page-requires-clause-named g c = now_named c.loop-page.invariant.still c.requires.whole c.args.range c.requires.named

pub give_up_next-page-requires-clause-synced : goal.give_up_next-page-requires-clause-synced
give_up_next-page-requires-clause-synced g c = λ page n from below at.
    let i = c.loop-page.invariant in
    i.synced page n (omega (arith, i.first, from)) (omega (arith, below, c.loop-page-test.true)) at

pub give_up_next-page-requires-clause-loose : goal.give_up_next-page-requires-clause-loose
give_up_next-page-requires-clause-loose g c = λ page n f is at bound.
    let i = c.loop-page.invariant in
    i.loose page n f (omega (arith, i.first, is.0), omega (arith, is.1, c.loop-page-test.true)) at bound

pub loop-page-preserved : goal.loop-page-preserved
loop-page-preserved g c =
    let M = g.M.Mapper in
    let w : World = world_at M c.loop-page.mapper c.loop-page.caches c.loop-page.store in
    let v : World = world_at M c.give_up_next-page.new.mapper c.give_up_next-page.new.caches c.give_up_next-page.new.store in
    let i = c.loop-page.invariant in
    let e = c.give_up_next-page.ensures in
    let told : TellsValues w v (M.counts c.loop-page.mapper) (M.counts c.give_up_next-page.new.mapper) = tells_none w v (M.counts c.loop-page.mapper) (M.counts c.give_up_next-page.new.mapper) (ap segments_of e.held) e.later.pushes in
    let back = λ (page : ℕ). sym (same_node w.caches v.caches (still_like w.caches v.caches e.still.stays.caches) c.args.range.cache.0 page) in
    record {
      first = omega (arith, i.first);
      end = omega (arith, e.few, c.loop-page-test.true);
      still = still_then _ _ _ i.still e.still;
      held = e.held ∙ i.held;
      pinned = e.pinned ∙ i.pinned;
      later = later_then _ _ _ i.later e.later;
      traffic = traffic_then _ _ _ i.traffic e.traffic;
      synced = synced_kept c.args.range (c.args.range.first.0 + c.args.range.pages) w v i.still.stays.right e.still (now_sound i.still c.requires.whole) (now_shaped i.still c.requires.whole) (others_clean w v i.still.stays.right e.others) _ _ told (now_named i.still c.requires.whole c.args.range c.requires.named) i.synced;
      loose = loose_stays c.args.range w v e.still e.others e.pinned i.loose;
      drops = drops_trans Nobody Nobody Nobody c.args.caches.now c.loop-page.caches c.give_up_next-page.new.caches c.args.store.now c.loop-page.store c.give_up_next-page.new.store (λ n none. none) (λ n none. none) i.drops e.drops;
      out = λ page n is at. elim (cases_lt page c.loop-page.page) [
        | inl low ↦ (
            let was = i.out page n (is.0, omega (arith, low, i.first)) (back page ∙ at) in
            ap is_resident ((e.others.states n).away was) ∙ was)
        | inr high ↦ e.out page n (high, omega (arith, is.1, i.first)) at
      ];
    }

pub overflow_add-page : goal.overflow_add-page
overflow_add-page g c = omega (arith, range_fits c.args.caches.now c.requires.whole c.args.range c.requires.range, c.give_up_next-page.ensures.few, c.loop-page-test.true)

pub returns-clause-out : goal.returns-clause-out
returns-clause-out g c page n is at =
    let i = c.loop-page.invariant in
    i.out page n (is.0, omega (arith, is.1, i.first, c.loop-page-test.false)) at
