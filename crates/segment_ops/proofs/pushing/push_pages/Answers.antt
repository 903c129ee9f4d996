use Rattle.std.proofs.Common.{rules, ◌≤◌, ◌+◌, ◌-◌, Bool, List, length, ◌<◌, refl, sym, ◌∙◌, subst, arith}
use Rattle.std.specs.List.{count_by}
use Rattle.residency.specs.Between.{world_at}
use Rattle.residency.specs.World.{World}
use Rattle.residency.proofs.Forests.StillForest.{still_like}
use Rattle.residency.proofs.Worlds.Composed.{still, still_then}
use Rattle.fault_path.proofs.Calls.Answered.{later_then}
use Rattle.segment_ops.specs.Translating.{IsReadBy}
use Rattle.residency.proofs.Translations.Kept.{drops_trans, same_drops}
use Rattle.segment_ops.proofs.PushedPage.{failed_then, still_reads}
use Rattle.segment_ops.proofs.StillRange.{now_named, now_shaped, now_sound, now_there, read_first}
use Rattle.segment_ops.proofs.SyncedPages.{costs_most, costs_then, no_traffic, synced_kept, synced_on, unclean_stays}
use Rattle.segment_ops.proofs.Unsaved.{range_fits}
use Rattle.residency.proofs.Pushes.PushedPages.{tells_none}
use Rattle.segment_ops.proofs.Values.{values_then}
use Rattle.segment_ops.proofs.pushing.push_pages.Goals as goal

pub overflow_add-end : goal.overflow_add-end
overflow_add-end g c = omega (arith, range_fits c.args.caches.now c.requires.whole c.args.range c.requires.range)

pub loop-page-init : goal.loop-page-init
loop-page-init g c =
    let M = g.M.Mapper in
    let old : World = world_at M c.args.mapper.now c.args.caches.now c.args.store.now in
    record {
      first = omega arith;
      end = omega arith;
      still = still old c.requires.right;
      told = tells_none old old _ _ refl (omega arith);
      pinned = refl;
      later = record { faults = omega arith; pulls = omega arith; pushes = omega arith };
      clean = λ m is. is;
      synced = λ page n from below at. absurd (omega (arith, from, below));
      drops = same_drops (IsReadBy c.args.caches.now c.args.range) c.args.caches.now c.args.store.now c.requires.right.tied.placed;
      most = no_traffic c.args.caches.now c.args.range.cache.0 c.args.range.first.0 _;
    }

pub push_next-requires-clause-right : goal.push_next-requires-clause-right
push_next-requires-clause-right g c =
    let i = c.loop-page.invariant in
    record { store = i.still.stays.right; sound = now_sound i.still c.requires.whole; shaped = now_shaped i.still c.requires.whole }

pub push_next-requires-clause-node : goal.push_next-requires-clause-node
push_next-requires-clause-node g c = now_there c.loop-page.invariant.still c.requires.whole c.args.range c.requires.range c.loop-page.page c.loop-page-test.true

pub push_next-requires-clause-named : goal.push_next-requires-clause-named
push_next-requires-clause-named g c = now_named c.loop-page.invariant.still c.requires.whole c.args.range c.requires.named

pub push_next-requires-clause-unpinned : goal.push_next-requires-clause-unpinned
push_next-requires-clause-unpinned g c = let i = c.loop-page.invariant in subst (λ (ps : List Bool). count_by (λ p. p) ps < length ps) (sym i.pinned) c.requires.unpinned

pub loop-page-preserved : goal.loop-page-preserved
loop-page-preserved g c =
    let i = c.loop-page.invariant in
    let e = c.push_next.ensures in
    let k = c.in-Ok.pages in
    let below = c.loop-page-test.true in
    let left = c.args.range.first.0 + c.args.range.pages - c.loop-page.page in
    let few : k ≤ left = c.in-Ok.ensures.few in
    let like = still_like c.args.caches.now c.loop-page.caches i.still.stays.caches in
    record {
      first = omega (arith, i.first);
      end = omega (arith, few, below);
      still = still_then _ _ _ i.still e.still;
      told = values_then _ _ (still_reads _ _ i.still) _ _ _ _ e.later i.told e.told;
      pinned = e.pinned ∙ i.pinned;
      later = later_then _ _ _ i.later e.later;
      clean = λ m is. e.clean m (i.clean m is);
      synced = synced_on c.args.range c.loop-page.page left (c.loop-page.page + k) _
          (synced_kept c.args.range c.loop-page.page _ _ i.still.stays.right e.still (now_sound i.still c.requires.whole) (now_shaped i.still c.requires.whole) e.clean _ _ e.told (now_named i.still c.requires.whole c.args.range c.requires.named) i.synced)
          c.in-Ok.ensures.synced;
      drops = drops_trans (IsReadBy c.args.caches.now c.args.range) (IsReadBy c.loop-page.caches (record c.args.range { first = record { 0 = c.loop-page.page }; pages = left })) (IsReadBy c.args.caches.now c.args.range) c.args.caches.now c.loop-page.caches c.push_next.new.caches c.args.store.now c.loop-page.store c.push_next.new.store
          (λ n came. came) (read_first i.still c.requires.whole c.args.range c.loop-page.page left i.first (omega (arith, below))) i.drops e.drops;
      most = costs_then c.args.caches.now c.args.range c.loop-page.page k _ _ _ _ i.first c.in-Ok.ensures.some (unclean_stays c.args.caches.now c.loop-page.caches like i.clean c.args.range.cache.0 c.loop-page.page) i.most e.most e.later;
    }

pub overflow_add-page : goal.overflow_add-page
overflow_add-page g c = omega (arith, range_fits c.args.caches.now c.requires.whole c.args.range c.requires.range, c.in-Ok.ensures.few, c.loop-page-test.true)

pub returns-in_default : goal.returns-in_default
returns-in_default g c =
    let i = c.loop-page.invariant in
    let e = c.push_next.ensures in
    let like = still_like c.args.caches.now c.loop-page.caches i.still.stays.caches in
    let left = c.args.range.first.0 + c.args.range.pages - c.loop-page.page in
    record {
      still = still_then _ _ _ c.loop-page.invariant.still c.push_next.ensures.still;
      told = values_then _ _ (still_reads _ _ i.still) _ _ _ _ e.later i.told e.told;
      pinned = search rules;
      later = search rules;
      synced = search rules;
      failed = ((i.first, c.loop-page-test.true), synced_kept c.args.range c.loop-page.page _ _ i.still.stays.right e.still (now_sound i.still c.requires.whole) (now_shaped i.still c.requires.whole) e.clean _ _ e.told (now_named i.still c.requires.whole c.args.range c.requires.named) i.synced);
      most = (costs_most c.args.caches.now c.args.range (c.loop-page.page + 1 - c.args.range.first.0) _ _ (omega (arith, c.loop-page-test.true, i.first))
          (costs_then c.args.caches.now c.args.range c.loop-page.page 1 _ _ _ _ i.first (omega arith) (unclean_stays c.args.caches.now c.loop-page.caches like i.clean c.args.range.cache.0 c.loop-page.page) i.most e.most e.later));
      cause = failed_then _ _ _ c.loop-page.invariant.later c.in_default.ensures.cause;
      drops = (drops_trans (IsReadBy c.args.caches.now c.args.range) (IsReadBy c.loop-page.caches (record c.args.range { first = record { 0 = c.loop-page.page }; pages = left })) (IsReadBy c.args.caches.now c.args.range) c.args.caches.now c.loop-page.caches c.push_next.new.caches c.args.store.now c.loop-page.store c.push_next.new.store
          (λ n came. came) (read_first i.still c.requires.whole c.args.range c.loop-page.page left i.first (omega (arith, c.loop-page-test.true))) i.drops c.push_next.ensures.drops);
    }

pub returns-clause-synced : goal.returns-clause-synced
returns-clause-synced g c =
    let i = c.loop-page.invariant in
    λ page n from below at. i.synced page n from (omega (arith, below, c.loop-page-test.false)) at

pub returns-clause-most : goal.returns-clause-most
returns-clause-most g c =
    let i = c.loop-page.invariant in
    costs_most c.args.caches.now c.args.range (c.loop-page.page - c.args.range.first.0) _ _ (omega (arith, i.end)) i.most
