use Rattle.std.proofs.Common.{◌-◌, ◌≤◌, ℕ, not, arith}
use Rattle.vm_ids.specs.Counting.{MapperCounts}
use Rattle.residency.specs.Between.{world_at}
use Rattle.local_cache.specs.Arena.{is_locked, locks_of}
use Rattle.residency.specs.StoreForest.{store_forest}
use Rattle.residency.specs.World.{World}
use Rattle.segment_ops.proofs.Unsaved.{range_fits}
use Rattle.pvm_core.proofs.Locking.Alike.{alike_then}
use Rattle.pvm_core.proofs.Locking.Extents.{extent, more_upto}
use Rattle.pvm_core.proofs.Locking.Totals.{locked_more, range_fewer}
use Rattle.pvm_core.proofs.Locking.LockedPages.{lock_upto, owned_few}
use Rattle.pvm_core.proofs.page_locks.hold_pages.Goals as goal

pub overflow_add-number-end : goal.overflow_add-number-end
overflow_add-number-end g c = omega (arith, range_fits c.args.caches.now c.requires.whole c.args.range c.requires.range)

pub hold_page-requires-clause-loose : goal.hold_page-requires-clause-loose
hold_page-requires-clause-loose g c =
    let i = c.loop-number.invariant in
    let range = c.args.range in
    let n : ℕ = c.loop-number.number - range.first.0 in
    let most : n ≤ range.pages = omega (arith, c.loop-number-test.true) in
    let more = locked_more c.args.caches.now c.loop-number.caches (extent range.cache range.first.0 n) i.locks in
    let fewer = range_fewer (λ page. not (is_locked (locks_of c.args.caches.now range.cache.0 page))) range.first.0 n range.pages most in
    omega (arith, i.held.pins, more, fewer, c.requires.loose, i.alike.frames, i.alike.right.tied.fitted.pinned_frames)

pub hold_page-requires-clause-copies : goal.hold_page-requires-clause-copies
hold_page-requires-clause-copies g c =
    let M = g.M.Mapper in
    let i = c.loop-number.invariant in
    let range = c.args.range in
    let old : World = world_at M c.args.mapper.now c.args.caches.now c.args.store.now in
    let w : World = world_at M c.loop-number.mapper c.loop-number.caches c.loop-number.store in
    let few = owned_few old w range.cache range.first.0 (c.loop-number.number - range.first.0) i.owned in
    omega (arith, few, c.requires.copies, c.loop-number-test.true)

pub returns-in_default-clause-alike : goal.returns-in_default-clause-alike
returns-in_default-clause-alike g c =
    let M = g.M.Mapper in
    let i = c.loop-number.invariant in
    let h = c.hold_page.new in
    let old : World = world_at M c.args.mapper.now c.args.caches.now c.args.store.now in
    let w : World = world_at M c.loop-number.mapper c.loop-number.caches c.loop-number.store in
    let v : World = world_at M h.mapper h.caches h.store in
    let u : World = world_at M h.mapper c.let_go.new.caches c.let_go.new.store in
    let before : MapperCounts = M.counts c.args.mapper.now in
    let now : MapperCounts = M.counts c.loop-number.mapper in
    let after : MapperCounts = M.counts h.mapper in
    let first = alike_then old w v before now after i.alike c.in_default.ensures.alike in
    alike_then old v u before after after first (c.let_go.ensures.pages.alike (M.held h.mapper) (M.page_bytes h.mapper) after first.right)

pub loop-number-preserved : goal.loop-number-preserved
loop-number-preserved g c =
    let M = g.M.Mapper in
    let i = c.loop-number.invariant in
    let e = c.in-Ok.ensures in
    let h = c.hold_page.new in
    let range = c.args.range in
    let old : World = world_at M c.args.mapper.now c.args.caches.now c.args.store.now in
    let w : World = world_at M c.loop-number.mapper c.loop-number.caches c.loop-number.store in
    let v : World = world_at M h.mapper h.caches h.store in
    record {
      alike = alike_then old w v (M.counts c.args.mapper.now) (M.counts c.loop-number.mapper) (M.counts h.mapper) i.alike e.alike;
      held = e.held;
      locks = more_upto range.cache range.first.0 c.loop-number.number c.loop-number.auto.number c.args.caches.now c.loop-number.caches h.caches i.locks e.locks;
      owned = lock_upto range.cache range.first.0 c.loop-number.number c.loop-number.auto.number (store_forest old) (store_forest w) (store_forest v) i.owned e.forest;
      translated = λ u right. e.translated u (i.translated u right);
    }

pub returns-in_default-clause-translated : goal.returns-in_default-clause-translated
returns-in_default-clause-translated g c = λ u right. c.let_go.ensures.pages.translated u (c.in_default.ensures.translated u (c.loop-number.invariant.translated u right))
