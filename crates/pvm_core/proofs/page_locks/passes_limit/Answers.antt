use Rattle.std.proofs.Common.{◌≡◌, ◌+◌, ◌-◌, ◌<◌, length, not, sym, ap, arith}
use Rattle.std.proofs.lemmas.Bool.{lt-ltb}
use Rattle.vm_ids.proofs.Places.{bit}
use Rattle.frame_pool.specs.Pool.{Frames}
use Rattle.vm_model.specs.declared.limits.TheConstants.{UNLOCKED_FRAMES}
use Rattle.local_cache.specs.Arena.{is_locked, locked_count, locks_of}
use Rattle.pvm_core.specs.Holding.{unlocked_in}
use Rattle.pvm_core.proofs.Locking.Totals.{locked_above, range_fewer, unlocked_upto}
use Rattle.pvm_core.proofs.page_locks.passes_limit.Goals as goal
use Rattle.pvm_core.proofs.page_locks.passes_limit.Goals.{then-locks-eq0, else-locks-eq0}

pub returns-then-locked-most : goal.returns-then-locked-most
returns-then-locked-most c =
    let a = c.args.caches.now in
    let r = c.args.range in
    let fewer = range_fewer (λ q. not (is_locked (locks_of a r.cache.0 q))) r.first.0 (c.loop-page.page - r.first.0) r.pages (omega (arith, c.loop-page-test.true, c.loop-page.auto.page)) in
    sym (lt-ltb (length c.args.store.now.frames.held - UNLOCKED_FRAMES) (locked_count a + unlocked_in a r) (omega (arith, c.if-locked-most.true, c.saturating_sub-most.ensures, c.count.ensures, ap (λ (f : Frames). length f.held) c.frames.ensures, c.loop-page.invariant, fewer)))

pub overflow_add-locked : goal.overflow_add-locked
overflow_add-locked c = omega (arith, c.if-locked-most.false, c.saturating_sub-most.ensures, c.count.type_inv)

pub loop-page-preserved : goal.loop-page-preserved
loop-page-preserved c =
    let next = unlocked_upto c.args.caches.now c.args.range.cache c.args.range.first.0 c.loop-page.page c.loop-page.auto.page in
    let count = c.locks.ensures.count in
    elim c.if-locks-eq0.branch [
      | then-locks-eq0 w ↦ (
          let none : locks_of c.args.caches.now c.args.range.cache.0 c.loop-page.page ≡ 0 = omega (arith, count, w.if-locks-eq0.true) in
          omega (arith, next, c.loop-page.invariant, w.locked-is, ap (λ k. bit (not (is_locked k))) none))
      | else-locks-eq0 w ↦ (
          let some : 0 < locks_of c.args.caches.now c.args.range.cache.0 c.loop-page.page = omega (arith, count, w.if-locks-eq0.false) in
          omega (arith, next, c.loop-page.invariant, w.locked-is, ap (λ t. bit (not t)) (locked_above (locks_of c.args.caches.now c.args.range.cache.0 c.loop-page.page) some)))
    ]
