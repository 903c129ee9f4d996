use Rattle.std.proofs.Common.{sym, arith}
use Rattle.pvm_core.proofs.Holding.Loose.{any_at, any_none, none_locked}
use Rattle.pvm_core.proofs.locks.is_any_locked.Goals as goal

pub returns-then-locked-eq0 : goal.returns-then-locked-eq0
returns-then-locked-eq0 c = sym (any_none c.args.caches.now c.args.range (λ page low less. none_locked c.args.caches.now (omega (arith, c.locked.ensures, c.if-locked-eq0.true)) c.args.range.cache.0 page))

pub returns-then-locks-gt0 : goal.returns-then-locks-gt0
returns-then-locks-gt0 c =
    sym (any_at c.args.caches.now c.args.range c.loop-page.page c.loop-page.auto.page c.loop-page-test.true (omega (arith, c.locks.ensures.count, c.if-locks-gt0.true)))

pub returns : goal.returns
returns c = sym (any_none c.args.caches.now c.args.range (λ page low less. c.loop-page.invariant page low (omega (arith, less, c.loop-page-test.false))))
