use Rattle.std.proofs.Common.{◌∙◌, arith}
use Rattle.vm_ids.specs.Counting.{no_counts}
use Rattle.segment_ops.proofs.Unsaved.{range_fits}
use Rattle.pvm_core.proofs.Locking.Extents.{less_upto}
use Rattle.pvm_core.proofs.Locking.LockedPages.{keeps_then}
use Rattle.pvm_core.proofs.page_locks.let_go.Goals as goal

pub overflow_add-page-end : goal.overflow_add-page-end
overflow_add-page-end c = omega (arith, range_fits c.args.caches.now c.requires.whole c.args.range c.requires.range)

pub unpin_page-requires-clause-right : goal.unpin_page-requires-clause-right
unpin_page-requires-clause-right c =
    let r = c.requires.right in
    (r.0, r.1, (c.loop-page.invariant.pages.alike r.0 r.1 no_counts r.2).right)

pub unpin_page-requires-clause-whole : goal.unpin_page-requires-clause-whole
unpin_page-requires-clause-whole c = let r = c.requires.right in (c.loop-page.invariant.pages.alike r.0 r.1 no_counts r.2).whole

pub unpin_page-requires-clause-page : goal.unpin_page-requires-clause-page
unpin_page-requires-clause-page c =
    let r = c.requires.right in
    let k = c.requires.range in
    (k.pages, (c.loop-page.invariant.pages.alike r.0 r.1 no_counts r.2).same.sizes c.args.range.cache.0 ∙ k.size, omega (arith, k.within, c.loop-page-test.true))

pub loop-page-preserved : goal.loop-page-preserved
loop-page-preserved c =
    let i = c.loop-page.invariant in
    let e = c.unpin_page.ensures in
    record {
      pages = keeps_then c.args.caches.now c.loop-page.caches c.unpin_page.new.caches c.args.store.now c.loop-page.store c.unpin_page.new.store i.pages e.pages;
      held = e.held;
      locks = less_upto c.args.range.cache c.args.range.first.0 c.loop-page.page c.loop-page.auto.page c.args.caches.now c.loop-page.caches c.unpin_page.new.caches i.locks e.locks;
    }
