use Rattle.seg_manager.proofs.Calling.EmptyStart.{begins, can_begin}
use Rattle.seg_manager.proofs.manager.SegManager.new.Goals as goal

pub returns-clause-can : goal.returns-clause-can
returns-clause-can g c = λ told page_bytes bare.
    can_begin g.G.Gmi (record { gmi = c.args.gmi; limit = c.args.limit; caches = c.new-caches.result; kept = c.new-kept.result; regions = c.new-regions.result }) c.new-caches.ensures c.new-kept.ensures c.new-regions.ensures.items told page_bytes bare

pub returns-clause-begins : goal.returns-clause-begins
returns-clause-begins g c = λ told page_bytes bare.
    begins g.G.Gmi (record { gmi = c.args.gmi; limit = c.args.limit; caches = c.new-caches.result; kept = c.new-kept.result; regions = c.new-regions.result }) c.new-caches.ensures c.new-kept.ensures c.new-regions.ensures.items told page_bytes bare
