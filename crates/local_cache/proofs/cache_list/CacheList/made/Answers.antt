use Rattle.std.proofs.Common.{length, ap, arith}
use Rattle.local_cache.specs.ArenaBy.{CacheRows}
use Rattle.local_cache.proofs.CacheList.Reading.{made_is}
use Rattle.local_cache.proofs.cache_list.CacheList.made.Goals as goal

pub returns : goal.returns
returns c =
    let i = c.self.inside in
    omega (arith, c.len.ensures, i.entries.ok.0, made_is i.entries.items i.grants i.locks, ap (λ (r : CacheRows). length r.rows) c.self.view_is)
