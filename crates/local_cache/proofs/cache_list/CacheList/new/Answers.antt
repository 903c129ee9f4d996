use Rattle.local_cache.proofs.CacheList.Reading.{empty_list}
use Rattle.local_cache.proofs.cache_list.CacheList.new.Goals as goal

pub invariant_of-result : goal.invariant_of-result
invariant_of-result c =
    empty_list c.new.result.items c.new-2.result c.new-3.result c.new.ensures.items c.new-2.ensures c.new-3.ensures
