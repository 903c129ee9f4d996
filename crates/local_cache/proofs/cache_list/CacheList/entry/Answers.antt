use Rattle.std.proofs.Common.{List, Option, option_map, ap, sym, ◌∙◌}
use Rattle.local_cache.specs.declared.cache_list.CacheEntry.{CacheEntry}
use Rattle.local_cache.specs.ArenaBy.{CacheRows}
use Rattle.local_cache.specs.CacheList.{entry_at}
use Rattle.local_cache.specs.RowChanges.{entry_of_row, row_at}
use Rattle.local_cache.proofs.CacheList.Reading.{told_entry}
use Rattle.local_cache.proofs.cache_list.CacheList.entry.Goals as goal

pub returns : goal.returns
returns c =
    let i = c.self.inside in
    c.entry_of.ensures
    ∙ ap (λ (es : List (Option CacheEntry)). entry_at es c.args.cache.0) c.deref.ensures.value
    ∙ sym (told_entry i.entries.items i.grants i.locks c.args.cache.0)
    ∙ ap (λ (r : CacheRows). option_map entry_of_row (row_at r.rows c.args.cache.0)) c.self.view_is
