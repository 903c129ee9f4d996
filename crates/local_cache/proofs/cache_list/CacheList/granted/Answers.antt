use Rattle.std.proofs.Common.{is_some, ap, sym, subst, ◌∙◌}
use Rattle.stretches.proofs.Cells.{get_cells}
use Rattle.stretches.specs.Stretches.{said}
use Rattle.local_cache.specs.ArenaBy.{CacheRows}
use Rattle.local_cache.specs.PageMarks.{granted_says}
use Rattle.local_cache.specs.Placed.{HasRow}
use Rattle.local_cache.specs.RowChanges.{is_granting}
use Rattle.local_cache.proofs.CacheList.Reading.{told_granted}
use Rattle.local_cache.proofs.cache_list.CacheList.granted.Goals as goal

pub returns : goal.returns
returns c =
    let i = c.self.inside in
    let has = subst (λ (r : CacheRows). HasRow r.rows c.args.cache.0 c.args.page.0) (sym c.self.view_is) c.requires in
    c.is_some.ensures
    ∙ ap is_some (c.get.ensures
    ∙ ap (said granted_says i.grants.list) c.page_number.ensures
    ∙ sym (get_cells granted_says i.grants.list _))
    ∙ sym (told_granted i.entries.items i.grants i.locks c.args.cache.0 c.args.page.0 has)
    ∙ ap (λ (r : CacheRows). is_granting r.rows c.args.cache.0 c.args.page.0) c.self.view_is
