use Rattle.std.proofs.Common.{ℕ, Option, option_map, unwrap_or, ap, sym, subst, ◌∙◌, arith}
use Rattle.local_cache.specs.declared.page_marks.LockCount.{LockCount}
use Rattle.local_cache.specs.ArenaBy.{CacheRows}
use Rattle.local_cache.specs.Placed.{HasRow}
use Rattle.local_cache.specs.RowChanges.{row_locks}
use Rattle.local_cache.proofs.CacheList.Reading.{found_locks, found_page}
use Rattle.local_cache.proofs.cache_list.CacheList.locks.Goals as goal

-- how many locks that is
abbrev as_count : Option LockCount → ℕ
as_count o = unwrap_or (option_map (λ v. v.0) o) 0

pub returns-in-Some-clause-count : goal.returns-in-Some-clause-count
returns-in-Some-clause-count c =
    let i = c.self.inside in
    sym (ap as_count c.in-Some.is)
    ∙ found_locks i.entries.items i.grants i.locks i.pages i.capacity i.locked c.self.invariant c.args.cache.0 c.args.page.0 (omega arith)
    c.page_number.result c.page_number.ensures c.get.result c.get.ensures
    ∙ ap (λ (r : CacheRows). row_locks r.rows c.args.cache.0 c.args.page.0) c.self.view_is

pub returns-in-Some-clause-page : goal.returns-in-Some-clause-page
returns-in-Some-clause-page c some =
    let i = c.self.inside in
    subst (λ (r : CacheRows). HasRow r.rows c.args.cache.0 c.args.page.0) c.self.view_is
    (found_page i.entries.items i.grants i.locks i.pages i.capacity i.locked c.self.invariant c.args.cache.0 c.args.page.0 (omega arith)
    c.page_number.result c.page_number.ensures c.get.result c.get.ensures
    (omega (arith, some, ap as_count c.in-Some.is)))

pub returns-in-None-clause-count : goal.returns-in-None-clause-count
returns-in-None-clause-count c =
    let i = c.self.inside in
    sym (ap as_count c.in-None.is)
    ∙ found_locks i.entries.items i.grants i.locks i.pages i.capacity i.locked c.self.invariant c.args.cache.0 c.args.page.0 (omega arith)
    c.page_number.result c.page_number.ensures c.get.result c.get.ensures
    ∙ ap (λ (r : CacheRows). row_locks r.rows c.args.cache.0 c.args.page.0) c.self.view_is
