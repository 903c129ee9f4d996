use Rattle.std.proofs.Common.{◌≡◌, ℕ, ◌-◌, ◌<◌, ◌≤◌, List, Option, Some, ap, sym, subst, ◌∙◌, arith}
use Rattle.std.specs.FinMap as map
use Rattle.stretches.specs.Cells.{cells}
use Rattle.local_cache.specs.declared.cache_list.CacheEntry.{CacheEntry}
use Rattle.local_cache.specs.ArenaBy.{CacheRow, CacheRows}
use Rattle.local_cache.specs.CacheList.{entry_at}
use Rattle.local_cache.specs.NodeKeys.{page_number}
use Rattle.local_cache.specs.PageMarks.{granted_says}
use Rattle.local_cache.specs.Placed.{HasRow}
use Rattle.local_cache.specs.RowChanges.{row_granting, with_changed}
use Rattle.local_cache.proofs.CacheList.Reading.{live_page, number_fits}
use Rattle.local_cache.proofs.CacheList.Setting.{grant_fits, right_granted, rows_granted}
use Rattle.local_cache.proofs.cache_list.CacheList.grant.Goals as goal

-- the page is one of a live cache
here : (c : goal.After-page_number) → (e : CacheEntry) × (entry_at c.self.inside.entries.items c.args.cache.0 ≡ Some e) × (c.args.page.0 < e.pages)
here c =
    live_page c.self.inside.entries.items c.self.inside.grants c.self.inside.locks c.args.cache.0 c.args.page.0
    (subst (λ (r : CacheRows). HasRow r.rows c.args.cache.0 c.args.page.0) (sym c.self.view_is) c.requires)

pub set_one-requires-clause-fit : goal.set_one-requires-clause-fit
set_one-requires-clause-fit c =
    let i = c.self.inside in
    let at = here c in
    record {
      some = omega arith;
      short = omega arith;
      ends = omega (arith, c.page_number.ensures, number_fits i.entries.items i.grants i.locks i.pages i.capacity i.locked c.self.invariant c.args.cache.0 c.args.page.0 at.0 at.1 at.2);
      lasts = tt;
    }

pub set_one-requires-clause-places : goal.set_one-requires-clause-places
set_one-requires-clause-places c =
    let i = c.self.inside in
    let at = here c in
    subst (λ (n : ℕ). map.len (map.insert (cells granted_says i.grants.list) n (record {})) ≤ i.grants.places) (sym c.page_number.ensures)
    (grant_fits i.entries.items i.grants i.locks i.pages i.capacity i.locked c.self.invariant c.args.cache.0 c.args.page.0 at.0 at.1 at.2 (record {}))

set : (c : goal.After-set_one) → cells granted_says c.set_one.new.list.list
    ≡ map.insert (cells granted_says c.self.inside.grants.list) (page_number c.args.cache.0 c.args.page.0) (record {})
set c =
    c.set_one.ensures.cells
    ∙ ap (λ (n : ℕ). map.insert (cells granted_says c.self.inside.grants.list) n (record {})) c.page_number.ensures

pub invariant_of-self : goal.invariant_of-self
invariant_of-self c =
    let i = c.self.inside in
    let at = here c.before in
    right_granted i.entries.items i.grants i.locks i.pages i.capacity i.locked c.self.invariant c.args.cache.0 c.args.page.0 at.0 at.1 at.2
    c.set_one.new.list (record {}) (set c) c.set_one.ensures.counted c.set_one.ensures.places

pub returns : goal.returns
returns c =
    let i = c.self.inside in
    let at = here c.before in
    let rows = rows_granted i.entries.items i.grants i.locks i.pages i.capacity i.locked c.self.invariant c.args.cache.0 c.args.page.0 at.0 at.1 at.2
    c.set_one.new.list (record {}) (set c) c.set_one.ensures.counted c.set_one.ensures.places in
    ap (λ (rs : List (Option CacheRow)). record { rows = rs; copies = i.copies; places = i.entries.cap - i.entries.len; entries = i.capacity - i.pages }) rows
    ∙ ap (λ (r : CacheRows). with_changed r c.args.cache.0 (row_granting c.args.page.0)) c.self.view_is
