use Rattle.std.proofs.Common.{◌≡◌, ℕ, ◌+◌, ◌-◌, ◌<◌, ◌≤◌, ◌^◌, List, Option, Some, ap, sym, subst, ◌∙◌, arith}
use Rattle.std.specs.FinMap as map
use Rattle.stretches.specs.Cells.{cells}
use Rattle.local_cache.specs.declared.cache_list.CacheEntry.{CacheEntry}
use Rattle.local_cache.specs.ArenaBy.{CacheRow, CacheRows}
use Rattle.local_cache.specs.CacheList.{entry_at, rows_of}
use Rattle.local_cache.specs.NodeKeys.{page_number}
use Rattle.local_cache.specs.PageMarks.{locks_say, with_count}
use Rattle.local_cache.specs.Placed.{HasRow}
use Rattle.local_cache.specs.RowChanges.{row_locking, row_locks, with_changed}
use Rattle.local_cache.proofs.CacheList.Reading.{live_page, locks_fit, number_fits}
use Rattle.local_cache.proofs.CacheList.Setting.{added_fits, lock_fits, right_locked, rows_locked, taken_fits}
use Rattle.local_cache.proofs.Tables.Locked.{bit}
use Rattle.local_cache.proofs.cache_list.CacheList.set_locks.Goals as goal

-- the page is one of a live cache
here : (c : goal.After-locked_of) → (e : CacheEntry) × (entry_at c.self.inside.entries.items c.args.cache.0 ≡ Some e) × (c.args.page.0 < e.pages)
here c =
    live_page c.self.inside.entries.items c.self.inside.grants c.self.inside.locks c.args.cache.0 c.args.page.0
    (subst (λ (r : CacheRows). HasRow r.rows c.args.cache.0 c.args.page.0) (sym c.self.view_is) c.requires)

-- how many locked pages it is
was : (c : goal.After-locked_of) → c.locked_of.result ≡ bit (row_locks (rows_of c.self.inside.entries.items c.self.inside.grants c.self.inside.locks) c.args.cache.0 c.args.page.0)
was c =
    c.locked_of.ensures
    ∙ ap bit (c.locks-before.ensures.count ∙ ap (λ (r : CacheRows). row_locks r.rows c.args.cache.0 c.args.page.0) (sym c.self.view_is))

pub overflow_sub-self : goal.overflow_sub-self
overflow_sub-self c =
    let i = c.self.inside in
    let at = here c in
    omega (arith, was c, taken_fits i.entries.items i.grants i.locks i.pages i.capacity i.locked c.self.invariant c.args.cache.0 c.args.page.0 at.0 at.1 at.2)

-- and will be
now : (c : goal.After-locked_of-2) → c.locked_of-2.result ≡ bit c.args.count
now c = c.locked_of-2.ensures

pub overflow_add-self : goal.overflow_add-self
overflow_add-self c =
    let i = c.self.inside in
    let at = here c.before in
    let fits : c.self.inside.locked - c.locked_of.result + c.locked_of-2.result < 2 ^ 32 =
    omega (arith, was c.before, now c, added_fits i.entries.items i.grants i.locks i.pages i.capacity i.locked c.self.invariant c.args.cache.0 c.args.page.0 at.0 at.1 at.2 c.args.count) in
    omega (arith, fits)

pub set_count-requires-clause-short : goal.set_count-requires-clause-short
set_count-requires-clause-short c =
    let i = c.self.inside in
    let at = here c.before.before.before.before in
    omega (arith, c.page_number.ensures, number_fits i.entries.items i.grants i.locks i.pages i.capacity i.locked c.self.invariant c.args.cache.0 c.args.page.0 at.0 at.1 at.2)

pub set_count-requires-clause-fits : goal.set_count-requires-clause-fits
set_count-requires-clause-fits c =
    let i = c.self.inside in
    locks_fit i.entries.items i.grants i.locks i.pages i.capacity i.locked c.self.invariant

pub set_count-requires-clause-places : goal.set_count-requires-clause-places
set_count-requires-clause-places c =
    let i = c.self.inside in
    let at = here c.before.before.before.before in
    subst (λ (n : ℕ). map.len (map.insert (cells locks_say i.locks.list) n (record { 0 = c.args.count })) ≤ i.locks.places) (sym c.page_number.ensures)
    (lock_fits i.entries.items i.grants i.locks i.pages i.capacity i.locked c.self.invariant c.args.cache.0 c.args.page.0 at.0 at.1 at.2 (record { 0 = c.args.count }))

set : (c : goal.After-set_count) → cells locks_say c.set_count.new.list.list
    ≡ with_count (cells locks_say c.self.inside.locks.list) (page_number c.args.cache.0 c.args.page.0) c.args.count
set c =
    c.set_count.ensures.cells
    ∙ ap (λ (n : ℕ). with_count (cells locks_say c.self.inside.locks.list) n c.args.count) c.page_number.ensures

pub invariant_of-self : goal.invariant_of-self
invariant_of-self c =
    let i = c.self.inside in
    let at = here c.before.before.before.before.before in
    let fresh = now c.before.before.before.before in
    let old = was c.before.before.before.before.before in
    right_locked i.entries.items i.grants i.locks i.pages i.capacity i.locked c.self.invariant c.args.cache.0 c.args.page.0 at.0 at.1 at.2
    c.set_count.new.list c.args.count (set c) c.set_count.ensures.counted c.set_count.ensures.places
    (i.locked - c.locked_of.result + c.locked_of-2.result) (λ j. i.locked - old j + fresh j)

pub returns : goal.returns
returns c =
    let i = c.self.inside in
    let at = here c.before.before.before.before.before in
    let rows = rows_locked i.entries.items i.grants i.locks i.pages i.capacity i.locked c.self.invariant c.args.cache.0 c.args.page.0 at.0 at.1 at.2
    c.set_count.new.list c.args.count (set c) c.set_count.ensures.counted c.set_count.ensures.places in
    ap (λ (rs : List (Option CacheRow)). record { rows = rs; copies = i.copies; places = i.entries.cap - i.entries.len; entries = i.capacity - i.pages }) rows
    ∙ ap (λ (r : CacheRows). with_changed r c.args.cache.0 (row_locking c.args.page.0 c.args.count)) c.self.view_is
