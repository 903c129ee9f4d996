use Rattle.std.proofs.Common.{◌≡◌, ℕ, suc, ◌+◌, ◌-◌, List, Option, Some, None, IsSome, is_some, get_or, set, ap, sym, subst, ◌∙◌, arith}
use Rattle.std.specs.FinMap as map
use Rattle.stretches.specs.Cells.{cells}
use Rattle.local_cache.specs.declared.cache_list.CacheEntry.{CacheEntry}
use Rattle.local_cache.specs.ArenaBy.{CacheRows}
use Rattle.local_cache.specs.CacheList.{AreListsRight, entry_at, rows_of}
use Rattle.local_cache.specs.NodeKeys.{page_number}
use Rattle.local_cache.specs.PageMarks.{granted_says, locks_say}
use Rattle.local_cache.specs.RowChanges.{row_at, row_pages, rows_without, without_row}
use Rattle.local_cache.specs.Singles.{without_range}
use Rattle.local_cache.proofs.CacheList.Coming.{Goes, enough_locked, enough_pages, gone_pages, right_gone, rows_gone}
use Rattle.local_cache.proofs.CacheList.PageNumbers.{entry_index}
use Rattle.local_cache.proofs.CacheList.Reading.{grants_fit, is_live, locks_fit}
use Rattle.local_cache.proofs.cache_list.CacheList.remove.Goals as goal

pub unwrap-entry-requires : goal.unwrap-entry-requires
unwrap-entry-requires c =
    let i = c.self.inside in
    ap is_some (c.entry_of.ensures ∙ ap (λ (es : List (Option CacheEntry)). entry_at es c.args.cache.0) c.deref.ensures.value)
    ∙ is_live i.entries.items i.grants i.locks c.args.cache.0
    (subst (λ (r : CacheRows). IsSome (row_at r.rows c.args.cache.0)) (sym c.self.view_is) c.requires)

-- the numbers of its pages that are locked
counted : (c : goal.After-count_said) → (k : ℕ) → c.args.cache.0 ≡ suc k → c.count_said.result
    + map.len (without_range (cells locks_say c.self.inside.locks.list) (page_number (suc k) 0) c.unwrap-entry.result.pages)
    ≡ map.len (cells locks_say c.self.inside.locks.list)
counted c k at =
    ap (λ (n : ℕ). c.count_said.result + map.len (without_range (cells locks_say c.self.inside.locks.list) n c.unwrap-entry.result.pages))
    (sym (c.page_number-first.ensures ∙ ap (λ (n : ℕ). page_number n 0) at))
    ∙ c.count_said.ensures

pub overflow_sub-self-2 : goal.overflow_sub-self-2
overflow_sub-self-2 c =
    let i = c.self.inside in
    let at = entry_index i.entries.items c.args.cache.0 c.unwrap-entry.result
    (ap (λ (es : List (Option CacheEntry)). entry_at es c.args.cache.0) (sym c.deref.ensures.value)
    ∙ sym c.entry_of.ensures ∙ c.unwrap-entry.ensures) in
    enough_locked i.entries.items i.grants i.locks i.pages i.capacity i.locked c.self.invariant at.0 c.unwrap-entry.result at.2 c.count_said.result (counted c at.0 at.1)

pub clear_many-requires-clause-places : goal.clear_many-requires-clause-places
clear_many-requires-clause-places c =
    let i = c.self.inside in
    grants_fit i.entries.items i.grants i.locks i.pages i.capacity i.locked c.self.invariant

pub clear_many-requires-2-clause-places : goal.clear_many-requires-2-clause-places
clear_many-requires-2-clause-places c =
    let i = c.self.inside in
    locks_fit i.entries.items i.grants i.locks i.pages i.capacity i.locked c.self.invariant

-- the cache that goes
place : (c : goal.After-clear_many-2) → (k : ℕ) × (c.args.cache.0 ≡ suc k) × (get_or c.self.inside.entries.items k None ≡ Some c.unwrap-entry.result)
place c =
    entry_index c.self.inside.entries.items c.args.cache.0 c.unwrap-entry.result
    (ap (λ (es : List (Option CacheEntry)). entry_at es c.args.cache.0) (sym c.deref.ensures.value)
    ∙ sym c.entry_of.ensures ∙ c.unwrap-entry.ensures)

left : (c : goal.After-clear_many-2) → Goes c.self.inside.entries.items c.self.inside.grants c.self.inside.locks (place c).0 c.unwrap-entry.result c.count_said.result c.clear_many.new.list c.clear_many-2.new.list
left c =
    let i = c.self.inside in
    let e = c.unwrap-entry.result in
    let first = c.page_number-first.ensures ∙ ap (λ (n : ℕ). page_number n 0) (place c).1 in
    record {
      counts = ap (λ (n : ℕ). c.count_said.result + map.len (without_range (cells locks_say i.locks.list) n e.pages)) (sym first) ∙ c.count_said.ensures;
      grants = c.clear_many.ensures.cells ∙ ap (λ (n : ℕ). without_range (cells granted_says i.grants.list) n e.pages) first;
      locks = c.clear_many-2.ensures.cells ∙ ap (λ (n : ℕ). without_range (cells locks_say i.locks.list) n e.pages) first;
    }

pub invariant_of-self : goal.invariant_of-self
invariant_of-self c =
    let i = c.self.inside in
    let at = place c in
    let e = c.unwrap-entry.result in
    let index : c.args.cache.0 - 1 ≡ at.0 = omega (arith, at.1) in
    subst (λ (n : ℕ). AreListsRight (set i.entries.items n None) c.clear_many.new.list c.clear_many-2.new.list (i.pages - e.pages) i.capacity (i.locked - c.count_said.result)) (sym index)
    (right_gone i.entries.items i.grants i.locks i.pages i.capacity i.locked c.self.invariant at.0 e at.2 c.count_said.result (left c).counts
    c.clear_many.new.list c.clear_many-2.new.list (left c).grants (left c).locks
    c.clear_many.ensures.counted c.clear_many.ensures.places c.clear_many-2.ensures.counted c.clear_many-2.ensures.places)

pub returns : goal.returns
returns c =
    let i = c.self.inside in
    let at = place c in
    let e = c.unwrap-entry.result in
    let index : c.args.cache.0 - 1 ≡ at.0 = omega (arith, at.1) in
    let rows = ap (λ (n : ℕ). rows_of (set i.entries.items n None) c.clear_many.new.list c.clear_many-2.new.list) index
    ∙ rows_gone i.entries.items i.grants i.locks i.pages i.capacity i.locked c.self.invariant at.0 e at.2 c.count_said.result (left c).counts
    c.clear_many.new.list c.clear_many-2.new.list (left c).grants (left c).locks
    ∙ ap (rows_without (rows_of i.entries.items i.grants i.locks)) (sym at.1) in
    let back : row_pages (row_at (rows_of i.entries.items i.grants i.locks) c.args.cache.0) ≡ e.pages =
    ap (λ (n : ℕ). row_pages (row_at (rows_of i.entries.items i.grants i.locks) n)) at.1
    ∙ gone_pages i.entries.items i.grants i.locks i.pages i.capacity i.locked c.self.invariant at.0 e at.2 in
    let entries : i.capacity - (i.pages - e.pages)
    ≡ i.capacity - i.pages + row_pages (row_at (rows_of i.entries.items i.grants i.locks) c.args.cache.0) =
    omega (arith, back, enough_pages i.entries.items i.grants i.locks i.pages i.capacity i.locked c.self.invariant at.0 e at.2, c.self.invariant.fits) in
    (λ j. record { rows = rows j; copies = i.copies; places = i.entries.cap - i.entries.len; entries = entries j })
    ∙ ap (λ (r : CacheRows). without_row r c.args.cache.0) c.self.view_is
