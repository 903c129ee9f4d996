-- The caches as they are seen, an arena: what it tells of the page nodes and the rows that stand
-- for it, and how it is seen after each call.
use Rattle.std.proofs.Common.{◌≡◌, ℕ, zero, suc, ◌+◌, ◌<◌, ◌^◌, true, List, [], length, sum_by, Option, Some, None, IsSome, is_some, refl, ap, sym, subst, ◌∙◌}
use Rattle.std.specs.Prelude.{option_and_then, option_map}
use Rattle.std.proofs.lemmas.Option.{none-some}
use Rattle.std.specs.FinMap as ids
use Rattle.local_cache.specs.Pages.{Pages}
use Rattle.vm_ids.specs.declared.numbers.CacheId.{CacheId}
use Rattle.vm_ids.specs.declared.numbers.NodeId.{NodeId}
use Rattle.vm_ids.specs.declared.numbers.PageNo.{PageNo}
use Rattle.vm_ids.specs.declared.numbers.SegId.{SegId}
use Rattle.local_cache.specs.declared.own_state.OwnState.{OwnState}
use Rattle.local_cache.specs.declared.page_entry.PageEntry.{PageEntry}
use Rattle.local_cache.specs.Arena.{Arena, Cell, HasPlace, MakesCache, NodesStay, Table, entry_at, is_granted, locked_count, locks_of, node_at, table_of, with_grant, with_locks, without_cache}
use Rattle.local_cache.specs.Arena as arena
use Rattle.local_cache.specs.ArenaBy.{CacheRow, CacheRows, arena_by, table_by}
use Rattle.local_cache.specs.Placed.{ArePlaced, AreRight, EachRow, HasRow, IsFull}
use Rattle.local_cache.specs.RowChanges.{entry_of_row, is_granting, new_row, row_at, row_granting, row_locked, row_locking, row_locks, with_changed, with_row, without_row}
use Rattle.local_cache.specs.NodeKeys.{page_number}
use Rattle.local_cache.specs.Many as many
use Rattle.local_cache.specs.ManyNodes.{next_node}
use Rattle.local_cache.specs.OnCells as on
use Rattle.local_cache.specs.PageNodes.{KeepsNames, PageNodes, made_first}
use Rattle.local_cache.specs.PageNodes as nodes
use Rattle.local_cache.proofs.ArenaBy.Calls.{StandFor, cache_made, cache_removed, cell_changed, cells_changed, freed, many_as_working, many_freed, page_granted, page_locked}
use Rattle.local_cache.proofs.ArenaBy.EachRow.{each_changed, each_left, each_more, full_granting, full_locking, full_new}
use Rattle.local_cache.proofs.ArenaBy.NewCache.{length_tables}
use Rattle.local_cache.proofs.ArenaBy.Nodes.{cell_by}
use Rattle.local_cache.proofs.ArenaBy.Placed.{kept_same, none_placed}
use Rattle.local_cache.proofs.ArenaBy.Rows.{entry_is, granted_by, granted_now, has_row, locked_by, locks_by, locks_now, node_is, pages_by, segment_by, table_is}
use Rattle.local_cache.proofs.Tables.Listing.{node_by_entry, node_of_entry}

-- page nodes and rows are right, and are seen as this arena
pub record Seen (m : PageNodes) (c : CacheRows) (a : Arena) : Type 0 where
  pub is : arena_by m c ≡ a
  pub right : AreRight m c

-- no node and no cache
pub none_right : (m : PageNodes) (c : CacheRows) → ((n : NodeId) → nodes.find m n ≡ None)
    → ((k : ℕ) → ids.get m.pages k ≡ None) → c.rows ≡ [] → AreRight m c
none_right m c no_cell no_page no_row =
    record {
      placed = subst (ArePlaced m) (sym no_row) (none_placed m no_cell no_page);
      full = subst (EachRow IsFull) (sym no_row) (λ k r is. absurd (none-some r is));
    }

-- the row of a live cache is full
full_row : (rows : List (Option CacheRow)) → EachRow IsFull rows → (cache page : ℕ)
    → (has : HasRow rows cache page) → IsFull has.row
full_row rows full zero page has = absurd (none-some has.row has.is)
full_row rows full (suc k) page has = full k has.row has.is

some_row : (m : Pages) (cache : ℕ) (o : Option CacheRow)
    → is_some (option_map (table_by m cache) o) ≡ is_some o
some_row m cache None = refl
some_row m cache (Some r) = refl

some_entry : (o : Option PageEntry) → IsSome (node_of_entry o) → IsSome o
some_entry None some = some
some_entry (Some e) some = refl

module _ (m : PageNodes) (c : CacheRows) (a : Arena) (is : arena_by m c ≡ a) where
  -- What is asked

  pub cell_seen : (n : NodeId) → nodes.cell m n ≡ arena.cell a n
  cell_seen n = cell_by m c n ∙ ap (λ (b : Arena). arena.cell b n) is

  pub held_seen : (n : NodeId) → arena.HasNode a n → nodes.HasNode m n
  held_seen n held = subst (λ (b : Arena). arena.HasNode b n) (sym is) held

  pub all_held : (n : NodeId) (count : ℕ) → many.HaveNodes a n count → nodes.HaveNodes m n count
  all_held n count held k less = held_seen (next_node n k) (held k less)

  pub none_seen : (n : NodeId) → nodes.find m n ≡ None → arena.find a n ≡ None
  none_seen n none = ap (λ (b : Arena). arena.find b n) (sym is) ∙ none

  pub made_seen : length c.rows ≡ length a.caches
  made_seen = sym (length_tables m.pages 1 c.rows) ∙ ap (λ (b : Arena). length b.caches) is

  pub place_seen : (cache : CacheId) (page : PageNo) → HasPlace a cache page
      → HasRow c.rows cache.0 page.0
  place_seen cache page place =
      has_row m c cache.0 page.0 (subst (λ (b : Arena). HasPlace b cache page) (sym is) place)

  pub row_seen : (cache : ℕ) → IsSome (table_of a cache) → IsSome (row_at c.rows cache)
  row_seen cache live =
      sym (some_row m.pages cache (row_at c.rows cache))
      ∙ ap is_some (sym (table_is m.pages c.rows cache))
      ∙ subst (λ (b : Arena). IsSome (table_of b cache)) (sym is) live

  -- the size and the segment of a cache, by its entry
  pub size_seen : (cache : ℕ)
      → option_map (λ e. e.pages) (option_map entry_of_row (row_at c.rows cache))
      ≡ option_map (λ t. length t.pages) (table_of a cache)
  size_seen cache =
      of_entry (row_at c.rows cache)
      ∙ sym (pages_by m c cache)
      ∙ ap (λ (b : Arena). option_map (λ t. length t.pages) (table_of b cache)) is
    where
      of_entry : (o : Option CacheRow)
          → option_map (λ e. e.pages) (option_map entry_of_row o) ≡ option_map (λ r. r.pages) o
      of_entry None = refl
      of_entry (Some r) = refl

  pub segment_seen : (cache : ℕ)
      → option_and_then (λ e. e.segment) (option_map entry_of_row (row_at c.rows cache))
      ≡ option_and_then (λ t. t.segment) (table_of a cache)
  segment_seen cache =
      of_entry (row_at c.rows cache)
      ∙ sym (segment_by m c cache)
      ∙ ap (λ (b : Arena). option_and_then (λ t. t.segment) (table_of b cache)) is
    where
      of_entry : (o : Option CacheRow)
          → option_and_then (λ e. e.segment) (option_map entry_of_row o)
          ≡ option_and_then (λ r. r.segment) o
      of_entry None = refl
      of_entry (Some r) = refl

  pub node_seen : (cache page : ℕ) → IsSome (node_at a cache page)
      → nodes.node_at m cache page ≡ node_at a cache page
  node_seen cache page some =
      let here : IsSome (node_at (arena_by m c) cache page) =
      subst (λ (b : Arena). IsSome (node_at b cache page)) (sym is) some in
      let has = has_row m c cache page (some_entry (entry_at (arena_by m c).caches cache page)
      (ap is_some (sym (node_by_entry (arena_by m c).caches cache page)) ∙ here)) in
      sym (node_is m c cache page has) ∙ ap (λ (b : Arena). node_at b cache page) is

  pub grant_seen : (cache page : ℕ) → is_granting c.rows cache page ≡ is_granted a cache page
  grant_seen cache page =
      sym (granted_by m c cache page) ∙ ap (λ (b : Arena). is_granted b cache page) is

  pub locks_seen : (cache page : ℕ) → row_locks c.rows cache page ≡ locks_of a cache page
  locks_seen cache page =
      sym (locks_by m c cache page) ∙ ap (λ (b : Arena). locks_of b cache page) is

  pub locked_seen : sum_by row_locked c.rows ≡ locked_count a
  locked_seen = sym (locked_by m c) ∙ ap locked_count is

  -- a page of a cache that is live has a place
  pub placed_seen : (cache : CacheId) (page : PageNo) → HasRow c.rows cache.0 page.0
      → HasPlace a cache page
  placed_seen cache page has =
      subst (λ (b : Arena). HasPlace b cache page) is (ap is_some (entry_is m c cache.0 page.0 has))

  -- What is left

  module _ (right : AreRight m c) where
    -- after a change of page nodes
    pub node_call : (new now : PageNodes) (f : Arena → Arena) → new ≡ now
        → StandFor now c (f (arena_by m c)) → Seen new c (f a)
    node_call new now f changed stand =
        record {
          is = ap (λ (x : PageNodes). arena_by x c) changed ∙ stand.is ∙ ap f is;
          right = record {
            placed = subst (λ (x : PageNodes). ArePlaced x c.rows) (sym changed) stand.right;
            full = right.full;
          };
        }

    -- after a change of rows
    row_call : (new now : CacheRows) (f : Arena → Arena) → new ≡ now
        → StandFor m now (f (arena_by m c)) → EachRow IsFull now.rows → Seen m new (f a)
    row_call new now f changed stand full =
        record {
          is = ap (arena_by m) changed ∙ stand.is ∙ ap f is;
          right = record {
            placed = subst (λ (x : CacheRows). ArePlaced m x.rows) (sym changed) stand.right;
            full = subst (λ (x : CacheRows). EachRow IsFull x.rows) (sym changed) full;
          };
        }

    module _ (new : PageNodes) (n : NodeId) where
      pub cell_call : (f : Cell → Cell) → KeepsNames f → arena.HasNode a n → new ≡ nodes.on_cell m n f → Seen new c (on.on_cell a n f)
      cell_call f keeps held changed =
          node_call new (nodes.on_cell m n f) (λ (b : Arena). on.on_cell b n f) changed
          (cell_changed m c right.placed n f keeps (held_seen n held))

      pub cells_call : (f : ℕ → Cell → Cell) (count : ℕ) → ((k : ℕ) → KeepsNames (f k)) → many.HaveNodes a n count → new ≡ nodes.on_cells m n f count
          → Seen new c (on.on_cells a n f count)
      cells_call f count keeps held changed =
          node_call new (nodes.on_cells m n f count) (λ (b : Arena). on.on_cells b n f count) changed
          (cells_changed m c right.placed n f count keeps (all_held n count held))

      pub free_call : arena.HasNode a n → new ≡ nodes.without m n → Seen new c (arena.without a n)
      free_call held changed =
          node_call new (nodes.without m n) (λ (b : Arena). arena.without b n) changed
          (freed m c right.placed n (held_seen n held))

      pub free_many_call : (count : ℕ) → many.HaveNodes a n count → new ≡ nodes.without_many m n count → Seen new c (many.without_many a n count)
      free_many_call count held changed =
          node_call new (nodes.without_many m n count) (λ (b : Arena). many.without_many b n count) changed
          (many_freed m c right.placed n count (all_held n count held))

      pub to_working_many_call : (count : ℕ) → many.HaveNodes a n count → new ≡ nodes.as_working_many m n count → Seen new c (many.as_working_many a n count)
      to_working_many_call count held changed =
          node_call new (nodes.as_working_many m n count) (λ (b : Arena). many.as_working_many b n count) changed
          (many_as_working m c right.placed n count (all_held n count held))

    module _ (new : CacheRows) where
      pub grant_call : (cache page : ℕ) → new ≡ with_changed c cache (row_granting page)
          → Seen m new (with_grant a cache page)
      grant_call cache page changed =
          row_call new (with_changed c cache (row_granting page))
          (λ (b : Arena). with_grant b cache page) changed
          (page_granted m c right.placed cache page)
          (each_changed IsFull (row_granting page) (full_granting page) c.rows cache right.full)

      pub lock_call : (cache page count : ℕ)
          → new ≡ with_changed c cache (row_locking page count)
          → Seen m new (with_locks a cache page count)
      lock_call cache page count changed =
          row_call new (with_changed c cache (row_locking page count))
          (λ (b : Arena). with_locks b cache page count) changed
          (page_locked m c right.placed cache page count)
          (each_changed IsFull (row_locking page count) (full_locking page count) c.rows cache right.full)

      pub remove_call : (cache : CacheId) → ((page : ℕ) → node_at a cache.0 page ≡ None)
          → new ≡ without_row c cache.0 → Seen m new (without_cache a cache)
      remove_call cache retired changed =
          row_call new (without_row c cache.0) (λ (b : Arena). without_cache b cache) changed
          (cache_removed m c right.placed cache
          (λ page. ap (λ (b : Arena). node_at b cache.0 page) is ∙ retired page))
          (each_left IsFull c.rows cache.0 right.full)

      pub copy_call : new ≡ record c { copies = c.copies + 1 }
          → Seen m new (record a { copies = a.copies + 1 })
      copy_call changed =
          row_call new (record c { copies = c.copies + 1 })
          (λ (b : Arena). record b { copies = b.copies + 1 }) changed
          (record { is = refl; right = right.placed }) right.full

    -- the page that was granted
    pub granted_call : (new : CacheRows) (cache page : ℕ) → HasRow c.rows cache page
        → new ≡ with_changed c cache (row_granting page)
        → is_granted (arena_by m new) cache page ≡ true
    granted_call new cache page has changed =
        ap (λ (x : CacheRows). is_granted (arena_by m x) cache page) changed
        ∙ granted_now m c cache page has (full_row c.rows right.full cache page has)

    -- the locks that were set
    pub locks_call : (new : CacheRows) (cache page count : ℕ) → HasRow c.rows cache page
        → new ≡ with_changed c cache (row_locking page count)
        → locks_of (arena_by m new) cache page ≡ count
    locks_call new cache page count has changed =
        ap (λ (x : CacheRows). locks_of (arena_by m x) cache page) changed
        ∙ locks_now m c cache page has (full_row c.rows right.full cache page has) count

    -- the cache that was made
    module _ (new : PageNodes) (after : CacheRows) (cache : CacheId) (segment : Option SegId)
        (own : OwnState) (pages : ℕ) (few : pages < 2 ^ 32) (number : cache.0 ≡ length c.rows + 1)
        (free : (page : ℕ) → page < pages → ids.get m.cells (page_number cache.0 page) ≡ None)
        (made : new ≡ made_first m cache own pages) (changed : after ≡ with_row c segment pages) where
      abbrev both : MakesCache (arena_by m c) (arena_by (made_first m cache own pages) (with_row c segment pages)) cache segment pages own
          × ArePlaced (made_first m cache own pages) (with_row c segment pages).rows
      both = cache_made m c right.placed cache segment own pages few number free

      pub make_call : MakesCache a (arena_by new after) cache segment pages own
      make_call =
          let P : Arena → Type 0 = λ b. MakesCache b (arena_by new after) cache segment pages own in
          let Q : Arena → Type 0 = λ b. MakesCache (arena_by m c) b cache segment pages own in
          subst P is (subst Q (λ i. arena_by (sym made i) (sym changed i)) both.0)

      pub make_right : AreRight new after
      make_right = record {
        placed = (let P : PageNodes → Type 0 = λ x. ArePlaced x after.rows in
            let Q : CacheRows → Type 0 = λ x. ArePlaced (made_first m cache own pages) x.rows in
            subst P (sym made) (subst Q (sym changed) both.1));
        full = subst (λ (x : CacheRows). EachRow IsFull x.rows) (sym changed)
            (each_more IsFull (new_row segment pages) (full_new segment pages) c.rows right.full);
      }

    -- more room
    module _ (new : PageNodes) (after : CacheRows) (kept : new ≡ record m { room = new.room })
        (kept_rows : after ≡ record c { places = after.places; entries = after.entries }) where
      pub room_call : arena_by new after ≡ record a { room = (arena_by new after).room }
      room_call =
          (λ i. arena_by (kept i) (kept_rows i))
          ∙ ap (λ (b : Arena). record b { room = (arena_by new after).room }) is

      pub room_right : AreRight new after
      room_right =
          record {
            placed = subst (λ (x : CacheRows). ArePlaced new x.rows) (sym kept_rows)
                (subst (λ (x : PageNodes). ArePlaced x c.rows) (sym kept)
                (kept_same m (record m { room = new.room }) c.rows refl refl right.placed));
            full = subst (λ (x : CacheRows). EachRow IsFull x.rows) (sym kept_rows) right.full;
          }
