-- Each call of the caches: what it does to the arena that is read off, and that nodes stay placed.
use Rattle.std.proofs.Common.{◌≡◌, ℕ, zero, suc, ◌+◌, ◌<◌, ◌^◌, Option, Some, None, length, refl, ap, ◌∙◌, arith}
use Rattle.std.specs.Prelude.{IfSome, is_some}
use Rattle.std.specs.FinMap as ids
use Rattle.mixed_map.proofs.Maps.{not_some, range_behind}
use Rattle.vm_ids.specs.declared.node_name.NodeName.TheVariants.{Working}
use Rattle.vm_ids.specs.declared.numbers.CacheId.{CacheId}
use Rattle.vm_ids.specs.declared.numbers.NodeId.{NodeId}
use Rattle.vm_ids.specs.declared.numbers.SegId.{SegId}
use Rattle.local_cache.specs.declared.own_state.OwnState.{OwnState}
use Rattle.local_cache.specs.Arena.{Arena, Cell, MakesCache, node_at, with_grant, with_locks, without_cache}
use Rattle.local_cache.specs.Arena as arena
use Rattle.local_cache.specs.ArenaBy.{CacheRows, arena_by}
use Rattle.local_cache.specs.ManyNodes.{next_node}
use Rattle.local_cache.specs.Many as many
use Rattle.local_cache.specs.NodeCells.{named, renewed, with_child}
use Rattle.local_cache.specs.NodeKeys.{page_number}
use Rattle.local_cache.specs.OnCells as on
use Rattle.local_cache.specs.PageNodes.{HasNode, HaveNodes, KeepsNames, PageNodes, made_first}
use Rattle.local_cache.specs.PageNodes as nodes
use Rattle.local_cache.specs.Placed.{ArePlaced}
use Rattle.local_cache.specs.RowChanges.{row_granting, row_locking, with_changed, with_row, without_row}
use Rattle.local_cache.proofs.ArenaBy.NewCache.{made_by}
use Rattle.local_cache.proofs.ArenaBy.Nodes.{as_working_by, leaf_by, on_cell_by, on_cells_by, without_by}
use Rattle.local_cache.proofs.ArenaBy.Placed.{kept_as_working, kept_names, kept_without, named_short}
use Rattle.local_cache.proofs.ArenaBy.PlacedRows.{kept_changed, kept_made, kept_removed}
use Rattle.local_cache.proofs.ArenaBy.Rows.{grant_by, lock_by, none_is, remove_by}
use Rattle.local_cache.proofs.NodesKept.{names_changed, names_each, there_same}
use Rattle.local_cache.proofs.PagesKept.{without_many_is, working_many_is}
use Rattle.local_cache.proofs.Stretched.{each_behind}

-- the page nodes and rows stand for this arena, and the nodes are placed
pub record StandFor (m : PageNodes) (c : CacheRows) (a : Arena) : Type 0 where
  pub is : arena_by m c ≡ a
  pub right : ArePlaced m c.rows

module _ (m : PageNodes) (c : CacheRows) (right : ArePlaced m c.rows) where
  abbrev a : Arena
  a = arena_by m c

  pub cache_made : (cache : CacheId) (segment : Option SegId) (own : OwnState) (pages : ℕ) → pages < 2 ^ 32 → cache.0 ≡ length c.rows + 1
      → ((page : ℕ) → page < pages → ids.get m.cells (page_number cache.0 page) ≡ None)
      → MakesCache a (arena_by (made_first m cache own pages) (with_row c segment pages)) cache segment pages own
      × ArePlaced (made_first m cache own pages) (with_row c segment pages).rows
  cache_made cache segment own pages few number free = (
    made_by m c cache segment own pages right.short few number free,
    kept_made m c cache segment own pages right few number free pages (omega arith),
  )

  -- no node has the number of a page of the next cache
  pub next_free : (cache : CacheId) (pages : ℕ) → cache.0 ≡ length c.rows + 1 → cache.0 < 2 ^ 29 → pages < 2 ^ 32 → (page : ℕ) → page < pages → ids.get m.cells (page_number cache.0 page) ≡ None
  next_free cache pages number below few page less =
      not_some (ids.get m.cells (page_number cache.0 page)) (λ held.
      absurd (omega (arith, number, right.first (page_number cache.0 page) (omega (arith, below, few, less)) held)))

  pub cache_removed : (cache : CacheId) → ((page : ℕ) → node_at a cache.0 page ≡ None) → StandFor m (without_row c cache.0) (without_cache a cache)
  cache_removed cache retired = record {
    is = remove_by m c cache;
    right = kept_removed m c.rows cache.0 right (λ page has. none_is m c cache.0 page (retired page) has);
  }

  pub page_granted : (cache page : ℕ) → StandFor m (with_changed c cache (row_granting page)) (with_grant a cache page)
  page_granted cache page = record {
    is = grant_by m c cache page;
    right = kept_changed (row_granting page) (λ r. refl) c.rows m cache right;
  }

  pub page_locked : (cache page count : ℕ) → StandFor m (with_changed c cache (row_locking page count)) (with_locks a cache page count)
  page_locked cache page count = record {
    is = lock_by m c cache page count;
    right = kept_changed (row_locking page count) (λ r. refl) c.rows m cache right;
  }

  module _ (n : NodeId) where
    -- names stay
    pub cell_changed : (f : Cell → Cell) → KeepsNames f → HasNode m n → StandFor (nodes.on_cell m n f) c (on.on_cell a n f)
    cell_changed f keeps held = record {
      is = on_cell_by m c n f;
      right = kept_names m _ c.rows (names_changed m.cells n.0 f keeps held) right;
    }

    pub cells_changed : (f : ℕ → Cell → Cell) (count : ℕ) → ((k : ℕ) → KeepsNames (f k)) → HaveNodes m n count → StandFor (nodes.on_cells m n f count) c (on.on_cells a n f count)
    cells_changed f count keeps held = record {
      is = on_cells_by m c n f count;
      right = kept_names m _ c.rows (names_each m.cells n.0 f keeps count held) right;
    }

    pub made_working : HasNode m n → StandFor (nodes.as_working m n) c (arena.as_working a n)
    made_working held = record {
      is = as_working_by m c n right.short (named_short m c.rows right n held);
      right = kept_as_working m c.rows right n held;
    }

    pub freed : HasNode m n → StandFor (nodes.without m n) c (arena.without a n)
    freed held = record {
      is = without_by m c n right.short (named_short m c.rows right n held);
      right = kept_without m c.rows right n held;
    }

-- One change more of what stands for an arena

pub one_more : (m now : PageNodes) (c : CacheRows) (a : Arena) (f : Arena → Arena) → StandFor m c a → StandFor now c (f (arena_by m c)) → StandFor now c (f a)
one_more m now c a f before stand = record { is = stand.is ∙ ap f before.is; right = stand.right }

module _ (m : PageNodes) (c : CacheRows) (right : ArePlaced m c.rows) (n : NodeId) where
  abbrev arena_now : Arena
  arena_now = arena_by m c

  none_yet : StandFor m c arena_now
  none_yet = record { is = refl; right = right }

  pub many_freed : (k : ℕ) → HaveNodes m n k → StandFor (nodes.without_many m n k) c (many.without_many arena_now n k)
  many_freed zero held = none_yet
  many_freed (suc k) held =
      let now = nodes.without_many m n k in
      let before = many_freed k (λ j less. held j (omega (arith, less))) in
      let there : HasNode now (next_node n k) =
      ap (λ (p : PageNodes). is_some (ids.get p.cells (n.0 + k))) (without_many_is m n k)
      ∙ ap is_some (range_behind m.cells n.0 k (n.0 + k) (omega arith)) ∙ held k (omega arith) in
      one_more now (nodes.without now (next_node n k)) c (many.without_many arena_now n k) (λ (b : Arena). arena.without b (next_node n k)) before
      (freed now c before.right (next_node n k) there)

  pub many_as_working : (k : ℕ) → HaveNodes m n k → StandFor (nodes.as_working_many m n k) c (many.as_working_many arena_now n k)
  many_as_working zero held = none_yet
  many_as_working (suc k) held =
      let now = nodes.as_working_many m n k in
      let before = many_as_working k (λ j less. held j (omega (arith, less))) in
      let there : HasNode now (next_node n k) =
      ap (λ (p : PageNodes). is_some (ids.get p.cells (n.0 + k))) (working_many_is m n k)
      ∙ ap is_some (each_behind m.cells n.0 (λ j. named (Working (m.made + 1 + j))) k (n.0 + k) (omega arith)) ∙ held k (omega arith) in
      one_more now (nodes.as_working now (next_node n k)) c (many.as_working_many arena_now n k) (λ (b : Arena). arena.as_working b (next_node n k)) before
      (made_working now c before.right (next_node n k) there)

-- A leaf leaves its parent, if it has one

module _ (m : PageNodes) (c : CacheRows) (right : ArePlaced m c.rows) (n : NodeId) (s : OwnState) (held : HasNode m n) where
  abbrev renewed_now : PageNodes
  renewed_now = nodes.on_cell m n (renewed s)

  still_held : (q : NodeId) → HasNode m q → HasNode renewed_now q
  still_held q there = there_same m.cells renewed_now.cells (names_changed m.cells n.0 (renewed s) (λ d. refl) held) q.0 ∙ there

  right_now : ArePlaced renewed_now c.rows
  right_now = kept_names m renewed_now.cells c.rows (names_changed m.cells n.0 (renewed s) (λ d. refl) held) right

  right_cut : (p : Option NodeId) → IfSome p (HasNode m) → ArePlaced (nodes.cut_from renewed_now p n None) c.rows
  right_cut None there = right_now
  right_cut (Some p) there = kept_names renewed_now _ c.rows (names_changed renewed_now.cells p.0 (with_child n None) (λ d. refl) (still_held p there)) right_now

  pub leaf_changed : IfSome (nodes.cell m n).links.parent (HasNode m) → StandFor (nodes.leaf_renewed m n s) c (on.leaf_renewed (arena_by m c) n s)
  leaf_changed parent = record {
    is = leaf_by m c n s;
    right = right_cut (nodes.cell m n).links.parent parent;
  }
