-- Each call that changes page nodes, on the arena.
use Rattle.std.proofs.Common.{◌≡◌, ℕ, zero, suc, ◌+◌, List, Option, Some, None, refl, ap, ◌∙◌, arith}
use Rattle.std.specs.FinMap as ids
use Rattle.vm_ids.specs.declared.node_name.NodeName.{NodeName}
use Rattle.vm_ids.specs.declared.node_name.NodeName.TheVariants.{Live, Working}
use Rattle.vm_ids.specs.declared.numbers.CacheId.{CacheId}
use Rattle.vm_ids.specs.declared.numbers.NodeId.{NodeId}
use Rattle.vm_ids.specs.declared.numbers.PageNo.{PageNo}
use Rattle.local_cache.specs.declared.own_state.OwnState.{OwnState}
use Rattle.local_cache.specs.Arena.{Arena, Cell, Table, tables_with}
use Rattle.local_cache.specs.Arena as arena
use Rattle.local_cache.specs.ArenaBy.{CacheRow, CacheRows, arena_by, tables_by}
use Rattle.local_cache.specs.NodeCells.{renewed}
use Rattle.local_cache.specs.NodeKeys.{page_number}
use Rattle.local_cache.specs.ManyNodes.{next_node}
use Rattle.local_cache.specs.OnCells as on
use Rattle.local_cache.specs.PageNodes.{PageNodes}
use Rattle.local_cache.specs.PageNodes as nodes
use Rattle.local_cache.specs.Pages.{Pages, pages_with}
use Rattle.local_cache.specs.Placed.{AreShort, IsShort}
use Rattle.local_cache.proofs.ArenaBy.Tables.{tables_set}
use Rattle.local_cache.proofs.NodeCells.{inserted_here, inserted_other, removed_here, removed_other}

-- The pages

module _ (m : Pages) (cache : CacheId) (page : PageNo) where
  pub page_come : (n : NodeId) → pages_with m (Live cache page) (Some n) ≡ ids.insert m (page_number cache.0 page.0) n
  page_come n =
      let at : page_number cache.0 page.0 + 0 ≡ page_number cache.0 page.0 = omega arith in
      let node : n.0 + 0 ≡ n.0 = omega arith in
      λ i. ids.insert m (at i) (record { 0 = node i })

  pub page_left : pages_with m (Live cache page) None ≡ ids.remove m (page_number cache.0 page.0)
  page_left =
      let at : page_number cache.0 page.0 + 0 ≡ page_number cache.0 page.0 = omega arith in
      λ i. ids.remove m (at i)

-- The tables

module _ (rows : List (Option CacheRow)) (few : AreShort rows) where
  -- the page of a name has this node
  pub tables_come : (m : Pages) (x : NodeName) (n : NodeId) → IsShort x → tables_by (pages_with m x (Some n)) 1 rows ≡ tables_with (tables_by m 1 rows) x (Some n)
  tables_come m (Working k) n short = refl
  tables_come m (Live cache page) n short =
      let k = page_number cache.0 page.0 in
      let here : ids.get (pages_with m (Live cache page) (Some n)) k ≡ Some n = ap (λ (p : Pages). ids.get p k) (page_come m cache page n) ∙ inserted_here m k n in
      tables_set m (pages_with m (Live cache page) (Some n)) cache.0 page.0 (Some n) short (λ i. record { node = here i })
      (λ q other. ap (λ (p : Pages). ids.get p q) (page_come m cache page n) ∙ inserted_other m k n q other) rows few

  -- the page of a name has no node
  pub tables_left : (m : Pages) (x : NodeName) → IsShort x → tables_by (pages_with m x None) 1 rows ≡ tables_with (tables_by m 1 rows) x None
  tables_left m (Working k) short = refl
  tables_left m (Live cache page) short =
      let k = page_number cache.0 page.0 in
      let here : ids.get (pages_with m (Live cache page) None) k ≡ None = ap (λ (p : Pages). ids.get p k) (page_left m cache page) ∙ removed_here m k in
      tables_set m (pages_with m (Live cache page) None) cache.0 page.0 None short (λ i. record { node = here i })
      (λ q other. ap (λ (p : Pages). ids.get p q) (page_left m cache page) ∙ removed_other m k q other) rows few

-- The calls that leave names

module _ (m : PageNodes) (c : CacheRows) (n : NodeId) where
  pub cell_by : nodes.cell m n ≡ arena.cell (arena_by m c) n
  unfolding arena.cell
  cell_by = refl

  pub on_cell_by : (f : Cell → Cell) → arena_by (nodes.on_cell m n f) c ≡ on.on_cell (arena_by m c) n f
  unfolding arena.put arena.cell
  on_cell_by f = refl

  pub on_cells_by : (f : ℕ → Cell → Cell) (count : ℕ) → arena_by (nodes.on_cells m n f count) c ≡ on.on_cells (arena_by m c) n f count
  unfolding arena.put arena.cell
  on_cells_by f zero = refl
  on_cells_by f (suc k) = ap (λ (b : Arena). on.on_cell b (next_node n k) (f k)) (on_cells_by f k)

  pub cut_by : (p : Option NodeId) (instead : Option NodeId) → arena_by (nodes.cut_from m p n instead) c ≡ on.cut_from (arena_by m c) p n instead
  unfolding arena.put arena.cell
  cut_by None instead = refl
  cut_by (Some p) instead = refl

pub leaf_by : (m : PageNodes) (c : CacheRows) (n : NodeId) (s : OwnState) → arena_by (nodes.leaf_renewed m n s) c ≡ on.leaf_renewed (arena_by m c) n s
unfolding arena.put arena.cell
leaf_by m c n s = cut_by (nodes.on_cell m n (renewed s)) c n (nodes.cell m n).links.parent None

-- The calls that change names

module _ (m : PageNodes) (c : CacheRows) (n : NodeId) (few : AreShort c.rows) where
  pub new_by : (x : NodeName) (s : OwnState) → IsShort x → arena_by (nodes.with_new m n x s) c ≡ arena.with_new (arena_by m c) n x s
  unfolding arena.with_new
  new_by x s short =
      let tables = tables_come c.rows few m.pages x n short in
      λ i. record (arena_by (nodes.with_new m n x s) c) { caches = tables i }

  pub without_by : IsShort (nodes.cell m n).name → arena_by (nodes.without m n) c ≡ arena.without (arena_by m c) n
  unfolding arena.without arena.cell
  without_by short =
      let tables = tables_left c.rows few m.pages (nodes.cell m n).name short in
      λ i. record (arena_by (nodes.without m n) c) { caches = tables i }

  pub as_working_by : IsShort (nodes.cell m n).name → arena_by (nodes.as_working m n) c ≡ arena.as_working (arena_by m c) n
  unfolding arena.put arena.cell
  as_working_by short =
      let tables = tables_left c.rows few m.pages (nodes.cell m n).name short in
      λ i. record (arena_by (nodes.as_working m n) c) { caches = tables i }

  pub exchanged_by : (o : NodeId) → IsShort (nodes.cell m n).name → IsShort (nodes.cell m o).name → arena_by (nodes.exchanged_names m n o) c ≡ on.exchanged_names (arena_by m c) n o
  unfolding arena.put arena.cell
  exchanged_by o short other_short =
      let x = (nodes.cell m n).name in
      let y = (nodes.cell m o).name in
      let tables =
      tables_come c.rows few (pages_with m.pages x (Some o)) y n other_short
      ∙ ap (λ (ts : List (Option Table)). tables_with ts y (Some n)) (tables_come c.rows few m.pages x o short) in
      λ i. record (arena_by (nodes.exchanged_names m n o) c) { caches = tables i }

pub replaced_by : (m : PageNodes) (c : CacheRows) (n new : NodeId) (s : OwnState) → AreShort c.rows → IsShort (nodes.cell m n).name
    → arena_by (nodes.with_new (nodes.as_working m n) new (nodes.cell m n).name s) c ≡ on.replaced (arena_by m c) n new s
unfolding arena.put arena.cell
replaced_by m c n new s few short =
    new_by (nodes.as_working m n) c new few (nodes.cell m n).name s short
    ∙ ap (λ (b : Arena). arena.with_new b new (nodes.cell m n).name s) (as_working_by m c n few short)
