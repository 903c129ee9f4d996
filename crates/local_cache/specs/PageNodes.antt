-- What a contract sees of the page nodes: their cells by number, and the nodes of pages. Each call
-- is one equation on these two maps.
use Rattle.std.specs.Prelude.{◌≡◌, ◌≢◌, ◌↔◌, ℕ, ◌+◌, ◌-◌, ◌<◌, ◌^◌, [], Bool, false, Option, Some, None, ◌&&◌, not}
use Rattle.std.specs.FinMap as ids
use Rattle.vm_ids.specs.declared.node_name.NodeName.{NodeName}
use Rattle.vm_ids.specs.declared.node_name.NodeName.TheVariants.{Live, Working}
use Rattle.vm_ids.specs.declared.numbers.CacheId.{CacheId}
use Rattle.vm_ids.specs.declared.numbers.NodeId.{NodeId}
use Rattle.local_cache.specs.declared.own_state.OwnState.{OwnState}
use Rattle.local_cache.specs.declared.runs.run.Run.{Run}
use Rattle.local_cache.specs.declared.runs.run.RunName.TheVariants.{Working as WorkingRun}
use Rattle.local_cache.specs.Arena.{Cell, new_cell}
use Rattle.local_cache.specs.ManyNodes.{each, next_node}
use Rattle.local_cache.specs.NodeCells.{Cells, HasCell, HaveCells, cell_at, changed, changed_each, inheriting, named, renewed, run_cell, with_child}
use Rattle.local_cache.specs.NodeKeys.{key_at, page_key, page_number}
use Rattle.local_cache.specs.Own.{is_absent}
use Rattle.local_cache.specs.Pages.{Pages, pages_with, with_pages}
use Rattle.local_cache.specs.Runs.{run_after}

-- the nodes by number, the node of each page by the number of the page among those of all caches,
-- how many working names were given, and how many more nodes fit before memory is taken
pub record PageNodes : Type 0 where
  pub cells : Cells
  pub pages : Pages
  pub made : ℕ
  pub room : ℕ

abbrev pub find : PageNodes → NodeId → Option Cell
find m n = ids.get m.cells n.0

abbrev pub HasNode : PageNodes → NodeId → Type 0
HasNode m n = HasCell m.cells n.0

abbrev pub HaveNodes : PageNodes → NodeId → ℕ → Type 0
HaveNodes m n count = HaveCells m.cells n.0 count

-- none of so many nodes from one on is there
abbrev pub HaveNone : PageNodes → NodeId → ℕ → Type 0
HaveNone m n count = (k : ℕ) → k < count → find m (next_node n k) ≡ None

-- the node, or a blank one
abbrev pub cell : PageNodes → NodeId → Cell
cell m n = cell_at m.cells n.0

-- the node of a page of a cache
abbrev pub node_at : PageNodes → ℕ → ℕ → Option NodeId
node_at m cache page = ids.get m.pages (page_number cache page)

-- the page of a number has a node exactly where that is named by this page
abbrev pub ArePaged : Cells → Pages → Type 0
ArePaged cells pages =
    (k n : ℕ) → (ids.get pages k ≡ Some (record { 0 = n })) ↔ (key_at page_key cells n ≡ Some k)

-- Changes that leave names

-- each cell keeps its name
abbrev pub KeepsNames : (Cell → Cell) → Type 0
KeepsNames change = (c : Cell) → (change c).name ≡ c.name

abbrev pub on_cell : PageNodes → NodeId → (Cell → Cell) → PageNodes
on_cell m n change = record m { cells = changed m.cells n.0 change }

-- the same of each of so many nodes, from one on
abbrev pub on_cells : PageNodes → NodeId → (ℕ → Cell → Cell) → ℕ → PageNodes
on_cells m n change count = record m { cells = changed_each m.cells n.0 change count }

-- the node without its place among the tree children of its parent, if it has one
abbrev pub cut_from : PageNodes → Option NodeId → NodeId → Option NodeId → PageNodes
cut_from m None n instead = m
cut_from m (Some p) n instead = on_cell m p (with_child n instead)

-- nothing hangs on it, and it hangs by no stub link
pub record IsFreeLeaf (c : Cell) : Type 0 where
  pub tree : c.tree ≡ []
  pub stubs : c.links.first ≡ None
  pub by_stub : c.links.by_stub ≡ false

-- the node of this own state, without parent and children, and not among those of its parent
abbrev pub leaf_renewed : PageNodes → NodeId → OwnState → PageNodes
leaf_renewed m n s = cut_from (on_cell m n (renewed s)) (cell m n).links.parent n None

-- Nodes under other names

-- the node under another name, in the pages too
abbrev pub with_name : PageNodes → NodeId → NodeName → PageNodes
with_name m n x = record (on_cell m n (named x)) {
  pages = pages_with (pages_with m.pages (cell m n).name None) x (Some n);
}

-- the node under the next working name
abbrev pub as_working : PageNodes → NodeId → PageNodes
as_working m n = record (with_name m n (Working (m.made + 1))) { made = m.made + 1 }

abbrev pub as_working_many : PageNodes → NodeId → ℕ → PageNodes
as_working_many m n count = each (λ k p. as_working p (next_node n k)) count m

-- both nodes under each other's names
abbrev pub exchanged_names : PageNodes → NodeId → NodeId → PageNodes
exchanged_names m n o =
    record (on_cell (on_cell m n (named (cell m o).name)) o (named (cell m n).name)) {
      pages = with_pages (with_pages m.pages (cell m n).name o 1) (cell m o).name n 1;
    }

abbrev pub exchanged_many : PageNodes → NodeId → NodeId → ℕ → PageNodes
exchanged_many m n o count =
    each (λ k p. exchanged_names p (next_node n k) (next_node o k)) count m

-- so many nodes from one on are those of pages of one cache that follow one another
pub record AreNamedFrom (m : PageNodes) (n : NodeId) (count : ℕ) : Type 0 where
  pub cache : CacheId
  pub page : ℕ
  pub few : page + count < 2 ^ 32
  pub held : HaveNodes m n count
  pub named : (k : ℕ) → k < count
      → (cell m (next_node n k)).name ≡ Live cache (record { 0 = page + k })

-- none of so many nodes from one on is one of so many from another one on
abbrev pub AreApart : NodeId → NodeId → ℕ → Type 0
AreApart n o count =
    (i j : ℕ) → i < count → j < count → n.0 + i ≢ o.0 + j

-- so many cells from one on under the name and the next ones of a page
abbrev pub name_behind : NodeName → ℕ → NodeName
name_behind (Live cache page) k = Live cache (record { 0 = page.0 + k })
name_behind (Working number) k = Working (number + k)

abbrev pub renamed_each : Cells → ℕ → NodeName → ℕ → Cells
renamed_each m first x count = changed_each m first (λ k. named (name_behind x k)) count

-- the pages without those by which so many nodes are named, from one on
abbrev pub without_names : Pages → Cells → ℕ → ℕ → Pages
without_names pages cells first count =
    each (λ k p. pages_with p (cell_at cells (first + k)).name None) count pages

-- Nodes that come and go

-- a new node at a number, in the pages too
abbrev pub with_new : PageNodes → NodeId → NodeName → OwnState → PageNodes
with_new m n x s = record m {
  cells = ids.insert m.cells n.0 (new_cell x s);
  pages = pages_with m.pages x (Some n);
  room = m.room - 1;
}

-- the first node of each of so many pages of a cache, under the number of its page
abbrev pub made_first : PageNodes → CacheId → OwnState → ℕ → PageNodes
made_first m cache s count =
    each (λ k p. with_new p (record { 0 = page_number cache.0 k })
    (Live cache (record { 0 = k })) s) count m

-- so many new working nodes under the next names, from one node on, of which a run says this, but
-- for their names
abbrev pub made_working : PageNodes → NodeId → Run → ℕ → PageNodes
made_working m n r count = record m {
  cells = each
      (λ k cs. ids.insert cs (n.0 + k)
      (run_cell (run_after (record r { name = WorkingRun (m.made + 1) }) k))) count m.cells;
  made = m.made + count;
  room = m.room - count;
}

-- the nodes without this one, whose place is given back
abbrev pub without : PageNodes → NodeId → PageNodes
without m n = record m {
  cells = ids.remove m.cells n.0;
  pages = pages_with m.pages (cell m n).name None;
  room = m.room + 1;
}

abbrev pub without_many : PageNodes → NodeId → ℕ → PageNodes
without_many m n count = each (λ k p. without p (next_node n k)) count m

-- the child gets the own page of a node that gives way to it
abbrev pub passes : PageNodes → NodeId → NodeId → Bool
passes m n child = not (is_absent (cell m n).own) && is_absent (cell m child).own

-- the child in the place of a node, which is gone
abbrev pub given_way : PageNodes → NodeId → NodeId → PageNodes
given_way m n child =
    without
    (on_cell (cut_from m (cell m n).links.parent n (Some child)) child
    (inheriting (cell m n).own (cell m n).links.parent)) n
