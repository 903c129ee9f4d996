-- Many pages copied at once: what it needs, and which arena it leaves.
use Rattle.std.specs.Prelude.{◌≡◌, ◌≢◌, ℕ, ◌+◌, ◌-◌, ◌<◌, ◌≤◌, ◌^◌, List, [], ◌⊎◌, Option, Some, None, IfSome}
use Rattle.vm_ids.specs.declared.command.Span.{Span}
use Rattle.vm_ids.specs.declared.node_name.NodeName.{NodeName}
use Rattle.vm_ids.specs.declared.numbers.CacheId.{CacheId}
use Rattle.vm_ids.specs.declared.numbers.NodeId.{NodeId}
use Rattle.vm_ids.specs.declared.numbers.PageNo.{PageNo}
use Rattle.vm_ids.specs.Forest.Commands.{page_pairs}
use Rattle.local_cache.specs.declared.own_state.OwnState.{OwnState}
use Rattle.local_cache.specs.declared.own_state.OwnState.TheVariants.{Absent, Zero}
use Rattle.local_cache.specs.Arena.{Arena, Cell, cell, no_links}
use Rattle.local_cache.specs.Many.{AreNamed, HaveNone, hung_many, over_many}
use Rattle.local_cache.specs.ManyNodes.{next_if, next_node}
use Rattle.local_cache.specs.NodeCells.{exchanged, renewed, tree_of, with_child}
use Rattle.local_cache.specs.OnCells.{on_cells, working_over}
use Rattle.local_cache.specs.Own.{own_of}
use Rattle.local_cache.specs.Sound.{IsSound}

-- a node has neither parent nor children
pub record IsLone (c : Cell) : Type 0 where
  pub root : c.links.parent ≡ None
  pub tree : c.tree ≡ []
  pub stubs : c.links.stubs ≡ 0

-- a node has no children, and hangs on this parent by a tree link, or on none
pub record IsLeafOf (parent : Option NodeId) (c : Cell) : Type 0 where
  pub links : c.links ≡ record no_links { parent = parent }
  pub tree : c.tree ≡ []

-- a node is none of so many, from one on
abbrev pub IsBeside : NodeId → NodeId → ℕ → Type 0
IsBeside m n count = (k : ℕ) → k < count → m ≢ next_node n k

-- of so many nodes from one on, and so many from another one on, none is both
abbrev pub AreApart : NodeId → NodeId → ℕ → Type 0
AreApart n m count = (k : ℕ) → k < count → IsBeside (next_node n k) m count

-- so many nodes from one on are those from another one on, or none of these
abbrev pub AreSameOrApart : NodeId → NodeId → ℕ → Type 0
AreSameOrApart n m count = (n ≡ m) ⊎ AreApart n m count

-- an own page is none or zeros
abbrev pub IsEmpty : OwnState → Type 0
IsEmpty state = (state ≡ Absent) ⊎ (state ≡ Zero)

-- and so are those of so many nodes from one on
abbrev pub AreEmpty : Arena → NodeId → ℕ → Type 0
AreEmpty a n count = (k : ℕ) → k < count → IsEmpty (own_of a (next_node n k))

-- What is done to so many nodes, from d on, to those that they hang on, if any, to sources, from s
-- on, and to the histories of these, if any, may be done to all of them one kind after the other.
--     sources    the parents are the sources, or none of these
--     parents    and so it is with the histories
--     histories  no history is a source or one of the nodes
pub record AreFree (parent history : Option NodeId) (d s : NodeId) (count : ℕ) : Type 0 where
  pub sources : IfSome parent (λ p. AreSameOrApart p s count)
  pub parents : IfSome parent (λ p. IfSome history (λ h. AreSameOrApart p h count))
  pub histories : IfSome history (λ h. AreApart h s count × AreApart h d count)
  pub short : IfSome history (λ h. h.0 + count ≤ 2 ^ 64)

-- the arena in which so many nodes, from d on, aren't among the tree children of their parents, if
-- they have any
abbrev pub left_many : Arena → Option NodeId → (d : NodeId) → ℕ → Arena
left_many a None d count = a
left_many a (Some parent) d count =
    on_cells a parent (λ k. with_child (next_node d k) None) count

-- the arena in which they are as new, of this own state
abbrev pub renewed_many : Arena → Option NodeId → (d : NodeId) → OwnState → ℕ → Arena
renewed_many a parent d state count =
    on_cells (left_many a parent d count) d (λ _. renewed state) count

-- the arena in which each of so many nodes from n on has the next one as its only tree child
abbrev pub linked_one : Arena → (n child : NodeId) → ℕ → Arena
linked_one a n child count = hung_many (over_many a n child count) child n count

-- the arena with a new working node, from w on, over each two nodes, from two on, and under each
-- one from s on as its only tree child
abbrev pub put_between : Arena → (s w older newer : NodeId) → ℕ → Arena
put_between a s w older newer count =
    hung_many
    (hung_many (over_many (working_over a w s older newer count) s w count) newer w count)
    older w count

-- The arena in which each of so many nodes, from d on, is the only tree child of its source, or the
-- second one of a new working node, from w on, where the source has a history: that is the first
-- one.
abbrev pub linked_many : Arena → (history : Option NodeId) → (d s w : NodeId) → ℕ → Arena
linked_many a None d s w count = linked_one a s d count
linked_many a (Some history) d s w count = put_between a s w history d count

-- the arena in which nodes are as new, without own pages, and linked to their sources
abbrev pub copied_many : Arena → (parent history : Option NodeId) → (d s w : NodeId) → ℕ → Arena
copied_many a parent history d s w count =
    linked_many (renewed_many a parent d Absent count) history d s w count

-- So many pages, from to_page of one cache on, may become copies of as many of another cache.
--     leaves   their nodes, from d on, have no children, and hang on the parents
--     empty    and have no own pages but zeros
--     apart    none of them is that of a source, which are those from s on
--     trees    a source has its history as its only tree child, or none, but for the node
--     working  then there may be working nodes, from w on
pub record CanCopyMany (a : Arena) (parent history : Option NodeId) (d s w : NodeId)
    (to : CacheId) (to_page : PageNo) (from : CacheId) (from_page : PageNo) (count : ℕ)
    : Type 0 where
  pub sound : IsSound a
  pub destinations : AreNamed a d to to_page count
  pub leaves : (k : ℕ) → k < count → IsLeafOf (next_if parent k) (cell a (next_node d k))
  pub empty : AreEmpty a d count
  pub sources : AreNamed a s from from_page count
  pub apart : AreApart d s count
  pub trees : (k : ℕ) → k < count
      → exchanged (next_node d k) None (cell a (next_node s k)).tree
      ≡ tree_of (next_if history k) None
  pub free : AreFree parent history d s count
  pub working : IfSome history (λ _. HaveNone a w count × (count ≤ a.room.nodes))

-- the page so many pages behind another one
abbrev pub page_after : PageNo → ℕ → PageNo
page_after page k = record { 0 = page.0 + k }

-- so many pairs of a span, behind those that are done
abbrev pub span_pairs_after : Span → (done count : ℕ) → List (NodeName × NodeName)
span_pairs_after span done count =
    page_pairs span.from (span.from_page.0 + done) span.to (span.to_page.0 + done) count

-- the pairs of a span that are left
abbrev pub pairs_left : Span → ℕ → List (NodeName × NodeName)
pairs_left span done = span_pairs_after span done (span.pages - done)
