-- What is asked of nodes of pages that are copied or retired at once: they are alike.
use Rattle.std.specs.Prelude.{◌≡◌, ℕ, ◌+◌, ◌-◌, ◌<◌, ◌≤◌, ◌^◌, ◌==◌, cond, Option, Some, None, slice_get}
use Rattle.vm_ids.specs.declared.command.Span.{Span}
use Rattle.vm_ids.specs.declared.numbers.NodeId.{NodeId}
use Rattle.vm_ids.specs.Forest.Laws.Commands.{CanCopy}
use Rattle.local_cache.specs.Arena.{Arena, cell, node_at}
use Rattle.local_cache.specs.Many.{AreAlike}
use Rattle.local_cache.specs.ManyNodes.{next_if, next_node}
use Rattle.local_cache.specs.OnCells.{AreInRow}
use Rattle.local_cache.specs.Reading.{forest_of}
use Rattle.local_cache.specs.Sound.{IsSound}
use Rattle.tree_merge.specs.Copying.{AreApart, AreEmpty, AreFree, IsLeafOf, pairs_left}

-- So many nodes, from d on, are alike, and have neither children nor own pages but zeros: each
-- hangs on the next node from the parent of the first one on, if that has one.
pub record AreLeaves (a : Arena) (d : NodeId) (count : ℕ) : Type 0 where
  pub alike : AreAlike a d count
  pub leaves : (k : ℕ) → k < count
      → IsLeafOf (next_if (cell a d).links.parent k) (cell a (next_node d k))
  pub empty : AreEmpty a d count
  pub short : d.0 + count ≤ 2 ^ 64

-- the tree child that is left once d is gone
abbrev pub history : NodeId → Option NodeId → Option NodeId
history d None = None
history d (Some child) = cond (child.0 == d.0) None (Some child)

-- the history of a source, once the node of the destination is gone
abbrev pub history_of : Arena → (d s : NodeId) → Option NodeId
history_of a d s = history d (slice_get (cell a s).tree 0)

-- So many nodes, from d on, may be as new, as copies of those from s on.
pub record AreCopyable (a : Arena) (d s : NodeId) (count : ℕ) : Type 0 where
  pub leaves : AreLeaves a d count
  pub row : AreInRow a s count
  pub apart : AreApart s d count
  pub short : s.0 + count ≤ 2 ^ 64
  pub free : AreFree (cell a d).links.parent (history_of a d s) d s count

-- So many pages of a span, behind those that are done, can be copied at once: d and s are the nodes
-- of the first of them and of its source.
pub record AreReady (a : Arena) (span : Span) (done : ℕ) (d s : NodeId) (count : ℕ) : Type 0 where
  pub sound : IsSound a
  pub can : CanCopy (forest_of a) (pairs_left span done)
  pub destination : node_at a span.to.0 (span.to_page.0 + done) ≡ Some d
  pub source : node_at a span.from.0 (span.from_page.0 + done) ≡ Some s
  pub few : count ≤ span.pages - done
  pub some : 0 < count
  pub copyable : AreCopyable a d s count
