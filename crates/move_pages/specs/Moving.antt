-- Many pages moved at once: what it needs, which arena it leaves, and what holds of that.
use Rattle.std.specs.Prelude.{◌≡◌, ℕ, ◌+◌, ◌≤◌, ◌⊎◌}
use Rattle.vm_ids.specs.declared.command.Span.{Span}
use Rattle.vm_ids.specs.declared.numbers.NodeId.{NodeId}
use Rattle.vm_ids.specs.Forest.Commands.{move_pages, span_pairs}
use Rattle.vm_ids.specs.Forest.Shape.{IsConsistent}
use Rattle.local_cache.specs.declared.own_state.OwnState.TheVariants.{Zero}
use Rattle.local_cache.specs.Arena.{Arena, cell}
use Rattle.local_cache.specs.Many.{AreNamed}
use Rattle.local_cache.specs.ManyNodes.{IsApart}
use Rattle.local_cache.specs.OnCells.{exchanged_many}
use Rattle.local_cache.specs.Reading.{forest_of}
use Rattle.local_cache.specs.Sound.{IsSound}
use Rattle.local_cache.specs.Whole.{SameCaches}
use Rattle.tree_merge.specs.declared.released.Released.TheVariants.{Nothing}
use Rattle.tree_merge.specs.declared.step.Step.{Step}
use Rattle.tree_merge.specs.Copyable.{AreLeaves}
use Rattle.tree_merge.specs.Copying.{page_after, renewed_many}
use Rattle.move_pages.specs.Moved.{AreMovedBare, IsMoved}

-- so many pages of a span, behind those that are done
abbrev pub part_of : Span → (done count : ℕ) → Span
part_of span done count = record {
  from = span.from;
  from_page = page_after span.from_page done;
  to = span.to;
  to_page = page_after span.to_page done;
  pages = count;
}

-- All pages of a span may be moved at once.
--     leaves  the nodes of the destination, from d on, are alike, and have neither children nor own
--             pages but zeros
--     apart   no page of the source, whose nodes are those from s on, is one of the destination
pub record CanMoveMany (a : Arena) (d s : NodeId) (span : Span) : Type 0 where
  pub sound : IsSound a
  pub consistent : IsConsistent (forest_of a)
  pub destinations : AreNamed a d span.to span.to_page span.pages
  pub leaves : AreLeaves a d span.pages
  pub sources : AreNamed a s span.from span.from_page span.pages
  pub apart : IsApart span

-- The arena in which so many nodes, from d on, are zeros as new, and have the names of those from s
-- on, which have theirs.
abbrev pub moved_many : Arena → (d s : NodeId) → (count : ℕ) → Arena
moved_many a d s count =
    exchanged_many (renewed_many a (cell a d).links.parent d Zero count) d s count

-- From a to b all pages of a span are moved, as by the rule, one after the other, and there is at
-- most one node more for each.
pub record AreMoved (a b : Arena) (span : Span) : Type 0 where
  pub forest : forest_of b ≡ move_pages Zero (span_pairs span) (forest_of a)
  pub sound : IsSound b
  pub consistent : IsConsistent (forest_of b)
  pub sizes : SameCaches a b
  pub room : a.room.nodes ≤ b.room.nodes + span.pages
  pub in_turn : AreMovedBare a b span.from span.from_page span.to span.to_page span.pages

-- And so many of them are, behind those that are done.
abbrev pub IsMovedAtOnce : (a b : Arena) → Span → (done count : ℕ) → Type 0
IsMovedAtOnce a b span done count = AreMoved a b (part_of span done count)

-- The pages of a step are moved: at once, so that nothing is released, or just one is.
abbrev pub IsMovedBy : (a b : Arena) → Span → (done : ℕ) → Step → Type 0
IsMovedBy a b span done step =
    (IsMovedAtOnce a b span done step.pages × (step.released ≡ Nothing))
    ⊎ ((step.pages ≡ 1)
    × IsMoved a b span.from (page_after span.from_page done) span.to
    (page_after span.to_page done) step.released)
