-- How far the stubs of a node have been handed to another.
use Rattle.std.specs.Prelude.{◌≡◌, List, Some}
use Rattle.vm_ids.specs.declared.numbers.NodeId.{NodeId}
use Rattle.local_cache.specs.Arena.{Arena, cell}
use Rattle.local_cache.specs.Sound.{◌∈◌}
use Rattle.local_cache.specs.Changes.{Relinked}

-- the nodes ys have `to` as their parent, and nothing else is changed
pub record Handed (a b : Arena) (ys : List NodeId) (to : NodeId) : Type 0 where
  pub relinked : Relinked a b
  pub room : b.room ≡ a.room
  pub done : (m : NodeId) → m ∈ ys → (cell b m).links ≡ record (cell a m).links { parent = Some to }
  pub rest : (m : NodeId) → (m ∈ ys → ⊥) → (cell b m).links ≡ (cell a m).links
