-- What the crates above need of the caches, and keep.
use Rattle.std.specs.Prelude.{◌≡◌, ℕ, List, [], ◌∷◌, map, Some, ◌⊎◌}
use Rattle.vm_ids.specs.declared.numbers.CacheId.{CacheId}
use Rattle.vm_ids.specs.Forest.Commands.{make, page_names}
use Rattle.vm_ids.specs.Forest.Shape.{IsLinked}
use Rattle.vm_ids.specs.declared.node_name.NodeName.TheVariants.{Live}
use Rattle.vm_ids.specs.declared.numbers.NodeId.{NodeId}
use Rattle.local_cache.specs.declared.own_state.OwnState.{OwnState}
use Rattle.local_cache.specs.Arena.{Arena, cell, HasNode, node_at}
use Rattle.local_cache.specs.Reading.{name_of, forest_of, AreNamesApart}
use Rattle.local_cache.specs.Threads.{AreThreaded}

infix 50 ◌∈◌
-- n stands in the list
abbrev pub ◌∈◌ : NodeId → List NodeId → Type 0
x ∈ [] = ⊥
x ∈ (y ∷ ys) = (x ≡ y) ⊎ (x ∈ ys)

-- The tables have the node of each page that has one.
pub record IsListed (a : Arena) : Type 0 where
  pub nodes : (cache page : ℕ) (n : NodeId) → node_at a cache page ≡ Some n
      → HasNode a n × (name_of a n ≡ Live (record { 0 = cache }) (record { 0 = page }))
  pub pages : (cache page : ℕ) (n : NodeId) → HasNode a n
      → name_of a n ≡ Live (record { 0 = cache }) (record { 0 = page })
      → node_at a cache page ≡ Some n

-- What holds between the steps of a rule: the names are apart and counted, the tables have them,
-- parents and children are nodes, and the lists of stubs are threaded.
pub record IsKept (a : Arena) : Type 0 where
  pub named : AreNamesApart a
  pub listed : IsListed a
  pub parents : (n p : NodeId) → HasNode a n → (cell a n).links.parent ≡ Some p → HasNode a p
  pub children : (n m : NodeId) → HasNode a n → m ∈ (cell a n).tree → HasNode a m
  pub threaded : AreThreaded a

-- What holds before and after each rule: that, and the shape of the forest's links.
pub record IsSound (a : Arena) : Type 0 where
  pub kept : IsKept a
  pub linked : IsLinked (forest_of a)

-- Where the caches were sound, the forest has the pages of a new cache, each of one own state.
abbrev pub MakesPages : Arena → Arena → CacheId → ℕ → OwnState → Type 0
MakesPages old new cache pages own = IsSound old
    → forest_of new ≡ make (map (λ x. (x, own)) (page_names cache 0 pages)) (forest_of old)
