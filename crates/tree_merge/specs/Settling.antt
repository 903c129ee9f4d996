-- Many steps of settle at once: what it needs, which arena it leaves, and what holds then.
use Rattle.std.specs.Prelude.{◌≡◌, ℕ, zero, suc, ◌+◌, ◌<◌, ◌≤◌, ◌^◌, ◌⊎◌, [], ◌∷◌, Option, Some, None, IfSome}
use Rattle.vm_ids.specs.declared.numbers.NodeId.{NodeId}
use Rattle.local_cache.specs.Arena.{Arena, cell}
use Rattle.local_cache.specs.Many.{AreAlike, IsPlain, without_many}
use Rattle.local_cache.specs.ManyNodes.{next_if, next_node}
use Rattle.local_cache.specs.NodeCells.{inheriting, with_child}
use Rattle.local_cache.specs.OnCells.{on_cells}
use Rattle.local_cache.specs.Own.{own_of}
use Rattle.local_cache.specs.Sound.{IsSound}
use Rattle.local_cache.specs.Thin.{IsLeastThin}
use Rattle.tree_merge.specs.declared.released.Released.{Released}
use Rattle.tree_merge.specs.declared.released.Released.TheVariants.{Nothing}
use Rattle.tree_merge.specs.declared.step.Step.{Step}
use Rattle.tree_merge.specs.Copying.{AreApart}
use Rattle.tree_merge.specs.Releasing.{IsMerged, IsReleased}

-- so many nodes from w on, their children, from y on, and their parents, if any, are all different
pub record AreDifferent (w y : NodeId) (parent : Option NodeId) (count : ℕ) : Type 0 where
  pub children : AreApart y w count
  pub parents : IfSome parent (λ p. AreApart p w count)
  pub beside : IfSome parent (λ p. AreApart p y count)
  pub short : y.0 + count ≤ 2 ^ 64
  pub short_parents : IfSome parent (λ p. p.0 + count ≤ 2 ^ 64)

-- So many working nodes, from w on, of which the first is the least thin one, may give way at once:
-- they are alike, and each has a tree child alone, from y on.
pub record CanGiveMany (a : Arena) (w y : NodeId) (count : ℕ) : Type 0 where
  pub sound : IsSound a
  pub least : IsLeastThin a (Some w)
  pub alike : AreAlike a w count
  pub child : (cell a w).tree ≡ y ∷ []
  pub different : AreDifferent w y (cell a w).links.parent count

-- the arena in which children, from y on, come in the place of nodes, from w on, among the tree
-- children of their parents, if they have any
abbrev pub exchanged_many : Arena → (parent : Option NodeId) → (w y : NodeId) → ℕ → Arena
exchanged_many a None w y count = a
exchanged_many a (Some parent) w y count =
    on_cells a parent (λ k. with_child (next_node w k) (Some (next_node y k))) count

-- the arena in which the nodes gave way to their children
abbrev pub given_many : Arena → (parent : Option NodeId) → (w y : NodeId) → ℕ → Arena
given_many a parent w y count =
    without_many
    (on_cells (exchanged_many a parent w y count) y
    (λ k. inheriting (own_of a w) (next_if parent k)) count) w count

-- From a to b one step of settle was done, at a node whose own page is in no frame and no slot.
pub record IsMergedPlain (a b : Arena) : Type 0 where
  pub released : Released
  pub sound : IsSound a
  pub merged : IsMerged a b released
  pub plain : IsPlain (own_of a merged.node)

-- From a to b so many steps were, one after the other.
abbrev pub AreMergedPlain : (a b : Arena) → (count : ℕ) → Type 0
AreMergedPlain a b zero = b ≡ a
AreMergedPlain a b (suc k) = (c : Arena) × AreMergedPlain a c k × IsMergedPlain c b

-- From a to b some steps of settle were done: many, and nothing was released, or one.
pub record AreMerged (a b : Arena) (step : Step) : Type 0 where
  pub some : 0 < step.pages
  pub how : ((step.released ≡ Nothing) × AreMergedPlain a b step.pages)
      ⊎ ((step.pages ≡ 1) × IsMerged a b step.released × IsReleased a b step.released)
