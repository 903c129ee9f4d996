-- The working nodes with fewer than two children, which settle takes away.
use Rattle.std.specs.Prelude.{◌≡◌, ℕ, ◌+◌, ◌≤◌, Bool, true, false, ltb, length, Option, Some, None}
use Rattle.vm_ids.specs.declared.node_name.NodeName.{NodeName}
use Rattle.vm_ids.specs.declared.node_name.NodeName.TheVariants.{Live, Working}
use Rattle.vm_ids.specs.declared.numbers.NodeId.{NodeId}
use Rattle.local_cache.specs.Arena.{Arena, Cell, cell, HasNode}

-- fewer than two children, tree children and stubs together
abbrev pub has_few : Cell → Bool
has_few c = ltb (length c.tree + c.links.stubs) 2

-- the number of a working node of which something is true
abbrev pub number_if : NodeName → Bool → Option ℕ
number_if (Working k) true = Some k
number_if (Working k) false = None
number_if (Live c p) b = None

-- the number of a thin node
abbrev pub thin_number : Cell → Option ℕ
thin_number c = number_if c.name (has_few c)

-- n is the working node of this number, and has fewer than two children
pub record IsThin (a : Arena) (n : NodeId) (number : ℕ) : Type 0 where
  pub held : HasNode a n
  pub name : (cell a n).name ≡ Working number
  pub few : has_few (cell a n) ≡ true

-- the thin node with the least number, or none exactly where no node is thin
abbrev pub IsLeastThin : Arena → Option NodeId → Type 0
IsLeastThin a None = (n : NodeId) (number : ℕ) → IsThin a n number → ⊥
IsLeastThin a (Some n) =
    (number : ℕ) × IsThin a n number
    × ((m : NodeId) (other : ℕ) → IsThin a m other → number ≤ other)
