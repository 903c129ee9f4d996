-- Two caches that differ in links and lists alone.
use Rattle.std.specs.Prelude.{◌≡◌, List, [], ◌∷◌, is_some}
use Rattle.vm_ids.specs.declared.numbers.NodeId.{NodeId}
use Rattle.local_cache.specs.Arena.{Arena, cell, find}
use Rattle.local_cache.specs.Own.{own_of}
use Rattle.local_cache.specs.Reading.{name_of}
use Rattle.local_cache.specs.Sound.{◌∈◌}

-- the same nodes under the same names, and the same tables
pub record Like (a b : Arena) : Type 0 where
  pub held : (n : NodeId) → is_some (find b n) ≡ is_some (find a n)
  pub name : (n : NodeId) → name_of b n ≡ name_of a n
  pub caches : b.caches ≡ a.caches

-- links alone were changed
pub record Relinked (a b : Arena) : Type 0 where
  pub like : Like a b
  pub own : (n : NodeId) → (cell b n).own ≡ (cell a n).own
  pub tree : (n : NodeId) → (cell b n).tree ≡ (cell a n).tree
  pub made : a.made ≡ b.made
  pub copies : a.copies ≡ b.copies

-- links and lists alone were changed: nodes, names, tables, own states, counters and the spare room
-- stay
pub record Rehung (a b : Arena) : Type 0 where
  pub like : Like a b
  pub own : (n : NodeId) → own_of b n ≡ own_of a n
  pub made : b.made ≡ a.made
  pub copies : b.copies ≡ a.copies
  pub room : b.room ≡ a.room

-- no node stands twice
abbrev pub Once : List NodeId → Type 0
Once [] = Unit {0}
Once (x ∷ xs) = (x ∈ xs → ⊥) × Once xs
