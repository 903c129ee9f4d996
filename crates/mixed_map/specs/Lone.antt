-- Entries by number, each in a place that an index knows.
use Rattle.std.specs.Prelude.{◌≡◌, ℕ, refl, List, [], ◌∷◌, Option, Some, None}
use Rattle.std.specs.Ordering.{nat_cmp}
use Rattle.std.specs.FinMap.{FinMap}
use Rattle.std.specs.FinMap as map
use Rattle.std.specs.Coded.{Coded, code_by, coded×, coded_ℕ}
use Rattle.slab.specs.Slab.{Slab, get, ContainsKey, slab_len}

-- the entry of each number, the slot of each, and for how many there is room
pub record Lone (S : Type 0) : Type 0 where
  pub entries : FinMap nat_cmp S
  pub slots : FinMap nat_cmp ℕ
  pub room : ℕ

-- it is stored as the tuple of its fields
abbrev pub lone_code : {S : Type 0} → Coded S → Coded (Lone S)
lone_code {S} code =
    code_by
    (FinMap nat_cmp S × (FinMap nat_cmp ℕ × ℕ))
    (coded× (map.code coded_ℕ code) (coded× (map.code coded_ℕ coded_ℕ) coded_ℕ))
    (λ l. (l.entries, (l.slots, l.room)))
    (λ p. record { entries = p.0; slots = p.1.0; room = p.1.1 })
    (λ _. refl)

module _ {S : Type 0} where
  -- what stands at a place, if one is given
  abbrev pub slot_at : Slab S → Option ℕ → Option S
  slot_at slots None = None
  slot_at slots (Some place) = get slots place

  -- the map with this at a number, or with nothing there
  abbrev pub written : FinMap nat_cmp S → ℕ → Option S → FinMap nat_cmp S
  written m n None = map.remove m n
  written m n (Some x) = map.insert m n x

  -- the entry of each number, by the numbers and their places
  unfoldable pub filled : Slab S → List (ℕ × ℕ) → FinMap nat_cmp S
  filled slots [] = map.empty
  filled slots (e ∷ es) = written (filled slots es) e.0 (get slots e.1)

  -- what is known of the places of numbers, and of the slab that has the entry at each place
  pub record IsKept (places : FinMap nat_cmp ℕ) (slots : Slab S) (room : ℕ) : Type 0 where
    pub within : (n place : ℕ) → map.get places n ≡ Some place → ContainsKey slots place
    pub once : (n m place : ℕ) → map.get places n ≡ Some place → map.get places m ≡ Some place
        → n ≡ m
    pub counted : map.len places ≡ slab_len slots
    pub exact : slots.capacity ≡ room
