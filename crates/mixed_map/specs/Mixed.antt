-- Entries by number, some of which stretches tell.
use Rattle.std.specs.Prelude.{◌≡◌, ℕ, zero, suc, ◌+◌, ◌<◌, ◌≤◌, true, refl, List, [], ◌∷◌, IsSome, Some, None}
use Rattle.std.specs.Ordering.{nat_cmp}
use Rattle.std.specs.FinMap.{FinMap}
use Rattle.std.specs.FinMap as map
use Rattle.std.specs.Coded.{Coded, code_by, coded×, coded_ℕ, coded_list}
use Rattle.stretches.specs.declared.says.Says.{Ghosts}
use Rattle.stretches.specs.declared.stretch.Stretch.{Stretch}
use Rattle.stretches.specs.Stretch.{IsFit, is_in, value_at}
use Rattle.stretches.specs.Stretches.{Stretches, number_count, said}
use Rattle.mixed_map.specs.Lone.{Lone}

-- the entry of each number, the slot of each that stands alone, the stretches that the others are
-- in, how many entries there are, and for how many there is room
pub record Mixed (V S : Type 0) : Type 0 where
  pub cells : FinMap nat_cmp S
  pub slots : FinMap nat_cmp ℕ
  pub list : List (Stretch V)
  pub count : ℕ
  pub room : ℕ

-- a stretch is stored as the tuple of its fields
abbrev pub stretch_code : {V : Type 0} → Coded V → Coded (Stretch V)
stretch_code {V} code =
    code_by
    (ℕ × (ℕ × V))
    (coded× coded_ℕ (coded× coded_ℕ code))
    (λ r. (r.first, (r.count, r.value)))
    (λ p. record { first = p.0; count = p.1.0; value = p.1.1 })
    (λ _. refl)

-- so is what a contract sees
abbrev pub mixed_code : {V S : Type 0} → Coded V → Coded S → Coded (Mixed V S)
mixed_code {V} {S} value entry =
    code_by
    (FinMap nat_cmp S × (FinMap nat_cmp ℕ × (List (Stretch V) × (ℕ × ℕ))))
    (coded× (map.code coded_ℕ entry)
    (coded× (map.code coded_ℕ coded_ℕ)
    (coded× (coded_list (stretch_code value)) (coded× coded_ℕ coded_ℕ))))
    (λ m. (m.cells, (m.slots, (m.list, (m.count, m.room)))))
    (λ p. record {
      cells = p.0;
      slots = p.1.0;
      list = p.1.1.0;
      count = p.1.1.1.0;
      room = p.1.1.1.1;
    })
    (λ _. refl)

module _ {V S : Type 0} (G : Ghosts V) (told : V → S) where
  -- the map with the entries of the first numbers of a stretch, so many
  abbrev pub with_first : FinMap nat_cmp S → Stretch V → ℕ → FinMap nat_cmp S
  with_first m r zero = m
  with_first m r (suc k) = map.insert (with_first m r k) (r.first + k) (told (G.after r.value k))

  -- the map with the entries of all numbers of a stretch
  abbrev pub with_stretch : FinMap nat_cmp S → Stretch V → FinMap nat_cmp S
  with_stretch m r = with_first m r r.count

  -- the map with the entries of all numbers of stretches
  unfoldable pub with_told : FinMap nat_cmp S → List (Stretch V) → FinMap nat_cmp S
  with_told m [] = m
  with_told m (r ∷ rs) = with_stretch (with_told m rs) r

  -- the numbers of this stretch have the entries that it tells
  abbrev pub Tells : FinMap nat_cmp S → Stretch V → Type 0
  Tells m r = (n : ℕ) → is_in r n ≡ true → map.get m n ≡ Some (told (value_at G r n))

  -- this stretch begins at the number, and its numbers have the entries that it tells
  pub record IsStretchFrom (m : FinMap nat_cmp S) (n : ℕ) (r : Stretch V) : Type 0 where
    pub begins : r.first ≡ n
    pub fit : IsFit G r
    pub told_by : Tells m r

module _ {X : Type 0} where
  -- the map without so many numbers, from one on
  abbrev pub without_range : FinMap nat_cmp X → ℕ → ℕ → FinMap nat_cmp X
  without_range m first zero = m
  without_range m first (suc k) = map.remove (without_range m first k) (first + k)

module _ {V S : Type 0} where
  -- the map without the entries of all numbers of a stretch
  abbrev pub without_stretch : FinMap nat_cmp S → Stretch V → FinMap nat_cmp S
  without_stretch m r = without_range m r.first r.count

  -- so many numbers from one on stand alone
  abbrev pub AreAlone : Mixed V S → ℕ → ℕ → Type 0
  AreAlone m first count = (k : ℕ) → k < count → IsSome (map.get m.slots (first + k))

module _ {V S : Type 0} (G : Ghosts V) where
  -- no number stands both alone and in a stretch, each that has a slot has an entry there, and
  -- there are places for as many numbers as there is room for
  pub record IsMixed (lone : Lone S) (stretches : Stretches V) : Type 0 where
    pub apart : (n : ℕ) (v : V) → said G stretches.list n ≡ Some v → map.get lone.entries n ≡ None
    pub placed : (n : ℕ) → map.get lone.entries n ≡ None → map.get lone.slots n ≡ None
    pub places : lone.room ≤ stretches.places
    pub few : map.len lone.slots + number_count stretches.list ≤ lone.room
