-- Heaps of numbers at places, and what a contract sees of one.
use Rattle.std.specs.Prelude.{◌≡◌, ◌≢◌, ℕ, ◌+◌, ◌*◌, ◌<◌, ◌≤◌, refl, List, [], ◌∷◌, ◌++◌, length, Some, slice_index_or}
use Rattle.std.specs.Ordering.{nat_cmp}
use Rattle.std.specs.FinMap.{FinMap}
use Rattle.std.specs.FinMap as map
use Rattle.std.specs.Coded.{Coded, code_by, coded×, coded_ℕ}
use Rattle.least_heap.specs.declared.heap.Numbered.{Numbered}

-- the number at each place, and for how many places there is room
pub record Numbers : Type 0 where
  pub numbers : FinMap nat_cmp ℕ
  pub room : ℕ

-- it is stored as the pair of its fields
abbrev pub numbers_code : Coded Numbers
numbers_code =
    code_by (FinMap nat_cmp ℕ × ℕ) (coded× (map.code coded_ℕ coded_ℕ) coded_ℕ)
    (λ e. (e.numbers, e.room)) (λ p. record { numbers = p.0; room = p.1 }) (λ _. refl)

-- this is a number and its place, and no number is less
pub record IsLeast (m : FinMap nat_cmp ℕ) (first : Numbered) : Type 0 where
  pub there : map.get m first.place ≡ Some first.number
  pub least : (place number : ℕ) → map.get m place ≡ Some number → first.number ≤ number

-- the numbers of a heap, each at its place
unfoldable pub numbers_of : List Numbered → FinMap nat_cmp ℕ
numbers_of [] = map.empty
numbers_of (e ∷ es) = map.insert (numbers_of es) e.place e.number

-- the entry at an index
abbrev pub entry_at : List Numbered → ℕ → Numbered
entry_at heap i = slice_index_or heap i (record { number = 0; place = 0 })

-- the number at an index
abbrev pub number_at : List Numbered → ℕ → ℕ
number_at heap i = (entry_at heap i).number

-- the place of the number at an index
abbrev pub place_at : List Numbered → ℕ → ℕ
place_at heap i = (entry_at heap i).place

-- at which index the number of a place stands
abbrev pub stand_of : List ℕ → ℕ → ℕ
stand_of stands place = slice_index_or stands place 0

-- the heap has this number at this place
pub record IsAt (heap : List Numbered) (place number : ℕ) : Type 0 where
  pub index : ℕ
  pub within : index < length heap
  pub place_is : place_at heap index ≡ place
  pub number_is : number_at heap index ≡ number

-- both heaps have the same numbers at the same places
pub record SameNumbers (old new : List Numbered) : Type 0 where
  pub on : (place number : ℕ) → IsAt old place number → IsAt new place number
  pub back : (place number : ℕ) → IsAt new place number → IsAt old place number

-- the heap has a number at this place
abbrev pub HasPlace : List Numbered → ℕ → Type 0
HasPlace heap place = (number : ℕ) × IsAt heap place number

-- the second heap has the numbers of the first one but that of a place
pub record IsWithout (old new : List Numbered) (gone : ℕ) : Type 0 where
  pub on : (place number : ℕ) → place ≢ gone → IsAt old place number → IsAt new place number
  pub back : (place number : ℕ) → IsAt new place number
      → IsAt old place number × (place ≢ gone)

-- each number isn't less than the one above it
abbrev pub IsOrdered : List Numbered → Type 0
IsOrdered heap = (above i : ℕ) → 2 * above < i → i ≤ 2 * above + 2 → i < length heap
    → number_at heap above ≤ number_at heap i

-- each place of the heap is known to stand where it does
abbrev pub AreStanding : List Numbered → List ℕ → Type 0
AreStanding heap stands = (i : ℕ) → i < length heap
    → (place_at heap i < length stands) × (stand_of stands (place_at heap i) ≡ i)

-- a heap, and where the places stand in it
pub record IsHeap (heap : List Numbered) (stands : List ℕ) : Type 0 where
  pub ordered : IsOrdered heap
  pub standing : AreStanding heap stands

-- a heap but for one index: it isn't known yet where the place there stands
pub record IsOpen (heap : List Numbered) (stands : List ℕ) (index : ℕ) : Type 0 where
  pub within : index < length heap
  pub place : place_at heap index < length stands
  pub apart : (i : ℕ) → i < length heap → i ≢ index → place_at heap i ≢ place_at heap index
  pub standing : (i : ℕ) → i < length heap → i ≢ index
      → (place_at heap i < length stands) × (stand_of stands (place_at heap i) ≡ i)
  -- what is below the index isn't less than what is above it
  pub across : (above i : ℕ) → 2 * above < index → index ≤ 2 * above + 2 → 2 * index < i
      → i ≤ 2 * index + 2 → i < length heap → number_at heap above ≤ number_at heap i

-- the number at the index may be less than the one above it
pub record IsRising (heap : List Numbered) (stands : List ℕ) (index : ℕ) : Type 0 where
  pub open_at : IsOpen heap stands index
  pub ordered : (above i : ℕ) → 2 * above < i → i ≤ 2 * above + 2 → i < length heap → i ≢ index
      → number_at heap above ≤ number_at heap i

-- the number at the index may be greater than one below it
pub record IsSinking (heap : List Numbered) (stands : List ℕ) (index : ℕ) : Type 0 where
  pub open_at : IsOpen heap stands index
  pub ordered : (above i : ℕ) → 2 * above < i → i ≤ 2 * above + 2 → i < length heap
      → above ≢ index → number_at heap above ≤ number_at heap i

-- the number at the index may be less than the one above it, or greater than one below it
pub record IsRefilling (heap : List Numbered) (stands : List ℕ) (index : ℕ) : Type 0 where
  pub open_at : IsOpen heap stands index
  pub ordered : (above i : ℕ) → 2 * above < i → i ≤ 2 * above + 2 → i < length heap
      → above ≢ index → i ≢ index → number_at heap above ≤ number_at heap i

-- the second list begins with the first
abbrev pub Extends : List ℕ → List ℕ → Type 0
Extends old new = (more : List ℕ) × (new ≡ old ++ more)

-- the same, with memory for as many places as there is room for
pub record IsKept (heap : List Numbered) (stands : List ℕ) (room heap_limit stands_limit : ℕ)
    : Type 0 where
  pub heap_is : IsHeap heap stands
  pub few : length stands ≤ room
  pub heap_room : room ≤ heap_limit
  pub stands_room : room ≤ stands_limit
