-- A list of stretches, and what it says of numbers.
use Rattle.std.specs.Prelude.{◌≡◌, ℕ, ◌+◌, ◌≤◌, ◌<◌, ◌^◌, true, if◌then◌else◌, List, [], ◌∷◌, length, slice_index_or, Option, Some, None}
use Rattle.stretches.specs.declared.says.Says.{Ghosts}
use Rattle.stretches.specs.declared.stretch.Stretch.{Stretch}
use Rattle.stretches.specs.Stretch.{Continues, IsFit, is_in, value_at}

-- what a contract sees: the stretches in the order of their numbers, and for how many memory is
-- there
pub record Stretches (V : Type 0) : Type 0 where
  pub list : List (Stretch V)
  pub places : ℕ

module _ {V : Type 0} where
  -- how many numbers the stretches have together
  abbrev pub number_count : List (Stretch V) → ℕ
  number_count [] = 0
  number_count (r ∷ rs) = r.count + number_count rs

  -- there are as many places as numbers, so that there is one more wherever a stretch can be split
  abbrev pub HasPlaces : Stretches V → Type 0
  HasPlaces l = number_count l.list ≤ l.places

  -- the numbers from this one on, so many, are in one stretch
  pub record AreTogether (rs : List (Stretch V)) (first count : ℕ) : Type 0 where
    pub at : ℕ
    pub within : at < length rs
    pub from : (d : Stretch V) → (slice_index_or rs at d).first ≤ first
    pub to : (d : Stretch V) → let r = slice_index_or rs at d in first + count ≤ r.first + r.count

  -- some stretch begins at the number
  pub record BeginsAt (rs : List (Stretch V)) (n : ℕ) : Type 0 where
    pub at : ℕ
    pub within : at < length rs
    pub begins : (d : Stretch V) → (slice_index_or rs at d).first ≡ n

module _ {V : Type 0} (S : Ghosts V) where
  -- what the stretches say of a number, or nothing where it is in none
  abbrev pub said : List (Stretch V) → ℕ → Option V
  said [] n = None
  said (r ∷ rs) n = if is_in r n then Some (value_at S r n) else said rs n

  -- from a number on, fit stretches in the order of their numbers, of which no two share one
  abbrev pub AreInOrder : ℕ → List (Stretch V) → Type 0
  AreInOrder from [] = Unit {0}
  AreInOrder from (r ∷ rs) = (from ≤ r.first) × IsFit S r × AreInOrder (r.first + r.count) rs

  -- the stretches say of the numbers of a stretch what this says
  abbrev pub SayAs : List (Stretch V) → Stretch V → Type 0
  SayAs rs r = (n : ℕ) → is_in r n ≡ true → said rs n ≡ Some (value_at S r n)

  -- this stretch has the number, and the stretches say what it says
  pub record IsStretchWith (rs : List (Stretch V)) (n : ℕ) (r : Stretch V) : Type 0 where
    pub fit : IsFit S r
    pub has : is_in r n ≡ true
    pub said : SayAs rs r

  -- this stretch begins at the number, and the stretches say what it says
  pub record IsStretchFrom (rs : List (Stretch V)) (n : ℕ) (r : Stretch V) : Type 0 where
    pub begins : r.first ≡ n
    pub fit : IsFit S r
    pub said : SayAs rs r

  -- the first stretch with a number at this one or behind it, from this number on
  pub record IsNextFrom (rs : List (Stretch V)) (n : ℕ) (r : Stretch V) : Type 0 where
    pub from : n ≤ r.first
    pub none : (m : ℕ) → n ≤ m → m < r.first → said rs m ≡ None
    pub fit : IsFit S r
    pub said : SayAs rs r

  -- the stretch that begins at the number continues the one before it, and both can be counted
  -- together
  pub record MeetAt (rs : List (Stretch V)) (n : ℕ) : Type 0 where
    pub at : ℕ
    pub within : at + 1 < length rs
    pub begins : (d : Stretch V) → (slice_index_or rs (at + 1) d).first ≡ n
    pub continues : (d : Stretch V) →
        Continues S (slice_index_or rs at d) (slice_index_or rs (at + 1) d)
    pub few : (d : Stretch V) →
        (slice_index_or rs at d).count + (slice_index_or rs (at + 1) d).count < 2 ^ 32
