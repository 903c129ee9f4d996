-- One stretch of numbers, and what it says of each.
use Rattle.std.specs.Prelude.{◌≡◌, ℕ, ◌+◌, ◌-◌, ◌<◌, ◌^◌, Bool, ◌&&◌, nat_le, nat_lt}
use Rattle.stretches.specs.declared.says.Says.{Ghosts}
use Rattle.stretches.specs.declared.stretch.Stretch.{Stretch}

module _ {V : Type 0} where
  -- the number is one of the stretch's
  abbrev pub is_in : Stretch V → ℕ → Bool
  is_in r n = nat_le r.first n && nat_lt n (r.first + r.count)

  -- the first numbers of a stretch, so many
  abbrev pub front : Stretch V → ℕ → Stretch V
  front r by = record r { count = by }

  -- a stretch of one number, of which it says this
  abbrev pub single : ℕ → V → Stretch V
  single n v = record { first = n; count = 1; value = v }

module _ {V : Type 0} (S : Ghosts V) where
  -- what a stretch says of one of its numbers
  abbrev pub value_at : Stretch V → ℕ → V
  value_at r n = S.after r.value (n - r.first)

  -- a stretch has a number, its end fits a u64, and its value lasts to the end
  pub record IsFit (r : Stretch V) : Type 0 where
    pub some : 0 < r.count
    pub short : r.count < 2 ^ 32
    pub ends : r.first + r.count < 2 ^ 64
    pub lasts : S.lasts r.value r.count

  -- as many numbers as a stretch has, so many further on
  abbrev pub shifted : Stretch V → ℕ → Stretch V
  shifted r by = record { first = r.first + by; count = r.count; value = S.after r.value by }

  -- the numbers of a stretch but for the first ones, so many
  abbrev pub behind : Stretch V → ℕ → Stretch V
  behind r by = record (shifted r by) { count = r.count - by }

  -- a stretch begins where another ends, and says of its numbers what that would
  abbrev pub Continues : Stretch V → Stretch V → Type 0
  Continues a b = b ≡ record (shifted a a.count) { count = b.count }
