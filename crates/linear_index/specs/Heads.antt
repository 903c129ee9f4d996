-- The first place of a bucket, in a number.
use Rattle.std.specs.Prelude.{◌≡◌, ℕ, ◌==◌, Bool, true, false, Option, Some, None, if◌then◌else◌, refl}
use Rattle.std.proofs.Common.{sym}
use Rattle.std.proofs.lemmas.Bool.{eqb-true}

-- the place that a number says, or none
abbrev pub place_by : ℕ → Option ℕ
place_by code = if code == 0xffff_ffff then None else Some code

-- the number that says this place, or none
abbrev pub code_of : Option ℕ → ℕ
code_of None = 0xffff_ffff
code_of (Some place) = place

-- the number comes back
pub code_back : (code : ℕ) → code_of (place_by code) ≡ code
code_back code = by_test (code == 0xffff_ffff) refl where
  by_test : (b : Bool) → (code == 0xffff_ffff) ≡ b
      → code_of (if b then None else Some code) ≡ code
  by_test true e = sym (eqb-true code 0xffff_ffff e)
  by_test false e = refl
