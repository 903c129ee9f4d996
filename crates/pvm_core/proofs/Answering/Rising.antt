-- By how much a mapper's counts rose in one call.
use Rattle.std.proofs.Common.{◌≡◌, ℕ, suc, ◌+◌, ◌-◌, ◌<◌, ◌≤◌, Bool, true, false, cond, ap, arith, inl, inr}
use Rattle.std.specs.Prelude.{nat_lt}
use Rattle.std.proofs.lemmas.Bool.{cases_lt}
use Rattle.std.proofs.lemmas.Bool.Decides.{nat_tests}
use Rattle.vm_ids.specs.Counting.{MapperCounts, Rise, Rose, RoseBy, last_count}
use Rattle.residency.specs.Causes.{Later}
use Rattle.residency.specs.Pushing.{RoseAtLeast}

-- the difference, or more than n besides where the count stands still at its last number
unfoldable pub grown : ℕ → ℕ → ℕ → ℕ
grown n before now = cond (nat_lt now last_count) (now - before) (suc (now - before + n))

is_below : (n : ℕ) → n < last_count → nat_lt n last_count ≡ true
is_below n e = grind (arith, nat_tests)

not_below : (n : ℕ) → last_count ≤ n → nat_lt n last_count ≡ false
not_below n e = grind (arith, nat_tests)

grown_below : (n before now : ℕ) → now < last_count → grown n before now ≡ now - before
unfolding grown
grown_below n before now e = ap (λ (b : Bool). cond b (now - before) (suc (now - before + n))) (is_below now e)

grown_past : (n before now : ℕ) → last_count ≤ now → grown n before now ≡ suc (now - before + n)
unfolding grown
grown_past n before now e = ap (λ (b : Bool). cond b (now - before) (suc (now - before + n))) (not_below now e)

pub grown_by : (n before now : ℕ) → before ≤ now → RoseBy (grown n before now) before now
grown_by n before now later below = omega (arith, later, grown_below n before now below)

pub grown_some : (n before now : ℕ) → Rose before now → 0 < grown n before now
grown_some n before now rose = elim (cases_lt now last_count) [
  | inl below ↦ omega (arith, rose below, grown_below n before now below)
  | inr past ↦ omega (arith, grown_past n before now past)
]

-- it is no less than n where the count rose by that or more
pub grown_least : (n before now : ℕ) → RoseAtLeast n before now → n ≤ grown n before now
grown_least n before now rose = elim (cases_lt now last_count) [
  | inl below ↦ omega (arith, rose below, grown_below n before now below)
  | inr past ↦ omega (arith, grown_past n before now past)
]

-- by how much the counts rose while there were n pushes or more
abbrev pub rises_between : ℕ → MapperCounts → MapperCounts → MapperCounts
rises_between n c d = record { faults = grown n c.faults d.faults; pulls = grown n c.pulls d.pulls; pushes = grown n c.pushes d.pushes }

pub rise_between : (n : ℕ) (c d : MapperCounts) → Later c d → Rise c d (rises_between n c d)
rise_between n c d later = record {
  faults_later = later.faults;
  pulls_later = later.pulls;
  pushes_later = later.pushes;
  faults = λ below. omega (arith, later.faults, grown_below n c.faults d.faults below);
  pulls = grown_by n c.pulls d.pulls later.pulls;
  pushes = grown_by n c.pushes d.pushes later.pushes;
}
