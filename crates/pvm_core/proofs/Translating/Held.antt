-- Which addresses a region holds, and which pages begin there.
use Rattle.std.proofs.Common.{◌≡◌, ℕ, ◌+◌, ◌*◌, ◌<◌, ◌≤◌, Bool, true, false, refl, inl, inr, arith, mul_comm}
use Rattle.std.specs.Prelude.{nat_le, nat_lt, ◌&&◌}
use Rattle.std.specs.Int.{div_ceil}
use Rattle.std.proofs.Math.Nat.{lt_of_mul-lt-mul_left, mul-add}
use Rattle.std.proofs.lemmas.Bool.{cases_Bool}
use Rattle.std.proofs.lemmas.Bool.Decides.{nat_tests}
use Rattle.std.proofs.lemmas.Grind.{div_ceil_times}
use Rattle.vm_model.specs.Machine.{Region}
use Rattle.vm_model.specs.Place.{holds}
use Rattle.page_tables.specs.Entries.{is_between}

module _ (b address : ℕ) (q : Region) where
  pub held_parts : holds b address q ≡ true → (q.start ≤ address) × (address < q.start + b * q.pages)
  held_parts e = go (nat_le q.start address) (nat_lt address (q.start + b * q.pages)) refl refl e
    where
      go : (c d : Bool) → nat_le q.start address ≡ c → nat_lt address (q.start + b * q.pages) ≡ d → (c && d) ≡ true → (q.start ≤ address) × (address < q.start + b * q.pages)
      go true true x y k = (grind (arith, nat_tests), grind (arith, nat_tests))
      go true false x y k = absurd (cc k)
      go false d x y k = absurd (cc k)

  pub held_from : q.start ≤ address → address < q.start + b * q.pages → holds b address q ≡ true
  held_from low high =
      let x : nat_le q.start address ≡ true = grind (arith, nat_tests) in
      let y : nat_lt address (q.start + b * q.pages) ≡ true = grind (arith, nat_tests) in
      (λ i. x i && y i)

  pub held_not : (q.start ≤ address → address < q.start + b * q.pages → ⊥) → holds b address q ≡ false
  held_not none = elim (cases_Bool (holds b address q)) [
    | inl inside ↦ absurd (let p = held_parts inside in none p.0 p.1)
    | inr away ↦ away
  ]

-- a page that begins in a region is one of as many as the region has, from the first that begins
-- there on
pub page_between : (b page : ℕ) (q : Region) → 1 ≤ b → holds b (page * b) q ≡ true → is_between (div_ceil q.start b) q.pages page ≡ true
page_between b page q some e =
    let held = held_parts b (page * b) q e in
    let first : ℕ = div_ceil q.start b in
    let times = div_ceil_times q.start b (omega (arith, some)) in
    let turn : page * b ≡ b * page = mul_comm page b in
    let turned : first * b ≡ b * first = mul_comm first b in
    let next : b * (page + 1) ≡ b * page + b * 1 = mul-add b page 1 in
    let all : b * (first + q.pages) ≡ b * first + b * q.pages = mul-add b first q.pages in
    let low : first < page + 1 = lt_of_mul-lt-mul_left b (omega (arith, held, times, turn, turned, next)) in
    let high : page < first + q.pages = lt_of_mul-lt-mul_left b (omega (arith, held, times, turn, turned, all)) in
    let x : nat_le first page ≡ true = grind (arith, nat_tests) in
    let y : nat_lt page (first + q.pages) ≡ true = grind (arith, nat_tests) in
    (λ i. x i && y i)
