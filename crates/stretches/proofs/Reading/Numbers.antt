-- A number and one stretch.
use Rattle.std.proofs.Common.{◌≡◌, ℕ, zero, suc, ◌+◌, ◌<◌, ◌≤◌, Bool, true, false, ◌&&◌, leb, ltb, cond, List, [], ◌∷◌, length, get_or, Option, Some, None, refl, ap, inl, inr, arith}
use Rattle.std.proofs.lemmas.Bool.{cases_order, leb-true, ltb-true, lt-leb, le-ltb, le-leb, lt-ltb, and_parts, and_left, and_right, and_from}
use Rattle.stretches.specs.declared.stretch.Stretch.{Stretch}
use Rattle.stretches.specs.Stretch.{is_in, single}

module _ {V : Type 0} where
  -- which default is read doesn't matter within a list
  pub any_default : (rs : List (Stretch V)) (k : ℕ) (d e : Stretch V) → k < length rs → get_or rs k d ≡ get_or rs k e
  any_default [] k d e h = absurd (omega arith)
  any_default (r ∷ rs) zero d e h = refl
  any_default (r ∷ rs) (suc k) d e h = any_default rs k d e (omega arith)

  -- a number before a stretch or behind it is not in it, and one between its ends is
  pub out_before : (r : Stretch V) (n : ℕ) → n < r.first → is_in r n ≡ false
  out_before r n h = and_left _ _ (lt-leb r.first n h)

  pub out_behind : (r : Stretch V) (n : ℕ) → r.first + r.count ≤ n → is_in r n ≡ false
  out_behind r n h = and_right _ _ (le-ltb n (r.first + r.count) h)

  pub within : (r : Stretch V) (n : ℕ) → r.first ≤ n → n < r.first + r.count → is_in r n ≡ true
  within r n from to = and_from _ _ (le-leb r.first n from) (lt-ltb n (r.first + r.count) to)

  -- the ends of a stretch, from a number in it
  pub low : (r : Stretch V) (n : ℕ) → is_in r n ≡ true → r.first ≤ n
  low r n h = leb-true r.first n (and_parts (leb r.first n) (ltb n (r.first + r.count)) h).0

  pub high : (r : Stretch V) (n : ℕ) → is_in r n ≡ true → n < r.first + r.count
  high r n h = ltb-true n (r.first + r.count) (and_parts (leb r.first n) (ltb n (r.first + r.count)) h).1

  -- stretches of the same numbers have the same
  pub same_in : (x q : Stretch V) → x.first ≡ q.first → x.count ≡ q.count → (n : ℕ) → is_in x n ≡ is_in q n
  same_in x q first count n = λ i. leb (first i) n && ltb n (first i + count i)

  -- no other number is in a stretch of one
  pub out_single : (m : ℕ) (v : V) (n : ℕ) → (n ≡ m → ⊥) → is_in (single m v) n ≡ false
  out_single m v n ne = elim (cases_order n m) [
    | inl same ↦ absurd (ne same)
    | inr other ↦ elim other [ inl before ↦ out_before (single m v) n before | inr behind ↦ out_behind (single m v) n (omega arith) ]
  ]

  -- a choice by a known test
  pub chosen : (b : Bool) → b ≡ true → (p q : Option V) → cond b p q ≡ p
  chosen b e p q = ap (λ (c : Bool). cond c p q) e

  pub passed : (b : Bool) → b ≡ false → (p q : Option V) → cond b p q ≡ q
  passed b e p q = ap (λ (c : Bool). cond c p q) e

  -- something is said, or nothing
  pub none≢some : (x : V) → ◌≡◌ {A = Option V} None (Some x) → ⊥
  none≢some x e = absurd (cc)
