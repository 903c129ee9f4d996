-- What a row has at a number.
use Rattle.std.proofs.Common.{◌≡◌, ◌≢◌, ℕ, suc, zero, ◌+◌, ◌-◌, ◌<◌, ◌≤◌, Bool, true, false, cond, ltb, List, [], ◌∷◌, length, set, Option, Some, None, refl, sym, ap, ◌∙◌, arith, inl, inr}
use Rattle.std.specs.Prelude.{slice_get, option_and_then}
use Rattle.std.specs.Ordering.{nat_cmp, eq_by_cmp}
use Rattle.std.specs.Cmp.{nat_cmp_total}
use Rattle.std.specs.FinMap.{insert, get, get-empty, get-insert, same_map, nat_cmp-IsAntisymmetric}
use Rattle.std.proofs.lemmas.Bool.{cases_order, cases_lt, cond_below, cond_above}
use Rattle.std.proofs.lemmas.Bool.Decides.{nat_tests}
use Rattle.vm_port.specs.Rows.{from_row}

abbrev pub flat : {X : Type 0} → Option (Option X) → Option X
flat o = option_and_then (λ x. x) o

-- at this number the row has what the list has
pub at : {X : Type 0} → ℕ → List (Option X) → ℕ → Option X
at n xs k = cond (ltb k n) None (flat (slice_get xs (k - n)))

cond_none : {X : Type 0} (b : Bool) → ◌≡◌ {A = Option X} None (cond b None None)
cond_none true = refl
cond_none false = refl

eq_same : (k : ℕ) → eq_by_cmp nat_cmp k k ≡ true
eq_same k = grind (arith, nat_tests)

eq_other : (k n : ℕ) → k ≢ n → eq_by_cmp nat_cmp k n ≡ false
eq_other k n h = grind (arith, nat_tests)

pub at_below : {X : Type 0} (n : ℕ) (xs : List (Option X)) (k : ℕ) → k < n → at n xs k ≡ None
unfolding at
at_below n xs k h = sym (cond_below k n None (flat (slice_get xs (k - n))) h)

pub at_from : {X : Type 0} (n : ℕ) (xs : List (Option X)) (k : ℕ) → n ≤ k → at n xs k ≡ flat (slice_get xs (k - n))
unfolding at
at_from n xs k h = sym (cond_above k n None (flat (slice_get xs (k - n))) (flat (slice_get xs (k - n))) h refl)

step_above : {X : Type 0} (x : Option X) (xs : List (Option X)) (j m : ℕ) → m ≡ suc j → flat (slice_get xs j) ≡ flat (slice_get (x ∷ xs) m)
step_above x xs j m e = ap (λ (k : ℕ). flat (slice_get (x ∷ xs) k)) (sym e)

step_same : {X : Type 0} (x : Option X) (xs : List (Option X)) (m : ℕ) → m ≡ 0 → x ≡ flat (slice_get (x ∷ xs) m)
step_same x xs m e = ap (λ (k : ℕ). flat (slice_get (x ∷ xs) k)) (sym e)

-- one element more in front
step : {X : Type 0} (n : ℕ) (x : Option X) (xs : List (Option X)) (k : ℕ) → cond (eq_by_cmp nat_cmp k n) x (at (n + 1) xs k) ≡ at n (x ∷ xs) k
step n x xs k = elim (cases_order k n) [
  | inl e ↦ ap (λ (b : Bool). cond b x (at (n + 1) xs k)) (ap (λ (m : ℕ). eq_by_cmp nat_cmp k m) (sym e) ∙ eq_same k) ∙ step_same x xs (k - n) (omega arith) ∙ sym (at_from n (x ∷ xs) k (omega arith))
  | inr (inl h) ↦ ap (λ (b : Bool). cond b x (at (n + 1) xs k)) (eq_other k n (omega arith)) ∙ at_below (n + 1) xs k (omega arith) ∙ sym (at_below n (x ∷ xs) k h)
  | inr (inr h) ↦ ap (λ (b : Bool). cond b x (at (n + 1) xs k)) (eq_other k n (omega arith)) ∙ at_from (n + 1) xs k (omega arith) ∙ step_above x xs (k - (n + 1)) (k - n) (omega arith) ∙ sym (at_from n (x ∷ xs) k (omega arith))
]

-- where the element isn't there, its number has nothing behind it either
skip : {X : Type 0} (n : ℕ) (xs : List (Option X)) (k : ℕ) → at (n + 1) xs k ≡ cond (eq_by_cmp nat_cmp k n) None (at (n + 1) xs k)
skip n xs k = elim (cases_order k n) [
  | inl e ↦ at_below (n + 1) xs k (omega arith) ∙ sym (ap (λ (b : Bool). cond b None (at (n + 1) xs k)) (ap (λ (m : ℕ). eq_by_cmp nat_cmp k m) (sym e) ∙ eq_same k))
  | inr (inl h) ↦ sym (ap (λ (b : Bool). cond b None (at (n + 1) xs k)) (eq_other k n (omega arith)))
  | inr (inr h) ↦ sym (ap (λ (b : Bool). cond b None (at (n + 1) xs k)) (eq_other k n (omega arith)))
]

pub get_row : {X : Type 0} (n : ℕ) (xs : List (Option X)) (k : ℕ) → get (from_row n xs) k ≡ at n xs k
unfolding at
get_row n [] k = get-empty nat_cmp k ∙ cond_none (ltb k n)
get_row n (None ∷ xs) k = get_row (n + 1) xs k ∙ skip n xs k ∙ step n None xs k
get_row n (Some x ∷ xs) k = get-insert nat_cmp_total (from_row (n + 1) xs) n x k ∙ ap (cond (eq_by_cmp nat_cmp k n) (Some x)) (get_row (n + 1) xs k) ∙ step n (Some x) xs k

pub get_set_same : {X : Type 0} (xs : List X) (i : ℕ) (v : X) → i < length xs → Some v ≡ slice_get (set xs i v) i
get_set_same [] i v h = absurd (omega arith)
get_set_same (x ∷ xs) zero v h = refl
get_set_same (x ∷ xs) (suc i) v h = get_set_same xs i v (omega arith)

pub get_set_other : {X : Type 0} (xs : List X) (i j : ℕ) (v : X) → i ≢ j → slice_get xs j ≡ slice_get (set xs i v) j
get_set_other [] i j v h = refl
get_set_other (x ∷ xs) zero zero v h = absurd (h refl)
get_set_other (x ∷ xs) zero (suc j) v h = refl
get_set_other (x ∷ xs) (suc i) zero v h = refl
get_set_other (x ∷ xs) (suc i) (suc j) v h = get_set_other xs i j v (λ e. h (ap suc e))

elsewhere : {X : Type 0} (n : ℕ) (xs : List (Option X)) (i : ℕ) (v : Option X) (q : ℕ) → q ≢ n + i → at n xs q ≡ at n (set xs i v) q
elsewhere n xs i v q h = elim (cases_lt q n) [
  | inl b ↦ at_below n xs q b ∙ sym (at_below n (set xs i v) q b)
  | inr b ↦ at_from n xs q b ∙ ap flat (get_set_other xs i (q - n) v (λ e. h (omega arith))) ∙ sym (at_from n (set xs i v) q b)
]

set_at_key : {X : Type 0} (n : ℕ) (xs : List (Option X)) (i : ℕ) (v : X) (q : ℕ) → i < length xs → cond (eq_by_cmp nat_cmp q (n + i)) (Some v) (at n xs q) ≡ at n (set xs i (Some v)) q
set_at_key n xs i v q h = elim (cases_order q (n + i)) [
  | inl e ↦ ap (λ (b : Bool). cond b (Some v) (at n xs q)) (ap (λ (m : ℕ). eq_by_cmp nat_cmp q m) (sym e) ∙ eq_same q)
      ∙ ap flat (get_set_same xs i (Some v) h ∙ ap (slice_get (set xs i (Some v))) (let d : i ≡ q - n = omega arith in d)) ∙ sym (at_from n (set xs i (Some v)) q (omega arith))
  | inr o ↦ ap (λ (b : Bool). cond b (Some v) (at n xs q)) (eq_other q (n + i) (elim o [ inl h ↦ (λ e. absurd (omega arith)) | inr h ↦ (λ e. absurd (omega arith)) ]))
      ∙ elsewhere n xs i (Some v) q (elim o [ inl h ↦ (λ e. absurd (omega arith)) | inr h ↦ (λ e. absurd (omega arith)) ])
]

-- the row after an element was put
pub set_row : {X : Type 0} (n : ℕ) (xs : List (Option X)) (i : ℕ) (v : X) → i < length xs → insert (from_row n xs) (n + i) v ≡ from_row n (set xs i (Some v))
set_row n xs i v h = same_map nat_cmp_total nat_cmp-IsAntisymmetric _ _ (λ q.
    get-insert nat_cmp_total (from_row n xs) (n + i) v q ∙ ap (cond (eq_by_cmp nat_cmp q (n + i)) (Some v)) (get_row n xs q) ∙ set_at_key n xs i v q h ∙ sym (get_row n (set xs i (Some v)) q))
