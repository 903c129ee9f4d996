-- Finite maps by number.
use Rattle.std.proofs.Common.{◌≡◌, ◌≢◌, ℕ, zero, suc, ◌+◌, ◌-◌, ◌<◌, ◌≤◌, add-zero, add-suc, true, false, cond, Option, Some, None, refl, sym, ap, ◌∙◌, inl, inr, arith}
use Rattle.std.specs.Prelude.{is_some, IfNone, IsSome}
use Rattle.std.proofs.lemmas.Bool.{cases_eq, cond-true, cond-false, eq-eqb, ne_eqb}
use Rattle.std.specs.Ordering.{nat_cmp, eq_by_cmp}
use Rattle.std.specs.Cmp.{nat_cmp_total, unsigned_tied}
use Rattle.std.specs.FinMap.{FinMap, empty_of_len, get-empty, get-insert, get-remove, len-insert, len-remove, nat_cmp-IsAntisymmetric, same_map}
use Rattle.std.specs.FinMap as map
use Rattle.mixed_map.specs.Mixed.{without_range}

pub tied : (a b : ℕ) → a ≡ b → eq_by_cmp nat_cmp a b ≡ true
tied a b e = unsigned_tied a b ∙ eq-eqb a b e

pub untied : (a b : ℕ) → a ≢ b → eq_by_cmp nat_cmp a b ≡ false
untied a b h = unsigned_tied a b ∙ ne_eqb a b h

module _ {X : Type 0} where
  pub same : (m n : FinMap nat_cmp X) → ((q : ℕ) → map.get m q ≡ map.get n q) → m ≡ n
  same m n h = same_map nat_cmp_total nat_cmp-IsAntisymmetric m n h

  pub insert_same : (m : FinMap nat_cmp X) (k : ℕ) (v : X) (q : ℕ) → q ≡ k → map.get (map.insert m k v) q ≡ Some v
  insert_same m k v q e = get-insert nat_cmp_total m k v q ∙ cond-true _ _ _ (tied q k e)

  pub insert_other : (m : FinMap nat_cmp X) (k : ℕ) (v : X) (q : ℕ) → q ≢ k → map.get (map.insert m k v) q ≡ map.get m q
  insert_other m k v q h = get-insert nat_cmp_total m k v q ∙ cond-false _ _ _ (untied q k h)

  pub remove_same : (m : FinMap nat_cmp X) (k q : ℕ) → q ≡ k → map.get (map.remove m k) q ≡ None
  remove_same m k q e = get-remove nat_cmp_total m k q ∙ cond-true _ _ _ (tied q k e)

  pub remove_other : (m : FinMap nat_cmp X) (k q : ℕ) → q ≢ k → map.get (map.remove m k) q ≡ map.get m q
  remove_other m k q h = get-remove nat_cmp_total m k q ∙ cond-false _ _ _ (untied q k h)

  pub len_more : (m : FinMap nat_cmp X) (k : ℕ) (v : X) → map.get m k ≡ None → map.len (map.insert m k v) ≡ map.len m + 1
  len_more m k v none = len-insert nat_cmp_total m k v ∙ ap (λ (o : Option X). cond (is_some o) (map.len m) (map.len m + 1)) none

  pub len_less : (m : FinMap nat_cmp X) (k : ℕ) (v : X) → map.get m k ≡ Some v → map.len (map.remove m k) ≡ map.len m - 1
  len_less m k v is = len-remove nat_cmp_total m k ∙ ap (λ (o : Option X). cond (is_some o) (map.len m - 1) (map.len m)) is

  -- a map with a number isn't empty
  pub len_some : (m : FinMap nat_cmp X) (k : ℕ) (v : X) → map.get m k ≡ Some v → 0 < map.len m
  len_some m k v is = elim (cases_eq (map.len m) 0) [
    | inl none ↦ (let gone : map.get m k ≡ None = ap (λ (n : FinMap nat_cmp X). map.get n k) (empty_of_len m none) ∙ get-empty nat_cmp k in absurd (cc))
    | inr other ↦ omega arith
  ]

  pub insert_removed : (m : FinMap nat_cmp X) (k : ℕ) (v : X) → map.insert (map.remove m k) k v ≡ map.insert m k v
  insert_removed m k v = same _ _ (λ q. elim (cases_eq q k) [
    | inl at ↦ insert_same _ k v q at ∙ sym (insert_same m k v q at)
    | inr other ↦ insert_other _ k v q other ∙ remove_other m k q other ∙ sym (insert_other m k v q other)
  ])

  pub not_some : (o : Option X) → (IsSome o → false ≡ true) → o ≡ None
  not_some None h = refl
  not_some (Some x) h = (let never : false ≡ true = h refl in absurd (cc))

  pub is_not_none : (o : Option X) → IsSome o → o ≢ None
  is_not_none o some e = (let never : is_some o ≡ false = ap is_some e in absurd (cc))

  -- ranges one behind the other are one
  pub range_more : (m : FinMap nat_cmp X) (first a b : ℕ) → without_range (without_range m first a) (first + a) b ≡ without_range m first (a + b)
  range_more m first a zero = ap (without_range m first) (sym (add-zero a))
  range_more m first a (suc b) =
      let far : first + a + b ≡ first + (a + b) = omega arith in
      (λ i. map.remove (range_more m first a b i) (far i)) ∙ ap (without_range m first) (sym (add-suc a b))

  -- a range of one number
  pub range_one : (m : FinMap nat_cmp X) (n : ℕ) → without_range m n 1 ≡ map.remove m n
  range_one m n = ap (map.remove m) (add-zero n)

  -- a number behind a range
  pub range_behind : (m : FinMap nat_cmp X) (first k n : ℕ) → first + k ≤ n → map.get (without_range m first k) n ≡ map.get m n
  range_behind m first zero n h = refl
  range_behind m first (suc k) n h = remove_other (without_range m first k) (first + k) n (λ e. omega arith) ∙ range_behind m first k n (omega arith)

  remove_none : (m : FinMap nat_cmp X) (n : ℕ) → map.get m n ≡ None → map.remove m n ≡ m
  remove_none m n none = same _ _ (λ q. elim (cases_eq q n) [
    | inl at ↦ remove_same m n q at ∙ sym (ap (map.get m) at ∙ none)
    | inr other ↦ remove_other m n q other
  ])

  -- a range without a number of the map
  pub range_none : (m : FinMap nat_cmp X) (first k : ℕ) → ((j : ℕ) → j < k → map.get m (first + j) ≡ None) → without_range m first k ≡ m
  range_none m first zero h = refl
  range_none m first (suc k) h =
      ap (λ (q : FinMap nat_cmp X). map.remove q (first + k)) (range_none m first k (λ j less. h j (omega arith)))
      ∙ remove_none m (first + k) (h k (omega arith))

  -- what follows where there is none
  pub if_none : (o : Option X) {P Q : Type 0} → IfNone o P → (P → Q) → IfNone o Q
  if_none None h f = f h
  if_none (Some x) h f = h
