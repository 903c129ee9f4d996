-- Maps from numbers: one number set or cleared, and how many there are.
use Rattle.std.proofs.Common.{◌≡◌, ◌≢◌, ℕ, zero, suc, ◌<◌, ◌≤◌, eqb, List, [], ◌∷◌, length, Some, None, IsSome, is_some, refl, ap, sym, ◌∙◌, inl, inr, arith}
use Rattle.std.proofs.lemmas.Bool.{cases_eq, eq-eqb, ne_eqb}
use Rattle.std.proofs.lemmas.Option.{none-some}
use Rattle.std.specs.Ordering.{nat_cmp, eq_by_cmp}
use Rattle.std.specs.FinMap.{FinMap, find, get-entries, len-entries}
use Rattle.std.specs.FinMap as map
use Rattle.stretches.proofs.Cells.{tied}
use Rattle.stretches.proofs.Reading.Numbers.{chosen, passed}
use Rattle.local_cache.proofs.Singles.{get_inserted, get_removed, len_remove_old, same_maps}

-- One number of a map set or cleared

module _ {X : Type 0} where
  pub inserted_here : (m : FinMap nat_cmp X) (k : ℕ) (x : X) → map.get (map.insert m k x) k ≡ Some x
  inserted_here m k x = get_inserted m k x k ∙ chosen (eqb k k) (eq-eqb k k refl) _ _

  pub inserted_other : (m : FinMap nat_cmp X) (k : ℕ) (x : X) (q : ℕ) → q ≢ k
      → map.get (map.insert m k x) q ≡ map.get m q
  inserted_other m k x q other = get_inserted m k x q ∙ passed (eqb q k) (ne_eqb q k other) _ _

  pub removed_here : (m : FinMap nat_cmp X) (k : ℕ) → map.get (map.remove m k) k ≡ None
  removed_here m k = get_removed m k k ∙ chosen (eqb k k) (eq-eqb k k refl) None (map.get m k)

  pub removed_other : (m : FinMap nat_cmp X) (k q : ℕ) → q ≢ k
      → map.get (map.remove m k) q ≡ map.get m q
  removed_other m k q other =
      get_removed m k q ∙ passed (eqb q k) (ne_eqb q k other) None (map.get m q)

  -- what is still there wasn't the one that went
  pub still_there : (m : FinMap nat_cmp X) (k q : ℕ) (x : X) → map.get (map.remove m k) q ≡ Some x
      → (q ≢ k) × (map.get m q ≡ Some x)
  still_there m k q x h = elim (cases_eq q k) [
    | inl same ↦
        let gone : map.get (map.remove m k) q ≡ None =
        ap (map.get (map.remove m k)) same ∙ removed_here m k in
        absurd (none-some x (sym gone ∙ h))
    | inr other ↦ (other, sym (removed_other m k q other) ∙ h)
  ]

  -- a map is what it is with the numbers that are as they were
  pub inserted_by : (m n : FinMap nat_cmp X) (k : ℕ) (x : X) → map.get n k ≡ Some x
      → ((q : ℕ) → q ≢ k → map.get n q ≡ map.get m q) → n ≡ map.insert m k x
  inserted_by m n k x here others = same_maps _ _ (λ q. elim (cases_eq q k) [
    | inl same ↦ ap (map.get n) same ∙ here ∙ sym (ap (map.get (map.insert m k x)) same ∙ inserted_here m k x)
    | inr other ↦ others q other ∙ sym (inserted_other m k x q other)
  ])

-- How many numbers a map has

module _ {X : Type 0} where
  -- a map that isn't empty has a number
  pub some_number : (m : FinMap nat_cmp X) → 0 < map.len m
      → (k : ℕ) × (x : X) × (map.get m k ≡ Some x)
  some_number m some = go (map.entries m) refl
    where
      go : (es : List (ℕ × X)) → map.entries m ≡ es → (k : ℕ) × (x : X) × (map.get m k ≡ Some x)
      go [] e =
          let none : map.len m ≡ 0 = len-entries m ∙ ap length e in
          absurd (omega (arith, none))
      go (e ∷ es) is = (
        e.0,
        e.1,
        get-entries m e.0 ∙ ap (find nat_cmp e.0) is
            ∙ chosen (eq_by_cmp nat_cmp e.0 e.0) (tied e.0 e.0 refl) (Some e.1) (find nat_cmp e.0 es),
      )

module _ {X : Type 0} (into : ℕ → X → ℕ) where
  abbrev Apart : FinMap nat_cmp X → Type 0
  Apart m = (j k : ℕ) (x y : X) → map.get m j ≡ Some x → map.get m k ≡ Some y
      → into j x ≡ into k y → j ≡ k

module _ {X Y : Type 0} (into : ℕ → X → ℕ) where
  abbrev Held : FinMap nat_cmp X → FinMap nat_cmp Y → Type 0
  Held m c = (k : ℕ) (x : X) → map.get m k ≡ Some x → IsSome (map.get c (into k x))

  go_into : (l : ℕ) (m : FinMap nat_cmp X) (c : FinMap nat_cmp Y) → map.len m ≡ l → Held m c
      → Apart into m → map.len m ≤ map.len c
  go_into zero m c is held apart = omega (arith, is)
  go_into (suc l) m c is held apart =
      let one = some_number m (omega (arith, is)) in
      let there : IsSome (map.get m one.0) = ap is_some one.2 in
      let less = len_remove_old m one.0 there in
      let fewer = len_remove_old c (into one.0 one.1) (held one.0 one.1 one.2) in
      let rest = go_into l (map.remove m one.0) (map.remove c (into one.0 one.1))
      (omega (arith, is, less))
      (λ k x h.
      let was = still_there m one.0 k x h in
      ap is_some (removed_other c (into one.0 one.1) (into k x)
      (λ same. was.0 (apart k one.0 x one.1 was.1 one.2 same)))
      ∙ held k x was.1)
      (λ j k x y h i same. apart j k x y (still_there m one.0 j x h).1 (still_there m one.0 k y i).1 same) in
      omega (arith, less, fewer, rest)

  -- a map that goes into another one, no two numbers to one, has no more numbers
  pub len_into : (m : FinMap nat_cmp X) (c : FinMap nat_cmp Y) → Held m c → Apart into m
      → map.len m ≤ map.len c
  len_into m c held apart = go_into (map.len m) m c refl held apart

-- a map whose numbers another one has
pub len_within : {X Y : Type 0} (m : FinMap nat_cmp X) (c : FinMap nat_cmp Y)
    → ((k : ℕ) → IsSome (map.get m k) → IsSome (map.get c k)) → map.len m ≤ map.len c
len_within m c within =
    len_into (λ k x. k) m c (λ k x h. within k (ap is_some h)) (λ j k x y h i same. same)
