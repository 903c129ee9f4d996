-- What a list of stretches says when one number is set or cleared.
use Rattle.std.proofs.Common.{◌≡◌, ◌≢◌, ℕ, ◌+◌, ◌-◌, ◌<◌, ◌≤◌, Bool, true, false, eqb, cond, List, Option, Some, None, IsSome, is_some, refl, ap, sym, ◌∙◌, inl, inr, arith}
use Rattle.std.proofs.lemmas.Bool.{cases_Bool, cases_eq, cases_lt, eq-eqb, false≢true, ne_eqb}
use Rattle.std.specs.Cmp.{nat_cmp_total, unsigned_tied}
use Rattle.std.specs.Ordering.{nat_cmp}
use Rattle.std.specs.FinMap.{FinMap, empty_of_len, get-empty, get-insert, get-remove, len-insert, len-remove, nat_cmp-IsAntisymmetric, same_map}
use Rattle.std.specs.FinMap as map
use Rattle.stretches.specs.declared.says.Says.{Ghosts}
use Rattle.stretches.specs.declared.stretch.Stretch.{Stretch}
use Rattle.stretches.specs.Cells.{cells}
use Rattle.stretches.specs.Changes.{SayAlso, SayNoMore}
use Rattle.stretches.specs.GoingOn.{GoesOn}
use Rattle.stretches.specs.Stretch.{behind, front, is_in, value_at}
use Rattle.stretches.specs.Stretches.{SayAs, said}
use Rattle.stretches.proofs.Cells.{get_cells}
use Rattle.stretches.proofs.Reading.Numbers.{chosen, high, low, out_before, out_behind, passed, within}

-- Maps of numbers

pub none_of : {X : Type 0} (o : Option X) → is_some o ≡ false → o ≡ None
none_of None h = refl
none_of (Some x) h = absurd (false≢true (sym h))

module _ {X : Type 0} where
  pub same_maps : (m n : FinMap nat_cmp X) → ((q : ℕ) → map.get m q ≡ map.get n q) → m ≡ n
  same_maps m n h = same_map nat_cmp_total nat_cmp-IsAntisymmetric m n h

  pub get_inserted : (m : FinMap nat_cmp X) (k : ℕ) (x : X) (q : ℕ)
      → map.get (map.insert m k x) q ≡ cond (eqb q k) (Some x) (map.get m q)
  get_inserted m k x q =
      get-insert nat_cmp_total m k x q
      ∙ ap (λ (b : Bool). cond b (Some x) (map.get m q)) (unsigned_tied q k)

  pub get_removed : (m : FinMap nat_cmp X) (k q : ℕ)
      → map.get (map.remove m k) q ≡ cond (eqb q k) None (map.get m q)
  get_removed m k q =
      get-remove nat_cmp_total m k q
      ∙ ap (λ (b : Bool). cond b None (map.get m q)) (unsigned_tied q k)

-- One number cleared

module _ {V : Type 0} (S : Ghosts V) (laws : GoesOn S.after S.lasts) where
  -- behind the first numbers a stretch says what it said
  behind_says : (r : Stretch V) (by n : ℕ) → r.first + by ≤ n
      → value_at S (behind S r by) n ≡ value_at S r n
  behind_says r by n h =
      let far : by + (n - (r.first + by)) ≡ n - r.first = omega arith in
      laws.composes r.value by (n - (r.first + by)) ∙ ap (λ (k : ℕ). S.after r.value k) far

  module _ (old gone begun new : List (Stretch V)) (r : Stretch V) (n : ℕ)
      (has : is_in r n ≡ true) (as_said : SayAs S old r) (less : SayNoMore S old r gone)
      (before : SayAlso S gone (front r (n - r.first)) begun)
      (rest : SayAlso S begun (behind S r (n - r.first + 1)) new) where
    -- where neither part has a number
    cleared_outside : (m : ℕ) → is_in (front r (n - r.first)) m ≡ false
        → is_in (behind S r (n - r.first + 1)) m ≡ false
        → said S new m ≡ cond (is_in r m) None (said S old m)
    cleared_outside m no_front no_behind =
        rest m ∙ passed _ no_behind _ _ ∙ before m ∙ passed _ no_front _ _ ∙ less m

    cleared_here : said S new n ≡ None
    cleared_here =
        cleared_outside n
        (out_behind (front r (n - r.first)) n (omega (arith, low r n has)))
        (out_before (behind S r (n - r.first + 1)) n (omega (arith, low r n has)))
        ∙ chosen (is_in r n) has _ _

    cleared_other : (m : ℕ) → m ≢ n → said S new m ≡ said S old m
    cleared_other m other = elim (cases_Bool (is_in r m)) [
      | inl inside ↦ elim (cases_lt m n) [
        | inl lower ↦
            let in_front : is_in (front r (n - r.first)) m ≡ true =
            within (front r (n - r.first)) m (low r m inside)
            (omega (arith, low r m inside, low r n has)) in
            rest m
            ∙ passed _ (out_before (behind S r (n - r.first + 1)) m (omega (arith, low r n has))) _ _
            ∙ before m ∙ chosen _ in_front _ _ ∙ sym (as_said m inside)
        | inr higher ↦
            let in_behind : is_in (behind S r (n - r.first + 1)) m ≡ true =
            within (behind S r (n - r.first + 1)) m (omega (arith, low r n has))
            (omega (arith, low r n has, high r n has, high r m inside)) in
            rest m ∙ chosen _ in_behind _ _
            ∙ ap Some (behind_says r (n - r.first + 1) m (omega (arith, low r n has)))
            ∙ sym (as_said m inside)
      ]
      | inr outside ↦ elim (cases_lt m r.first) [
        | inl lower ↦
            cleared_outside m
            (out_before (front r (n - r.first)) m lower)
            (out_before (behind S r (n - r.first + 1)) m (omega (arith, low r n has)))
            ∙ passed (is_in r m) outside _ _
        | inr higher ↦ elim (cases_lt m (r.first + r.count)) [
          | inl under ↦ absurd (false≢true (sym outside ∙ within r m (omega arith) under))
          | inr over ↦
              cleared_outside m
              (out_behind (front r (n - r.first)) m (omega (arith, high r n has)))
              (out_behind (behind S r (n - r.first + 1)) m (omega (arith, low r n has, high r n has)))
              ∙ passed (is_in r m) outside _ _
        ]
      ]
    ]

    -- nothing is said of this number, and of all others what was said
    pub cells_cleared : cells S new ≡ map.remove (cells S old) n
    cells_cleared = same_maps _ _ (λ m.
        get_cells S new m
        ∙ elim (cases_eq m n) [
          | inl same ↦
              ap (said S new) same ∙ cleared_here ∙ sym (chosen (eqb m n) (eq-eqb m n same) None (map.get (cells S old) m))
          | inr other ↦
              cleared_other m other ∙ sym (get_cells S old m)
              ∙ sym (passed (eqb m n) (ne_eqb m n other) None (map.get (cells S old) m))
        ]
        ∙ sym (get_removed (cells S old) n m))

-- How many numbers there are

module _ {X : Type 0} where
  pub len_insert_new : (m : FinMap nat_cmp X) (k : ℕ) (x : X) → map.get m k ≡ None
      → map.len (map.insert m k x) ≡ map.len m + 1
  len_insert_new m k x none =
      len-insert nat_cmp_total m k x
      ∙ ap (λ (o : Option X). cond (is_some o) (map.len m) (map.len m + 1)) none

  pub len_insert_old : (m : FinMap nat_cmp X) (k : ℕ) (x : X) → IsSome (map.get m k)
      → map.len (map.insert m k x) ≡ map.len m
  len_insert_old m k x some =
      len-insert nat_cmp_total m k x
      ∙ ap (λ (b : Bool). cond b (map.len m) (map.len m + 1)) some

  -- a map with a number isn't empty
  pub len_some : (m : FinMap nat_cmp X) (k : ℕ) → IsSome (map.get m k) → 0 < map.len m
  len_some m k some = elim (cases_eq (map.len m) 0) [
    | inl none ↦
        let gone : map.get m k ≡ None =
        ap (λ (n : FinMap nat_cmp X). map.get n k) (empty_of_len m none) ∙ get-empty nat_cmp k in
        absurd (false≢true (sym (ap is_some gone) ∙ some))
    | inr other ↦ omega arith
  ]

  pub len_remove_old : (m : FinMap nat_cmp X) (k : ℕ) → IsSome (map.get m k)
      → map.len (map.remove m k) + 1 ≡ map.len m
  len_remove_old m k some =
      let less : map.len (map.remove m k) ≡ map.len m - 1 =
      len-remove nat_cmp_total m k
      ∙ ap (λ (b : Bool). cond b (map.len m - 1) (map.len m)) some in
      omega (arith, less, len_some m k some)

  pub remove_absent : (m : FinMap nat_cmp X) (k : ℕ) → map.get m k ≡ None → map.remove m k ≡ m
  remove_absent m k none = same_maps _ _ (λ q. get_removed m k q ∙ elim (cases_eq q k) [
    | inl same ↦ chosen (eqb q k) (eq-eqb q k same) None (map.get m q) ∙ sym (ap (map.get m) same ∙ none)
    | inr other ↦ passed (eqb q k) (ne_eqb q k other) None (map.get m q)
  ])

  -- to say again what is said changes nothing
  pub insert_again : (m : FinMap nat_cmp X) (k : ℕ) (x : X) → map.get m k ≡ Some x
      → m ≡ map.insert m k x
  insert_again m k x is = same_maps _ _ (λ q. elim (cases_eq q k) [
    | inl same ↦ ap (map.get m) same ∙ is ∙ sym (get_inserted m k x q ∙ chosen (eqb q k) (eq-eqb q k same) (Some x) (map.get m q))
    | inr other ↦ sym (get_inserted m k x q ∙ passed (eqb q k) (ne_eqb q k other) (Some x) (map.get m q))
  ])
