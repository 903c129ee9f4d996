-- A map without a range of its numbers.
use Rattle.std.proofs.Common.{◌≡◌, ℕ, zero, suc, ◌+◌, ◌-◌, ◌<◌, ◌≤◌, false, cond, List, Some, None, IsSome, is_some, refl, ap, sym, ◌∙◌, inl, inr, arith}
use Rattle.std.specs.Prelude.{◌⊎◌}
use Rattle.std.proofs.lemmas.Bool.{cases_eq, cases_lt, false≢true}
use Rattle.std.specs.Ordering.{nat_cmp}
use Rattle.std.specs.FinMap.{FinMap}
use Rattle.std.specs.FinMap as map
use Rattle.stretches.specs.Cells.{cells}
use Rattle.stretches.specs.Changes.{SayAlso, SayNoMore}
use Rattle.stretches.specs.GoingOn.{GoesOn}
use Rattle.stretches.specs.Stretch.{front, is_in, value_at}
use Rattle.stretches.specs.Stretches.{IsStretchWith, said}
use Rattle.stretches.specs.declared.says.Says.{Ghosts}
use Rattle.stretches.specs.declared.stretch.Stretch.{Stretch}
use Rattle.stretches.proofs.Cells.{get_cells}
use Rattle.stretches.proofs.Reading.Numbers.{chosen, high, low, out_before, out_behind, passed, within}
use Rattle.local_cache.specs.Singles.{without_range}
use Rattle.local_cache.proofs.NodeCells.{len_within, removed_here, removed_other}
use Rattle.local_cache.proofs.Singles.{len_remove_old, same_maps}

-- a number is in a range or beside it
pub range_cases : (first k n : ℕ) → ((first ≤ n) × (n < first + k)) ⊎ ((n < first) ⊎ (first + k ≤ n))
range_cases first k n = elim (cases_lt n first) [
  | inl below ↦ inr (inl below)
  | inr from ↦ elim (cases_lt n (first + k)) [ inl under ↦ inl (from, under) | inr above ↦ inr (inr above) ]
]

module _ {V : Type 0} (m : FinMap nat_cmp V) (first : ℕ) where
  pub range_out : (k n : ℕ) → (n < first) ⊎ (first + k ≤ n) → map.get (without_range m first k) n ≡ map.get m n
  range_out zero n out = refl
  range_out (suc k) n out = elim out [
    | inl below ↦ removed_other (without_range m first k) (first + k) n (λ e. let bad : ⊥ = omega (arith, below, e) in bad) ∙ range_out k n (inl below)
    | inr above ↦ removed_other (without_range m first k) (first + k) n (λ e. let bad : ⊥ = omega (arith, above, e) in bad) ∙ range_out k n (inr (omega arith))
  ]

  pub range_in : (k n : ℕ) → first ≤ n → n < first + k → map.get (without_range m first k) n ≡ None
  range_in zero n from under = let bad : ⊥ = omega arith in absurd bad
  range_in (suc k) n from under = elim (cases_eq n (first + k)) [
    | inl same ↦ ap (map.get (without_range m first (suc k))) same ∙ removed_here (without_range m first k) (first + k)
    | inr other ↦ removed_other (without_range m first k) (first + k) n other ∙ range_in k n from (omega arith)
  ]

  -- a map that has nothing in a range, and beside it what was there
  pub ranged_by : (k : ℕ) (n : FinMap nat_cmp V) → ((q : ℕ) → first ≤ q → q < first + k → map.get n q ≡ None)
      → ((q : ℕ) → (q < first) ⊎ (first + k ≤ q) → map.get n q ≡ map.get m q) → n ≡ without_range m first k
  ranged_by k n none others = same_maps _ _ (λ q. elim (range_cases first k q) [
    | inl inside ↦ none q inside.0 inside.1 ∙ sym (range_in k q inside.0 inside.1)
    | inr out ↦ others q out ∙ sym (range_out k q out)
  ])

  pub len_range : (k : ℕ) → ((q : ℕ) → first ≤ q → q < first + k → IsSome (map.get m q))
      → map.len (without_range m first k) + k ≡ map.len m
  len_range zero some = omega arith
  len_range (suc k) some =
      let rest = len_range k (λ q from under. some q from (omega arith)) in
      let there : IsSome (map.get (without_range m first k) (first + k)) =
      ap is_some (range_out k (first + k) (inr (omega arith))) ∙ some (first + k) (omega arith) (omega arith) in
      omega (arith, rest, len_remove_old (without_range m first k) (first + k) there)

-- one range behind another
pub range_on : {V : Type 0} (m : FinMap nat_cmp V) (first a b : ℕ) → first ≤ a → a ≤ b
    → without_range (without_range m first (a - first)) a (b - a) ≡ without_range m first (b - first)
range_on m first a b from more = ranged_by m first (b - first) _
    (λ q low high. elim (range_cases a (b - a) q) [
      | inl inside ↦ range_in (without_range m first (a - first)) a (b - a) q inside.0 inside.1
      | inr out ↦ range_out (without_range m first (a - first)) a (b - a) q out ∙ range_in m first (a - first) q low (elim out [ inl below ↦ omega (arith, below, from) | inr above ↦ (let bad : ⊥ = omega (arith, above, high, more, from) in absurd bad) ])
    ])
    (λ q out.
    range_out (without_range m first (a - first)) a (b - a) q (elim out [ inl below ↦ inl (omega (arith, below, from)) | inr above ↦ inr (omega (arith, above, more, from)) ])
    ∙ range_out m first (a - first) q (elim out [ inl below ↦ inl below | inr above ↦ inr (omega (arith, above, more, from)) ]))

-- nothing more goes where nothing is
pub range_skipped : {V : Type 0} (m : FinMap nat_cmp V) (first a until : ℕ) → first ≤ a → a ≤ until
    → ((q : ℕ) → first ≤ q → q < a → map.get m q ≡ None) → without_range m a (until - a) ≡ without_range m first (until - first)
range_skipped m first a until from within none = ranged_by m first (until - first) _
    (λ q low high. elim (cases_lt q a) [
      | inl below ↦ range_out m a (until - a) q (inl below) ∙ none q low below
      | inr above ↦ range_in m a (until - a) q above (omega (arith, above, high, within))
    ])
    (λ q out. range_out m a (until - a) q (elim out [ inl below ↦ inl (omega (arith, below, from)) | inr above ↦ inr (omega (arith, above, within, from)) ]))

pub range_vacant : {V : Type 0} (m : FinMap nat_cmp V) (first k : ℕ)
    → ((q : ℕ) → first ≤ q → q < first + k → map.get m q ≡ None) → m ≡ without_range m first k
range_vacant m first k none = ranged_by m first k m none (λ q out. refl)

pub len_range_most : {V : Type 0} (m : FinMap nat_cmp V) (first k : ℕ) → map.len (without_range m first k) ≤ map.len m
len_range_most m first k = len_within (without_range m first k) m (λ q some. elim (range_cases first k q) [
  | inl inside ↦ absurd (false≢true (sym (ap is_some (range_in m first k q inside.0 inside.1)) ∙ some))
  | inr out ↦ sym (ap is_some (range_out m first k q out)) ∙ some
])

-- A part of one stretch

module _ {V : Type 0} (S : Ghosts V) (laws : GoesOn S.after S.lasts) (old gone begun new : List (Stretch V)) (r : Stretch V)
    (first until : ℕ) (is : IsStretchWith S old first r) (less : SayNoMore S old r gone)
    (before : SayAlso S gone (front r (first - r.first)) begun)
    (rest : SayAlso S begun (record { first = until; count = r.count - (until - r.first); value = S.after r.value (until - r.first) }) new)
    (more : first < until) (end : until ≤ r.first + r.count) where
  abbrev left : Stretch V
  left = record { first = until; count = r.count - (until - r.first); value = S.after r.value (until - r.first) }

  left_says : (n : ℕ) → until ≤ n → value_at S left n ≡ value_at S r n
  left_says n h =
      let far : until - r.first + (n - until) ≡ n - r.first = omega (arith, low r first is.has, more, h) in
      laws.composes r.value (until - r.first) (n - until) ∙ ap (λ (k : ℕ). S.after r.value k) far

  apart_says : (m : ℕ) → is_in (front r (first - r.first)) m ≡ false → is_in left m ≡ false
      → said S new m ≡ cond (is_in r m) None (said S old m)
  apart_says m no_front no_left = rest m ∙ passed _ no_left _ _ ∙ before m ∙ passed _ no_front _ _ ∙ less m

  part_gone : (q : ℕ) → first ≤ q → q < until → said S new q ≡ None
  part_gone q from under =
      apart_says q
      (out_behind (front r (first - r.first)) q (omega (arith, low r first is.has, from)))
      (out_before left q under)
      ∙ chosen (is_in r q) (within r q (omega (arith, low r first is.has, from)) (omega (arith, under, end))) _ _

  part_other : (q : ℕ) → (q < first) ⊎ (until ≤ q) → said S new q ≡ said S old q
  part_other q out = elim (range_cases r.first r.count q) [
    | inl inside ↦
        let in_r = within r q inside.0 inside.1 in
        elim out [
          | inl below ↦
              rest q ∙ passed _ (out_before left q (omega (arith, below, more))) _ _
              ∙ before q ∙ chosen _ (within (front r (first - r.first)) q inside.0 (omega (arith, below, inside.0))) _ _
              ∙ sym (is.said q in_r)
          | inr above ↦
              rest q ∙ chosen _ (within left q above (omega (arith, above, inside.1, low r first is.has, more))) _ _
              ∙ ap Some (left_says q above) ∙ sym (is.said q in_r)
        ]
    | inr beside ↦ elim beside [
      | inl below ↦
          apart_says q (out_before (front r (first - r.first)) q below) (out_before left q (omega (arith, below, low r first is.has, more)))
          ∙ passed _ (out_before r q below) _ _
      | inr above ↦
          apart_says q (out_behind (front r (first - r.first)) q (omega (arith, above, low r first is.has, high r first is.has)))
          (out_behind left q (omega (arith, above, low r first is.has, more, end)))
          ∙ passed _ (out_behind r q above) _ _
    ]
  ]

  pub part_cleared : cells S new ≡ without_range (cells S old) first (until - first)
  part_cleared = ranged_by (cells S old) first (until - first) (cells S new)
      (λ q from under. get_cells S new q ∙ part_gone q from (omega (arith, under, more)))
      (λ q out. get_cells S new q ∙ part_other q (elim out [ inl below ↦ inl below | inr above ↦ inr (omega (arith, above, more)) ]) ∙ sym (get_cells S old q))

  pub part_len : map.len (cells S new) + (until - first) ≡ map.len (cells S old)
  part_len =
      let counts = len_range (cells S old) first (until - first) (λ q from under.
      ap is_some (get_cells S old q ∙ is.said q (within r q (omega (arith, low r first is.has, from)) (omega (arith, under, end, more))))) in
      omega (arith, ap map.len part_cleared, counts)
