-- Steps that make the i-th of some writings make one writing after the other, where no two meet.
use Rattle.std.proofs.Common.{◌≡◌, ◌≢◌, ℕ, zero, suc, ◌+◌, ◌<◌, ◌≤◌, cond, List, [], ◌∷◌, Option, Some, None, ◌⊎◌, inl, inr, refl, sym, ap, ◌∙◌, arith}
use Rattle.std.proofs.lemmas.Bool.{cases_eq}
use Rattle.std.specs.Ordering.{nat_cmp, eq_by_cmp}
use Rattle.std.specs.Cmp.{nat_cmp_total}
use Rattle.std.specs.FinMap.{FinMap, nat_cmp-IsAntisymmetric, same_map, get-insert, get-remove}
use Rattle.std.specs.FinMap as map
use Rattle.stretches.specs.Steps.{AgreeAt, AreApart, IsApart, Writes, Writing, steps, write, write_cells, write_stretch, write_stretches}
use Rattle.stretches.proofs.Cells.{tied, untied}

module _ {X : Type 0} where
  get_write : (m : FinMap nat_cmp X) (n : ℕ) (o : Option X) (q : ℕ) → map.get (write m n o) q ≡ cond (eq_by_cmp nat_cmp q n) o (map.get m q)
  unfolding write
  get_write m n None q = get-remove nat_cmp_total m n q
  get_write m n (Some x) q = get-insert nat_cmp_total m n x q

  get_other : (m : FinMap nat_cmp X) (n : ℕ) (o : Option X) (q : ℕ) → q ≢ n → map.get (write m n o) q ≡ map.get m q
  get_other m n o q h = get_write m n o q ∙ ap (λ b. cond b o (map.get m q)) (untied q n h)

  get_same : (m : FinMap nat_cmp X) (n : ℕ) (o : Option X) (q : ℕ) → q ≡ n → map.get (write m n o) q ≡ o
  get_same m n o q h = get_write m n o q ∙ ap (λ b. cond b o (map.get m q)) (tied q n h)

  -- two writes to different numbers in either order
  exchange : (m : FinMap nat_cmp X) (p : ℕ) (x : Option X) (q : ℕ) (y : Option X) → p ≢ q → write (write m p x) q y ≡ write (write m q y) p x
  exchange m p x q y ne = same_map nat_cmp_total nat_cmp-IsAntisymmetric _ _ (λ n. elim (cases_eq n q) [
    | inl at_q ↦
        let not_p : n ≢ p = λ e. ne (sym e ∙ at_q) in
        get_same (write m p x) q y n at_q ∙ sym (get_other (write m q y) p x n not_p ∙ get_same m q y n at_q)
    | inr not_q ↦ get_other (write m p x) q y n not_q ∙ elim (cases_eq n p) [
      | inl at_p ↦ get_same m p x n at_p ∙ sym (get_same (write m q y) p x n at_p)
      | inr not_p ↦ get_other m p x n not_p ∙ sym (get_other (write m q y) p x n not_p ∙ get_other m q y n not_q)
    ]
  ])

  -- none of the i-th cells has this number
  abbrev IsFree : List (Writing X) → ℕ → ℕ → Type 0
  IsFree [] i q = Unit {0}
  IsFree (s ∷ ss) i q = (s.first + i ≢ q) × IsFree ss i q

  write_after_cells : (m : FinMap nat_cmp X) (ss : List (Writing X)) (i q : ℕ) (y : Option X) → IsFree ss i q → write (write_cells m ss i) q y ≡ write_cells (write m q y) ss i
  write_after_cells m [] i q y free = refl
  write_after_cells m (s ∷ ss) i q y free = write_after_cells (write m (s.first + i) (s.cell i)) ss i q y free.1 ∙ ap (λ n. write_cells n ss i) (exchange m (s.first + i) (s.cell i) q y free.0)

  -- the rows below k: of each writing the i-th cell
  abbrev rows : FinMap nat_cmp X → List (Writing X) → ℕ → FinMap nat_cmp X
  rows m ss zero = m
  rows m ss (suc k) = write_cells (rows m ss k) ss k

  write_after_rows : (m : FinMap nat_cmp X) (ss : List (Writing X)) (k q : ℕ) (y : Option X) → ((i : ℕ) → i < k → IsFree ss i q) → write (rows m ss k) q y ≡ rows (write m q y) ss k
  write_after_rows m ss zero q y free = refl
  write_after_rows m ss (suc k) q y free = write_after_cells (rows m ss k) ss k q y (free k (omega arith)) ∙ ap (λ n. write_cells n ss k) (write_after_rows m ss k q y (λ i less. free i (omega arith)))

  -- the cells of a writing are free of those of the writings that it doesn't meet
  free_of : (s : Writing X) (ss : List (Writing X)) (k i j : ℕ) → IsApart s ss k → i < k → j < k → IsFree ss i (s.first + j)
  free_of s [] k i j h less below = tt
  free_of s (t ∷ ts) k i j h less below = (elim h.0 [ inl before ↦ (λ e. omega arith) | inr behind ↦ (λ e. omega arith) ], free_of s ts k i j h.1 less below)

  first_apart : (m : FinMap nat_cmp X) (s : Writing X) (ss : List (Writing X)) (most k : ℕ) → IsApart s ss most → k ≤ most → rows m (s ∷ ss) k ≡ rows (write_stretch m s k) ss k
  first_apart m s ss most zero h le = refl
  first_apart m s ss most (suc k) h le =
      ap (λ n. write_cells (write n (s.first + k) (s.cell k)) ss k) (first_apart m s ss most k h (omega arith))
      ∙ ap (λ n. write_cells n ss k) (write_after_rows (write_stretch m s k) ss k (s.first + k) (s.cell k) (λ i less. free_of s ss most i k h (omega arith) (omega arith)))

  none_left : (m : FinMap nat_cmp X) (k : ℕ) → rows m [] k ≡ m
  none_left m zero = refl
  none_left m (suc k) = none_left m k

  pub rows_are_stretches : (m : FinMap nat_cmp X) (ss : List (Writing X)) (k : ℕ) → AreApart ss k → rows m ss k ≡ write_stretches m ss k
  rows_are_stretches m [] k h = none_left m k
  rows_are_stretches m (s ∷ ss) k h = first_apart m s ss k k h.0 (omega arith) ∙ rows_are_stretches (write_stretch m s k) ss k h.1

  -- what the rows below leave of the cells of the next one
  get_free : (m : FinMap nat_cmp X) (ss : List (Writing X)) (i q : ℕ) → IsFree ss i q → map.get (write_cells m ss i) q ≡ map.get m q
  get_free m [] i q free = refl
  get_free m (s ∷ ss) i q free = get_free (write m (s.first + i) (s.cell i)) ss i q free.1 ∙ get_other m (s.first + i) (s.cell i) q (λ e. free.0 (sym e))

  get_rows : (m : FinMap nat_cmp X) (ss : List (Writing X)) (k q : ℕ) → ((i : ℕ) → i < k → IsFree ss i q) → map.get (rows m ss k) q ≡ map.get m q
  get_rows m ss zero q free = refl
  get_rows m ss (suc k) q free = get_free (rows m ss k) ss k q (free k (omega arith)) ∙ get_rows m ss k q (λ i less. free i (omega arith))

  -- a writing is one of them, or meets none
  abbrev IsClear : List (Writing X) → Writing X → ℕ → Type 0
  IsClear [] s k = Unit {0}
  IsClear (t ∷ ts) s k = ((t.first ≡ s.first) ⊎ ((s.first + k ≤ t.first) ⊎ (t.first + k ≤ s.first))) × IsClear ts s k

  abbrev AreClear : List (Writing X) → List (Writing X) → ℕ → Type 0
  AreClear all [] k = Unit {0}
  AreClear all (s ∷ ss) k = IsClear all s k × AreClear all ss k

  clear_apart : (s : Writing X) (ss : List (Writing X)) (k : ℕ) → IsApart s ss k → IsClear ss s k
  clear_apart s [] k h = tt
  clear_apart s (t ∷ ts) k h = (inr h.0, clear_apart s ts k h.1)

  one_more : (t : Writing X) (all ss : List (Writing X)) (k : ℕ) → IsApart t ss k → AreClear all ss k → AreClear (t ∷ all) ss k
  one_more t all [] k h clear = tt
  one_more t all (s ∷ ss) k h clear = ((inr (elim h.0 [ inl before ↦ inr before | inr behind ↦ inl behind ]), clear.0), one_more t all ss k h.1 clear.1)

  clears : (ss : List (Writing X)) (k : ℕ) → AreApart ss k → AreClear ss ss k
  clears [] k h = tt
  clears (s ∷ ss) k h = ((inl refl, clear_apart s ss k h.0), one_more s ss ss k h.0 (clears ss k h.1))

  free_below : (all : List (Writing X)) (s : Writing X) (most k i : ℕ) → IsClear all s most → k < most → i < k → IsFree all i (s.first + k)
  free_below [] s most k i clear below less = tt
  free_below (t ∷ ts) s most k i clear below less =
      (elim clear.0 [ inl same ↦ (λ e. omega arith) | inr apart ↦ elim apart [ inl before ↦ (λ e. omega arith) | inr behind ↦ (λ e. omega arith) ] ], free_below ts s most k i clear.1 below less)

  agree : (m : FinMap nat_cmp X) (all ss : List (Writing X)) (most k : ℕ) → AreClear all ss most → k < most → AgreeAt ss k (rows m all k) m
  agree m all [] most k clear below = tt
  agree m all (s ∷ ss) most k clear below = (get_rows m all k (s.first + k) (λ i less. free_below all s most k i clear.0 below less), agree m all ss most k clear.1 below)

  steps_are_rows : (step : FinMap nat_cmp X → ℕ → FinMap nat_cmp X) (m : FinMap nat_cmp X) (ss : List (Writing X)) (most k : ℕ) → AreApart ss most → Writes step m ss most → k ≤ most → steps step m k ≡ rows m ss k
  steps_are_rows step m ss most zero apart writes le = refl
  steps_are_rows step m ss most (suc k) apart writes le =
      ap (λ n. step n k) (steps_are_rows step m ss most k apart writes (omega arith))
      ∙ writes k (rows m ss k) (omega arith) (agree m ss ss most k (clears ss most apart) (omega arith))

  pub steps_are_stretches : (step : FinMap nat_cmp X → ℕ → FinMap nat_cmp X) (m : FinMap nat_cmp X) (ss : List (Writing X)) (k : ℕ) → AreApart ss k → Writes step m ss k → steps step m k ≡ write_stretches m ss k
  steps_are_stretches step m ss k apart writes = steps_are_rows step m ss k k apart writes (omega arith) ∙ rows_are_stretches m ss k apart
