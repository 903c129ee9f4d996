-- Many nodes changed piece by piece.
use Rattle.std.proofs.Common.{◌≡◌, ◌≢◌, ℕ, ◌+◌, ◌-◌, ◌<◌, ◌≤◌, false, Option, Some, sym, ap, subst, ◌∙◌, inl, inr, arith}
use Rattle.std.specs.Prelude.{◌⊎◌, option_and_then, unwrap_or}
use Rattle.std.proofs.lemmas.Bool.{cases_lt, cond-true, cond-false, false≢true}
use Rattle.std.specs.FinMap as map
use Rattle.stretches.specs.Stretch.{is_in}
use Rattle.stretches.specs.declared.stretch.Stretch.{Stretch}
use Rattle.stretches.proofs.Reading.Numbers.{out_before, out_behind, within}
use Rattle.mixed_map.specs.Mixed.{Tells, with_stretch, without_stretch}
use Rattle.mixed_map.proofs.Maps.{remove_other}
use Rattle.mixed_map.proofs.Telling.{get_with}
use Rattle.local_cache.specs.Arena.{Cell, blank}
use Rattle.local_cache.specs.NodeCells.{Cells, cell_at, changed_each, run_cell}
use Rattle.local_cache.specs.NodeKeys.{working_number}
use Rattle.local_cache.specs.LinkTable.{AreFreeNumbers, HasFreeNumber, HaveFreeNumbers}
use Rattle.local_cache.specs.Runs.{run, run_after}
use Rattle.local_cache.specs.declared.runs.run.Run.{Run}
use Rattle.local_cache.proofs.Stretched.{each_before, each_behind, each_is, each_like, each_on}
use Rattle.local_cache.proofs.TableRight.Numbers.{free_at, is_free}
use Rattle.local_cache.proofs.TableRight.Together.{left_number}

-- a number outside of a stretch is before it or behind it
pub out_cases : (r : Stretch Run) (n : ℕ) → is_in r n ≡ false → (n < r.first) ⊎ (r.first + r.count ≤ n)
out_cases r n out = elim (cases_lt n r.first) [
  | inl low ↦ inl low
  | inr from ↦ elim (cases_lt n (r.first + r.count)) [
    | inl to ↦ absurd (false≢true (sym out ∙ within r n from to))
    | inr past ↦ inr past
  ]
]

-- the nodes of a run, of which a run says what becomes of them
module _ (m : Cells) (node : ℕ) (f : ℕ → Cell → Cell) (r : Stretch Run) (v : Run) (begins : r.first ≡ node) (tells : Tells run run_cell m r)
    (said : (k : ℕ) → k < r.count → run_cell (run_after v k) ≡ f k (run_cell (run_after r.value k))) where
  piece_at : (k : ℕ) → k < r.count → map.get m (node + k) ≡ Some (run_cell (run_after r.value k))
  piece_at k less =
      let far : r.first + k - r.first ≡ k = omega arith in
      ap (λ (n : ℕ). map.get m (n + k)) (sym begins)
      ∙ tells (r.first + k) (within r (r.first + k) (omega arith) (omega (arith, less)))
      ∙ ap (λ (j : ℕ). Some (run_cell (run_after r.value j))) far

  becomes : (k : ℕ) → k < r.count → f k (cell_at m (node + k)) ≡ run_cell (run_after v k)
  becomes k less = ap (λ (o : Option Cell). f k (unwrap_or o blank)) (piece_at k less) ∙ sym (said k less)

  pub piece_cells : with_stretch run run_cell m (record r { value = v }) ≡ changed_each m node f r.count
  piece_cells = each_is m node f r.count (with_stretch run run_cell m (record r { value = v }))
      (λ k less.
      let far : node + k - r.first ≡ k = omega (arith, begins) in
      get_with run run_cell m (record r { value = v }) (node + k)
      ∙ cond-true _ _ _ (within r (node + k) (omega (arith, begins)) (omega (arith, begins, less)))
      ∙ ap (λ (j : ℕ). Some (run_cell (run_after v j))) far ∙ ap Some (sym (becomes k less)))
      (λ n low. get_with run run_cell m (record r { value = v }) n ∙ cond-false _ _ _ (out_before r n (omega (arith, begins, low))))
      (λ n past. get_with run run_cell m (record r { value = v }) n ∙ cond-false _ _ _ (out_behind r n (omega (arith, begins, past))))

  pub piece_free : (most : ℕ) → r.count ≤ most → AreFreeNumbers m node most f → HaveFreeNumbers (without_stretch m r) (record r { value = v })
  piece_free most few free k less =
      is_free (without_stretch m r) (working_number (run_cell (run_after v k))) (λ j n is h.
      let was = left_number m r n j h in
      let far : n ≢ node + k = λ e. false≢true (sym was.0 ∙ within r n (omega (arith, e, begins)) (omega (arith, e, begins, less))) in
      let there : map.get (changed_each m node f k) n ≡ map.get m n = elim (out_cases r n was.0) [
        | inl low ↦ each_before m node f k n (omega (arith, low, begins))
        | inr past ↦ each_behind m node f k n (omega (arith, past, begins, less))
      ] in
      free_at (map.remove (changed_each m node f k) (node + k)) (working_number (f k (cell_at m (node + k)))) j n (free k (omega (arith, less, few)))
      (ap working_number (becomes k less) ∙ is)
      (ap (option_and_then working_number) (remove_other (changed_each m node f k) (node + k) n far ∙ there) ∙ was.1))

-- what is free of many is free of those that are left
pub rest_free : (m now : Cells) (first count a : ℕ) (f g : ℕ → Cell → Cell) → now ≡ changed_each m first f a → ((k : ℕ) (c : Cell) → g k c ≡ f (a + k) c) → a ≤ count
    → AreFreeNumbers m first count f → AreFreeNumbers now (first + a) (count - a) g
rest_free m now first count a f g is same most free k less =
    let cells = each_like now (first + a) k g (λ i. f (a + i)) same ∙ ap (λ (x : Cells). changed_each x (first + a) (λ i. f (a + i)) k) is ∙ each_on m first a k f in
    let far : first + a + k ≡ first + (a + k) = omega arith in
    let here : g k (cell_at now (first + a + k)) ≡ f (a + k) (cell_at m (first + (a + k))) =
    same k (cell_at now (first + a + k)) ∙ ap (λ (x : Cells). f (a + k) (cell_at x (first + a + k))) is
    ∙ ap (λ (n : ℕ). f (a + k) (cell_at (changed_each m first f a) n)) far
    ∙ ap (λ (o : Option Cell). f (a + k) (unwrap_or o blank)) (each_behind m first f a (first + (a + k)) (omega arith)) in
    let P : Cells → Type 0 = λ x. HasFreeNumber (map.remove x (first + (a + k))) (f (a + k) (cell_at m (first + (a + k)))) in
    let Q : ℕ → Type 0 = λ n. HasFreeNumber (map.remove (changed_each now (first + a) g k) n) (f (a + k) (cell_at m (first + (a + k)))) in
    let R : Cell → Type 0 = λ d. HasFreeNumber (map.remove (changed_each now (first + a) g k) (first + a + k)) d in
    subst R (sym here) (subst Q (sym far) (subst P (sym cells) (free (a + k) (omega (arith, less, most)))))

-- the cells after so many, and so many behind them
pub rest_cells : (m now new : Cells) (first a b : ℕ) (f g : ℕ → Cell → Cell) → now ≡ changed_each m first f a → ((k : ℕ) (c : Cell) → g k c ≡ f (a + k) c) → new ≡ changed_each now (first + a) g b → new ≡ changed_each m first f (a + b)
rest_cells m now new first a b f g is same e =
    e ∙ each_like now (first + a) b g (λ i. f (a + i)) same ∙ ap (λ (x : Cells). changed_each x (first + a) (λ i. f (a + i)) b) is ∙ each_on m first a b f

-- a node that is left is there
pub rest_there : (m now : Cells) (first a k : ℕ) (f : ℕ → Cell → Cell) → now ≡ changed_each m first f a → a ≤ k → map.get now (first + k) ≡ map.get m (first + k)
rest_there m now first a k f is le = ap (λ (x : Cells). map.get x (first + k)) is ∙ each_behind m first f a (first + k) (omega (arith, le))
