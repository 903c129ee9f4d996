-- The map of the stretches has what they say, so an equation on the one is one on the other.
use Rattle.std.proofs.Common.{◌≡◌, ◌≢◌, ℕ, zero, suc, ◌+◌, ◌-◌, Bool, true, false, ◌&&◌, leb, ltb, eqb, cond, List, [], ◌∷◌, Option, Some, None, sym, ap, ◌∙◌, inl, inr, arith}
use Rattle.std.proofs.lemmas.Bool.{cases_eq}
use Rattle.std.proofs.lemmas.Bool.Decides.{nat_tests}
use Rattle.std.specs.Ordering.{nat_cmp, eq_by_cmp}
use Rattle.std.specs.Cmp.{nat_cmp_total, unsigned_tied}
use Rattle.std.specs.FinMap.{FinMap, nat_cmp-IsAntisymmetric, same_map, get-empty, get-insert, get-remove}
use Rattle.std.specs.FinMap as map
use Rattle.stretches.specs.declared.says.Says.{Ghosts}
use Rattle.stretches.specs.declared.stretch.Stretch.{Stretch}
use Rattle.stretches.specs.Cells.{cells, with_first, with_stretch, without_first, without_stretch}
use Rattle.stretches.specs.Changes.{SayAlso, SayNoMore, SayOfOne, SaySame}
use Rattle.stretches.specs.Stretch.{is_in, value_at}
use Rattle.stretches.specs.Stretches.{said}
use Rattle.stretches.proofs.Reading.Numbers.{chosen, passed}

-- the map's test of two numbers
pub tied : (a b : ℕ) → a ≡ b → eq_by_cmp nat_cmp a b ≡ true
tied a b e = unsigned_tied a b ∙ grind (arith, nat_tests)

pub untied : (a b : ℕ) → a ≢ b → eq_by_cmp nat_cmp a b ≡ false
untied a b h = unsigned_tied a b ∙ grind (arith, nat_tests)

module _ {V : Type 0} where
  -- the number is one of the first numbers of a stretch, so many
  abbrev pub in_front : Stretch V → ℕ → ℕ → Bool
  in_front r k n = leb r.first n && ltb n (r.first + k)

  none_in_front : (r : Stretch V) (n : ℕ) → in_front r 0 n ≡ false
  none_in_front r n = grind (arith, nat_tests)

  same : (m n : FinMap nat_cmp V) → ((q : ℕ) → map.get m q ≡ map.get n q) → m ≡ n
  same m n h = same_map nat_cmp_total nat_cmp-IsAntisymmetric m n h

  get_without : (m : FinMap nat_cmp V) (r : Stretch V) (k n : ℕ) → map.get (without_first m r k) n ≡ cond (in_front r k n) None (map.get m n)
  get_without m r zero n = sym (passed (in_front r zero n) (none_in_front r n) _ _)
  get_without m r (suc k) n = get-remove nat_cmp_total (without_first m r k) (r.first + k) n ∙ elim (cases_eq n (r.first + k)) [
    | inl same ↦
        let inside : in_front r (suc k) n ≡ true = grind (arith, nat_tests) in
        chosen (eq_by_cmp nat_cmp n (r.first + k)) (tied n (r.first + k) same) _ _ ∙ sym (chosen (in_front r (suc k) n) inside _ _)
    | inr other ↦
        let alike : in_front r k n ≡ in_front r (suc k) n = grind (arith, nat_tests) in
        passed (eq_by_cmp nat_cmp n (r.first + k)) (untied n (r.first + k) other) _ _ ∙ get_without m r k n ∙ ap (λ (b : Bool). cond b None (map.get m n)) alike
  ]

module _ {V : Type 0} (S : Ghosts V) where
  get_with : (m : FinMap nat_cmp V) (r : Stretch V) (k n : ℕ) → map.get (with_first S m r k) n ≡ cond (in_front r k n) (Some (value_at S r n)) (map.get m n)
  get_with m r zero n = sym (passed (in_front r zero n) (none_in_front r n) _ _)
  get_with m r (suc k) n = get-insert nat_cmp_total (with_first S m r k) (r.first + k) (S.after r.value k) n ∙ elim (cases_eq n (r.first + k)) [
    | inl same ↦
        let far : n - r.first ≡ k = omega arith in
        let inside : in_front r (suc k) n ≡ true = grind (arith, nat_tests) in
        chosen (eq_by_cmp nat_cmp n (r.first + k)) (tied n (r.first + k) same) _ _ ∙ ap (λ (j : ℕ). Some (S.after r.value j)) (sym far) ∙ sym (chosen (in_front r (suc k) n) inside _ _)
    | inr other ↦
        let alike : in_front r k n ≡ in_front r (suc k) n = grind (arith, nat_tests) in
        passed (eq_by_cmp nat_cmp n (r.first + k)) (untied n (r.first + k) other) _ _ ∙ get_with m r k n ∙ ap (λ (b : Bool). cond b (Some (value_at S r n)) (map.get m n)) alike
  ]

  -- the map has what the stretches say
  pub get_cells : (rs : List (Stretch V)) (n : ℕ) → map.get (cells S rs) n ≡ said S rs n
  unfolding cells
  get_cells [] n = get-empty nat_cmp n
  get_cells (r ∷ rs) n = get_with (cells S rs) r r.count n ∙ ap (λ (o : Option V). cond (is_in r n) (Some (value_at S r n)) o) (get_cells rs n)

  -- stretches that say the same are the same map
  pub same_cells : (rs others : List (Stretch V)) → SaySame S rs others → cells S others ≡ cells S rs
  same_cells rs others h = same _ _ (λ n. get_cells others n ∙ h n ∙ sym (get_cells rs n))

  -- a stretch adds the cells of its numbers
  pub more_cells : (rs : List (Stretch V)) (r : Stretch V) (others : List (Stretch V)) → SayAlso S rs r others → cells S others ≡ with_stretch S (cells S rs) r
  more_cells rs r others h = same _ _ (λ n.
      get_cells others n ∙ h n ∙ sym (get_with (cells S rs) r r.count n ∙ ap (λ (o : Option V). cond (is_in r n) (Some (value_at S r n)) o) (get_cells rs n)))

  -- a stretch that goes takes them away
  pub fewer_cells : (rs : List (Stretch V)) (r : Stretch V) (others : List (Stretch V)) → SayNoMore S rs r others → cells S others ≡ without_stretch (cells S rs) r
  fewer_cells rs r others h = same _ _ (λ n.
      get_cells others n ∙ h n ∙ sym (get_without (cells S rs) r r.count n ∙ ap (λ (o : Option V). cond (is_in r n) None o) (get_cells rs n)))

  -- what is said of one number is its cell
  pub cell_of_one : (rs : List (Stretch V)) (m : ℕ) (v : V) (others : List (Stretch V)) → SayOfOne S rs m v others → cells S others ≡ map.insert (cells S rs) m v
  cell_of_one rs m v others h = same _ _ (λ n.
      let test : eqb n m ≡ eq_by_cmp nat_cmp n m = sym (unsigned_tied n m) in
      get_cells others n ∙ h n ∙ sym (get-insert nat_cmp_total (cells S rs) m v n ∙ (λ i. cond (sym test i) (Some v) (get_cells rs n i))))
