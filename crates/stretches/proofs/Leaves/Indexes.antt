-- How many entries stand before a spot.
use Rattle.std.proofs.Common.{◌≡◌, ℕ, zero, suc, ◌+◌, ◌-◌, ◌<◌, ◌≤◌, List, [], ◌∷◌, length, get_or, set, refl, sym, ap, ◌∙◌, add-one, arith}
use Rattle.std.proofs.lemmas.List.{length-append}
use Rattle.stretches.specs.Leaves.{flat}
use Rattle.stretches.specs.Spots.{index_at}

module _ {X : Type 0} where
  -- the leaf at the spot doesn't matter, nor those behind
  pub index_before_leaf : (ls : List (List X)) (j k : ℕ) (m : List X) → index_at (set ls j m) j k ≡ index_at ls j k
  index_before_leaf [] j k m = refl
  index_before_leaf (l ∷ ls) zero k m = refl
  index_before_leaf (l ∷ ls) (suc j) k m = ap (λ (q : ℕ). length l + q) (index_before_leaf ls j k m)

  -- a leaf of the same length in place of another changes no index
  pub index_kept : (ls : List (List X)) (j : ℕ) (m : List X) → length m ≡ length (get_or ls j []) → (i k : ℕ) → index_at (set ls j m) i k ≡ index_at ls i k
  index_kept [] j m same i k = refl
  index_kept (l ∷ ls) zero m same zero k = refl
  index_kept (l ∷ ls) zero m same (suc i) k = ap (λ (q : ℕ). q + index_at ls i k) same
  index_kept (l ∷ ls) (suc j) m same zero k = refl
  index_kept (l ∷ ls) (suc j) m same (suc i) k = ap (λ (q : ℕ). length l + q) (index_kept ls j m same i k)

  pub length_kept : (ls : List (List X)) (j : ℕ) (m : List X) → length m ≡ length (get_or ls j []) → (i : ℕ) → length (get_or (set ls j m) i []) ≡ length (get_or ls i [])
  length_kept [] j m same i = refl
  length_kept (l ∷ ls) zero m same zero = same
  length_kept (l ∷ ls) zero m same (suc i) = refl
  length_kept (l ∷ ls) (suc j) m same zero = refl
  length_kept (l ∷ ls) (suc j) m same (suc i) = length_kept ls j m same i

  pub index_next : (ls : List (List X)) (j k : ℕ) → index_at ls j (suc k) ≡ suc (index_at ls j k)
  index_next [] j k = refl
  index_next (l ∷ ls) zero k = refl
  index_next (l ∷ ls) (suc j) k = ap (λ (q : ℕ). length l + q) (index_next ls j k) ∙ omega arith

  pub index_plus : (ls : List (List X)) (j k : ℕ) → index_at ls j (k + 1) ≡ index_at ls j k + 1
  index_plus ls j k = ap (index_at ls j) (add-one k) ∙ index_next ls j k ∙ sym (add-one (index_at ls j k))

  -- the first spot of all
  pub index_first : (ls : List (List X)) (k : ℕ) → index_at ls 0 k ≡ k
  index_first [] k = refl
  index_first (l ∷ ls) k = refl

  -- behind the last entry of a leaf comes the first one of the next
  pub index_turn : (ls : List (List X)) (j : ℕ) → suc j < length ls → index_at ls j (length (get_or ls j [])) ≡ index_at ls (suc j) 0
  index_turn [] j less = absurd (omega arith)
  index_turn (l ∷ []) j less = absurd (omega arith)
  index_turn (l ∷ m ∷ ls) zero less = omega arith
  index_turn (l ∷ m ∷ ls) (suc j) less = ap (λ (q : ℕ). length l + q) (index_turn (m ∷ ls) j (omega arith))

  -- behind the last entry of the last leaf there is none
  pub index_end : (ls : List (List X)) (j : ℕ) → suc j ≡ length ls → index_at ls j (length (get_or ls j [])) ≡ length (flat ls)
  index_end [] j last = absurd (omega arith)
  index_end (l ∷ []) zero last = omega (arith, length-append l [])
  index_end (l ∷ m ∷ ls) zero last = absurd (omega arith)
  index_end (l ∷ ls) (suc j) last = omega (arith, length-append l (flat ls), index_end ls j (omega arith))

  pub index_spot : (ls : List (List X)) (j k : ℕ) → j < length ls → k ≤ length (get_or ls j []) → index_at ls j k ≤ length (flat ls)
  index_spot [] j k less within = absurd (omega arith)
  index_spot (l ∷ ls) zero k less within = omega (arith, length-append l (flat ls), within)
  index_spot (l ∷ ls) (suc j) k less within = omega (arith, length-append l (flat ls), index_spot ls j k (omega arith) within)

  pub index_within : (ls : List (List X)) (j k : ℕ) → j < length ls → k < length (get_or ls j []) → index_at ls j k < length (flat ls)
  index_within [] j k less within = absurd (omega arith)
  index_within (l ∷ ls) zero k less within = omega (arith, length-append l (flat ls), within)
  index_within (l ∷ ls) (suc j) k less within = omega (arith, length-append l (flat ls), index_within ls j k (omega arith) within)

  pub index_grows : (ls : List (List X)) (j a b : ℕ) → a ≤ b → index_at ls j a ≤ index_at ls j b
  index_grows [] j a b le = le
  index_grows (l ∷ ls) zero a b le = le
  index_grows (l ∷ ls) (suc j) a b le = omega (arith, index_grows ls j a b le)

  pub leaf_index_grows : (ls : List (List X)) (i j : ℕ) → i ≤ j → j < length ls → index_at ls i 0 ≤ index_at ls j 0
  leaf_index_grows [] i j le less = absurd (omega arith)
  leaf_index_grows (l ∷ ls) zero j le less = omega arith
  leaf_index_grows (l ∷ ls) (suc i) zero le less = absurd (omega arith)
  leaf_index_grows (l ∷ ls) (suc i) (suc j) le less = omega (arith, leaf_index_grows ls i j (omega arith) (omega arith))

  -- what stands so far behind the start of a leaf that it is in a later one
  pub index_later : (ls : List (List X)) (j k : ℕ) → length (get_or ls j []) ≤ k → index_at ls (suc j) (k - length (get_or ls j [])) ≡ index_at ls j k
  index_later [] j k far = omega arith
  index_later (l ∷ ls) zero k far = omega (arith, far, index_first ls (k - length l))
  index_later (l ∷ ls) (suc j) k far = ap (λ (q : ℕ). length l + q) (index_later ls j k far)

  -- behind all leaves
  pub index_past : (ls : List (List X)) (j k : ℕ) → length ls ≤ j → length (flat ls) ≤ index_at ls j k
  index_past [] j k past = omega arith
  index_past (l ∷ ls) zero k past = absurd (omega (arith, past))
  index_past (l ∷ ls) (suc j) k past = omega (arith, length-append l (flat ls), index_past ls j k (omega (arith, past)))
