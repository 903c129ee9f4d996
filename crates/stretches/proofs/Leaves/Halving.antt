-- A leaf in two.
use Rattle.std.proofs.Common.{◌≡◌, ℕ, zero, suc, ◌+◌, ◌-◌, ◌<◌, ◌≤◌, List, [], ◌∷◌, ◌++◌, length, get_or, set, take, drop, refl, sym, ap, add-one, ◌∙◌, arith}
use Rattle.std.specs.List.{insert}
use Rattle.std.proofs.lemmas.List.{append_assoc, length-take-le, length-drop, take-append-drop}
use Rattle.stretches.specs.Leaves.{AreSpreadBehind, flat, halved}
use Rattle.stretches.specs.Spots.{index_at}
use Rattle.stretches.proofs.Leaves.Spread.{spread_anew}

module _ {X : Type 0} where
  opened : (ls : List (List X)) (j : ℕ) → j < length ls → (let ms = insert ls (suc j) [] in set (set ms (suc j) (get_or ms (suc j) [] ++ drop 64 (get_or ms j []))) j (take 64 (get_or ms j []))) ≡ halved ls j
  opened [] j less = absurd (omega arith)
  opened (l ∷ ls) zero less = refl
  opened (l ∷ ls) (suc j) less = ap (λ (q : List (List X)). l ∷ q) (opened ls j (omega arith))

  -- a leaf comes behind another, and gets the second half of its entries
  pub halved_is : (ls ms : List (List X)) (j : ℕ) → j < length ls → ms ≡ insert ls (suc j) [] → set (set ms (suc j) (get_or ms (suc j) [] ++ drop 64 (get_or ms j []))) j (take 64 (get_or ms j [])) ≡ halved ls j
  halved_is ls ms j less is = ap (λ (q : List (List X)). set (set q (suc j) (get_or q (suc j) [] ++ drop 64 (get_or q j []))) j (take 64 (get_or q j []))) is ∙ opened ls j less

  pub flat_halved : (ls : List (List X)) (j : ℕ) → j < length ls → flat (halved ls j) ≡ flat ls
  flat_halved [] j less = absurd (omega arith)
  flat_halved (l ∷ ls) zero less = sym (append_assoc (take 64 l) (drop 64 l) (flat ls)) ∙ ap (λ (q : List X). q ++ flat ls) (take-append-drop 64 l)
  flat_halved (l ∷ ls) (suc j) less = ap (λ (q : List X). l ++ q) (flat_halved ls j (omega arith))

  pub length_halved : (ls : List (List X)) (j : ℕ) → j < length ls → length (halved ls j) ≡ suc (length ls)
  length_halved [] j less = absurd (omega arith)
  length_halved (l ∷ ls) zero less = refl
  length_halved (l ∷ ls) (suc j) less = ap suc (length_halved ls j (omega arith))

  pub index_front : (ls : List (List X)) (j k : ℕ) → j < length ls → index_at (halved ls j) j k ≡ index_at ls j k
  index_front [] j k less = absurd (omega arith)
  index_front (l ∷ ls) zero k less = refl
  index_front (l ∷ ls) (suc j) k less = ap (λ (q : ℕ). length l + q) (index_front ls j k (omega arith))

  pub index_rest : (ls : List (List X)) (j k : ℕ) → j < length ls → 64 ≤ length (get_or ls j []) → 64 ≤ k → index_at (halved ls j) (suc j) (k - 64) ≡ index_at ls j k
  index_rest [] j k less long far = absurd (omega arith)
  index_rest (l ∷ ls) zero k less long far = ap (λ (q : ℕ). q + (k - 64)) (length-take-le 64 l long) ∙ omega (arith, far)
  index_rest (l ∷ ls) (suc j) k less long far = ap (λ (q : ℕ). length l + q) (index_rest ls j k (omega arith) long far)

  pub leaf_front : (ls : List (List X)) (j : ℕ) → j < length ls → get_or (halved ls j) j [] ≡ take 64 (get_or ls j [])
  leaf_front [] j less = absurd (omega arith)
  leaf_front (l ∷ ls) zero less = refl
  leaf_front (l ∷ ls) (suc j) less = leaf_front ls j (omega arith)

  pub leaf_rest : (ls : List (List X)) (j : ℕ) → j < length ls → get_or (halved ls j) (suc j) [] ≡ drop 64 (get_or ls j [])
  leaf_rest [] j less = absurd (omega arith)
  leaf_rest (l ∷ ls) zero less = refl
  leaf_rest (l ∷ ls) (suc j) less = leaf_rest ls j (omega arith)

  pub spread_halved : (before : ℕ) (ls : List (List X)) (j : ℕ) → 0 < before → j < length ls → 128 ≤ length (get_or ls j []) → AreSpreadBehind before ls → AreSpreadBehind before (halved ls j)
  spread_halved before [] j some less full spread = absurd (omega arith)
  spread_halved before (l ∷ ls) zero some less full spread =
      let front : length (take 64 l) ≡ 64 = length-take-le 64 l (omega (arith, full)) in
      let rest : length (drop 64 l) ≡ length l - 64 = length-drop 64 l in
      (omega (arith, front), omega (arith, front, some), (omega (arith, rest, full), omega (arith, front, rest, full), spread_anew (length l) (length (drop 64 l)) ls (omega (arith, rest, full)) spread.2))
  spread_halved before (l ∷ ls) (suc j) some less full spread = (spread.0, spread.1, spread_halved (length l) ls j spread.0 (omega arith) full spread.2)

  -- what there is after a full leaf was halved
  module _ (ls new : List (List X)) (j : ℕ) (less : j < length ls) (full : length (get_or ls j []) ≡ 128) (is : new ≡ halved ls j) where
    pub halved_entries : flat new ≡ flat ls
    halved_entries = ap flat is ∙ flat_halved ls j less

    pub halved_count : length new ≡ suc (length ls)
    halved_count = ap length is ∙ length_halved ls j less

    pub front_length : length (get_or new j []) ≡ 64
    front_length = ap (λ (q : List (List X)). length (get_or q j [])) is ∙ ap length (leaf_front ls j less) ∙ length-take-le 64 (get_or ls j []) (omega (arith, full))

    pub rest_length : length (get_or new (j + 1) []) ≡ 64
    rest_length =
        ap (λ (q : List (List X)). length (get_or q (j + 1) [])) is ∙ ap (λ (q : ℕ). length (get_or (halved ls j) q [])) (add-one j)
        ∙ ap length (leaf_rest ls j less) ∙ omega (arith, length-drop 64 (get_or ls j []), full)

    pub front_index : (k : ℕ) → index_at new j k ≡ index_at ls j k
    front_index k = ap (λ (q : List (List X)). index_at q j k) is ∙ index_front ls j k less

    pub rest_index : (k : ℕ) → 64 ≤ k → index_at new (j + 1) (k - 64) ≡ index_at ls j k
    rest_index k far =
        ap (λ (q : List (List X)). index_at q (j + 1) (k - 64)) is ∙ ap (λ (q : ℕ). index_at (halved ls j) q (k - 64)) (add-one j)
        ∙ index_rest ls j k less (omega (arith, full)) far
