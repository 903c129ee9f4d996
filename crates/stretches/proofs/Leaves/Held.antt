-- Spots where entries stand.
use Rattle.std.proofs.Common.{◌≡◌, ℕ, zero, suc, ◌+◌, ◌-◌, ◌<◌, List, [], ◌∷◌, length, get_or, refl, ap, ◌∙◌, inl, inr, arith}
use Rattle.std.proofs.lemmas.Bool.{cases_lt}
use Rattle.std.proofs.lemmas.List.{get_or_past}
use Rattle.stretches.specs.declared.spot.Spot.{Spot}
use Rattle.stretches.specs.Leaves.{AreSpread, Leaves, entries}
use Rattle.stretches.specs.Spots.{IsHeld, IsSpot, index, index_at}
use Rattle.stretches.proofs.Leaves.Indexes.{index_next, index_turn, index_within}
use Rattle.stretches.proofs.Leaves.Spread.{some_at}

module _ {X : Type 0} where
  pub held_within : (l : Leaves X) (p : Spot) → IsHeld l p → index l p < length (entries l)
  held_within l p held = index_within l.lists p.leaf p.at held.leaf held.at

  -- behind an entry there is a leaf
  pub spot_leaf : (l : Leaves X) (p : Spot) → IsSpot l p → 0 < p.at → p.leaf < length l.lists
  spot_leaf l p spot some = elim (cases_lt p.leaf (length l.lists)) [
    | inl less ↦ less
    | inr past ↦ absurd (omega (arith, spot.at, some, ap length (get_or_past l.lists p.leaf [] past)))
  ]

  -- among no leaves
  pub index_empty : (ls : List (List X)) (j k : ℕ) → length ls ≡ 0 → index_at ls j k ≡ k
  index_empty [] j k none = refl
  index_empty (l ∷ ls) j k none = absurd (omega arith)

  -- one spot back in a leaf
  pub index_last : (ls : List (List X)) (j k : ℕ) → 0 < k → index_at ls j (k - 1) + 1 ≡ index_at ls j k
  index_last ls j zero some = absurd (omega arith)
  index_last ls j (suc k) some =
      let less : suc k - 1 ≡ k = omega arith in
      ap (λ (q : ℕ). index_at ls j q + 1) less ∙ omega (arith, index_next ls j k)

  -- back to the last entry of the leaf before
  pub index_back : (ls : List (List X)) (j : ℕ) → 0 < j → j < length ls → AreSpread ls → index_at ls (j - 1) (length (get_or ls (j - 1) []) - 1) + 1 ≡ index_at ls j 0
  index_back ls zero some less spread = absurd (omega arith)
  index_back ls (suc j) some less spread =
      let e : suc j - 1 ≡ j = omega arith in
      ap (λ (q : ℕ). index_at ls q (length (get_or ls q []) - 1) + 1) e
      ∙ index_last ls j (length (get_or ls j [])) (some_at 64 ls j (omega (arith, less)) spread)
      ∙ index_turn ls j less
