-- Where a number belongs among the entries of leaves, where it belongs in its leaf.
use Rattle.std.proofs.Common.{◌≡◌, ℕ, zero, suc, ◌<◌, ◌≤◌, List, [], ◌∷◌, length, get_or, refl, ap, subst, inl, inr, arith}
use Rattle.std.specs.List.Sorted.{IsNonDecreasingBy}
use Rattle.std.proofs.lemmas.Bool.{cases_lt}
use Rattle.stretches.specs.Leaves.{AreSpread, flat}
use Rattle.stretches.specs.Parted.{IsParted}
use Rattle.stretches.specs.Places.{IsLeafFor, first_key}
use Rattle.stretches.specs.Spots.{index_at}
use Rattle.stretches.proofs.Leaves.Entries.{get_flat}
use Rattle.stretches.proofs.Leaves.Indexes.{index_end, index_first, index_grows, index_next, index_spot, index_turn, index_within}
use Rattle.stretches.proofs.Leaves.Spread.{some_at}

module _ {X : Type 0} (key : X → ℕ) (n : ℕ) where
  head : (l : List X) (d : X) → 0 < length l → first_key key l ≡ key (get_or l 0 d)
  head [] d some = absurd (omega (arith, some))
  head (x ∷ xs) d some = refl

  -- where there are no leaves
  pub parted_none : (ls : List (List X)) → length ls ≡ 0 → IsParted key (flat ls) n (index_at ls 0 0)
  parted_none [] none = record {
    within = omega arith;
    before = λ k d less. absurd (omega (arith, less));
    behind = λ k d from within. absurd (omega (arith, within));
  }
  parted_none (l ∷ ls) none = absurd (omega (arith, none))

  module _ (ls : List (List X)) (rise : IsNonDecreasingBy key (flat ls)) (spread : AreSpread ls) where
    -- the numbers of a leaf don't fall
    pub leaf_rises : (j : ℕ) → j < length ls → IsNonDecreasingBy key (get_or ls j [])
    leaf_rises j less a b d le within =
        let up = rise (index_at ls j a) (index_at ls j b) d (index_grows ls j a b le) (index_within ls j b less within) in
        omega (arith, up, ap key (get_flat ls j a d less (omega (arith, le, within))), ap key (get_flat ls j b d less within))

    before_flat : (at j : ℕ) → IsLeafFor key ls n j → IsParted key (get_or ls j []) n at → (k : ℕ) (d : X) → k < index_at ls j at → key (get_or (flat ls) k d) ≤ n
    before_flat zero zero leaf place k d below = absurd (omega (arith, below, index_first ls 0))
    before_flat zero (suc j) leaf place k d below =
        let some = some_at 64 ls (suc j) leaf.within spread in
        absurd (omega (arith, leaf.before (omega arith), head (get_or ls (suc j) []) d some, place.behind 0 d (omega arith) some))
    before_flat (suc a) j leaf place k d below =
        let inside : a < length (get_or ls j []) = omega (arith, place.within) in
        let up = rise k (index_at ls j a) d (omega (arith, below, index_next ls j a)) (index_within ls j a leaf.within inside) in
        omega (arith, up, ap key (get_flat ls j a d leaf.within inside), place.before a d (omega arith))

    behind_flat : (at j : ℕ) → IsLeafFor key ls n j → IsParted key (get_or ls j []) n at → (k : ℕ) (d : X) → index_at ls j at ≤ k → k < length (flat ls) → n < key (get_or (flat ls) k d)
    behind_flat at j leaf place k d from within = elim (cases_lt at (length (get_or ls j []))) [
      | inl inside ↦
          let up = rise (index_at ls j at) k d from within in
          omega (arith, up, ap key (get_flat ls j at d leaf.within inside), place.behind at d (omega arith) inside)
      | inr outside ↦
          let end : at ≡ length (get_or ls j []) = omega (arith, outside, place.within) in
          let past : index_at ls j (length (get_or ls j [])) ≤ k = subst (λ (q : ℕ). index_at ls j q ≤ k) end from in
          elim (cases_lt (suc j) (length ls)) [
            | inl follows ↦
                let some = some_at 64 ls (suc j) follows spread in
                let up = rise (index_at ls (suc j) 0) k d (subst (λ (q : ℕ). q ≤ k) (index_turn ls j follows) past) within in
                omega (arith, up, ap key (get_flat ls (suc j) 0 d follows some), head (get_or ls (suc j) []) d some, leaf.behind follows)
            | inr last ↦ absurd (omega (arith, past, within, index_end ls j (omega (arith, leaf.within, last))))
          ]
    ]

    pub parted_flat : (j at : ℕ) → IsLeafFor key ls n j → IsParted key (get_or ls j []) n at → IsParted key (flat ls) n (index_at ls j at)
    parted_flat j at leaf place = record {
      within = index_spot ls j at leaf.within place.within;
      before = before_flat at j leaf place;
      behind = behind_flat at j leaf place;
    }
