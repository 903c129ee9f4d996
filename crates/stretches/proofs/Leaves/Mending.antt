-- A leaf that goes, and two leaves in one.
use Rattle.std.proofs.Common.{◌≡◌, ℕ, zero, suc, ◌+◌, ◌<◌, List, [], ◌∷◌, ◌++◌, length, get_or, set, refl, sym, ap, arith}
use Rattle.std.specs.List.{remove}
use Rattle.std.proofs.lemmas.List.{append_assoc, length-append}
use Rattle.stretches.specs.Leaves.{AreSpreadBehind, IsShortBehind, flat, joined}
use Rattle.stretches.proofs.Leaves.Spread.{spread_anew, spread_later}

module _ {X : Type 0} where
  -- a leaf gets the entries of the next one, and this goes
  pub joined_is : (ls : List (List X)) (j : ℕ) → suc j < length ls → remove (set (set ls j (get_or ls j [] ++ get_or ls (suc j) [])) (suc j) []) (suc j) ≡ joined ls j
  joined_is [] j less = absurd (omega arith)
  joined_is (l ∷ []) j less = absurd (omega arith)
  joined_is (l ∷ m ∷ ls) zero less = refl
  joined_is (l ∷ m ∷ ls) (suc j) less = ap (λ (q : List (List X)). l ∷ q) (joined_is (m ∷ ls) j (omega arith))

  pub flat_joined : (ls : List (List X)) (j : ℕ) → suc j < length ls → flat (joined ls j) ≡ flat ls
  flat_joined [] j less = absurd (omega arith)
  flat_joined (l ∷ []) j less = absurd (omega arith)
  flat_joined (l ∷ m ∷ ls) zero less = append_assoc l m (flat ls)
  flat_joined (l ∷ m ∷ ls) (suc j) less = ap (λ (q : List X). l ++ q) (flat_joined (m ∷ ls) j (omega arith))

  pub flat_dropped : (ls : List (List X)) (j : ℕ) → j < length ls → length (get_or ls j []) ≡ 0 → flat (remove ls j) ≡ flat ls
  flat_dropped [] j less none = absurd (omega arith)
  flat_dropped ([] ∷ ls) zero less none = refl
  flat_dropped ((x ∷ xs) ∷ ls) zero less none = absurd (omega arith)
  flat_dropped (l ∷ ls) (suc j) less none = ap (λ (q : List X). l ++ q) (flat_dropped ls j (omega arith) none)

  -- the leaf that was short goes when it is empty
  pub spread_dropped : (before : ℕ) (ls : List (List X)) (j : ℕ) → j < length ls → length (get_or ls j []) ≡ 0 → IsShortBehind before ls j → AreSpreadBehind before (remove ls j)
  spread_dropped before [] j less none short = absurd (omega arith)
  spread_dropped before (l ∷ ls) zero less none short = spread_anew (length l + 1) before ls (omega (arith, short.0, none)) short.1
  spread_dropped before (l ∷ ls) (suc j) less none short = (short.0, short.1, spread_dropped (length l) ls j (omega arith) none short.2)

  -- the leaf that was short takes in the next one
  pub spread_with_next : (before : ℕ) (ls : List (List X)) (j : ℕ) → 0 < before → suc j < length ls → IsShortBehind before ls j → AreSpreadBehind before (joined ls j)
  spread_with_next before [] j some less short = absurd (omega arith)
  spread_with_next before (l ∷ []) j some less short = absurd (omega arith)
  spread_with_next before (l ∷ m ∷ ls) zero some less short =
      let both = length-append l m in
      (omega (arith, both, short.1.1), omega (arith, both, short.1.1, some), spread_later (length m) (length (l ++ m)) ls (omega (arith, both)) short.1.2)
  spread_with_next before (l ∷ m ∷ ls) (suc j) some less short = (short.0, short.1, spread_with_next (length l) (m ∷ ls) j short.0 (omega arith) short.2)

  -- the leaf before takes in the one that was short
  pub spread_with_last : (before : ℕ) (ls : List (List X)) (j : ℕ) → suc j < length ls → IsShortBehind before ls (suc j) → AreSpreadBehind before (joined ls j)
  spread_with_last before [] j less short = absurd (omega arith)
  spread_with_last before (l ∷ []) j less short = absurd (omega arith)
  spread_with_last before (l ∷ m ∷ ls) zero less short =
      let both = length-append l m in
      (omega (arith, both, short.0), omega (arith, both, short.1), spread_later (length m + 1) (length (l ++ m)) ls (omega (arith, both, short.0)) short.2.1)
  spread_with_last before (l ∷ m ∷ ls) (suc j) less short = (short.0, short.1, spread_with_last (length l) (m ∷ ls) j (omega arith) short.2)

  -- the leaf that was short has enough with either neighbour
  pub spread_as_is : (before : ℕ) (ls : List (List X)) (j : ℕ) → 0 < length (get_or ls j [])
      → (suc j < length ls → 64 < length (get_or ls j []) + length (get_or ls (suc j) []))
      → ((i : ℕ) → suc i ≡ j → 64 < length (get_or ls i []) + length (get_or ls j []))
      → (j ≡ 0 → 64 < before + length (get_or ls j []))
      → IsShortBehind before ls j → AreSpreadBehind before ls
  spread_as_is before [] j some next last first short = tt
  spread_as_is before (l ∷ []) zero some next last first short = (some, first refl, tt)
  spread_as_is before (l ∷ m ∷ ls) zero some next last first short = (some, first refl, (short.1.0, next (omega arith), short.1.2))
  spread_as_is before (l ∷ ls) (suc j) some next last first short =
      (short.0, short.1, spread_as_is (length l) ls j some (λ less. next (omega arith)) (λ i e. last (suc i) (ap suc e)) (λ e. last 0 (ap suc (sym e))) short.2)
