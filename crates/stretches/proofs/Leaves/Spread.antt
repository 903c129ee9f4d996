-- Leaves that are full enough, so that some entries have few.
use Rattle.std.proofs.Common.{ℕ, zero, suc, ◌+◌, ◌*◌, ◌<◌, ◌≤◌, List, [], ◌∷◌, ◌++◌, length, get_or, set, arith}
use Rattle.std.proofs.lemmas.List.{length-append}
use Rattle.stretches.specs.Leaves.{AreSpreadBehind, IsShortBehind, flat}

module _ {X : Type 0} where
  pub spread_later : (a b : ℕ) (ls : List (List X)) → a ≤ b → AreSpreadBehind a ls → AreSpreadBehind b ls
  spread_later a b [] le spread = tt
  spread_later a b (l ∷ ls) le spread = (spread.0, omega (arith, spread.1, le), spread.2)

  -- behind a leaf that is half full any leaf with an entry will do
  pub spread_anew : (a b : ℕ) (ls : List (List X)) → 64 ≤ b → AreSpreadBehind a ls → AreSpreadBehind b ls
  spread_anew a b [] half spread = tt
  spread_anew a b (l ∷ ls) half spread = (spread.0, omega (arith, spread.0, half), spread.2)

  -- a leaf that has no fewer entries than before
  pub spread_more : (before : ℕ) (ls : List (List X)) (j : ℕ) (m : List X) → length (get_or ls j []) ≤ length m → AreSpreadBehind before ls → AreSpreadBehind before (set ls j m)
  spread_more before [] j m more spread = tt
  spread_more before (l ∷ ls) zero m more spread = (omega (arith, spread.0, more), omega (arith, spread.1, more), spread_later (length l) (length m) ls more spread.2)
  spread_more before (l ∷ ls) (suc j) m more spread = (spread.0, spread.1, spread_more (length l) ls j m more spread.2)

  -- a leaf that has one entry fewer than before
  pub short_of_one : (before : ℕ) (ls : List (List X)) (j : ℕ) (m : List X) → length (get_or ls j []) ≤ length m + 1 → AreSpreadBehind before ls → IsShortBehind before (set ls j m) j
  short_of_one before [] j m one spread = tt
  short_of_one before (l ∷ ls) zero m one spread = (omega (arith, spread.1, one), spread_later (length l) (length m + 1) ls one spread.2)
  short_of_one before (l ∷ ls) (suc j) m one spread = (spread.0, spread.1, short_of_one (length l) ls j m one spread.2)

  -- each leaf but for an odd one has 65 entries with its neighbour
  pub few_leaves : (before : ℕ) (ls : List (List X)) → AreSpreadBehind before ls → 65 * length ls ≤ 2 * length (flat ls) + 63
  few_leaves before [] spread = omega arith
  few_leaves before (l ∷ []) spread = omega (arith, spread.0, length-append l [])
  few_leaves before (l ∷ m ∷ ls) spread = omega (arith, spread.2.1, few_leaves (length m) ls spread.2.2, length-append l (m ++ flat ls), length-append m (flat ls))

  -- each leaf has an entry
  pub some_at : (before : ℕ) (ls : List (List X)) (j : ℕ) → j < length ls → AreSpreadBehind before ls → 0 < length (get_or ls j [])
  some_at before [] j less spread = absurd (omega arith)
  some_at before (l ∷ ls) zero less spread = spread.0
  some_at before (l ∷ ls) (suc j) less spread = some_at (length l) ls j (omega arith) spread.2
