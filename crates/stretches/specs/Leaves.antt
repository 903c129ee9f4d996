-- Entries in leaves: short lists, one behind the other.
use Rattle.std.specs.Prelude.{◌≡◌, ℕ, zero, suc, ◌+◌, ◌*◌, ◌<◌, ◌≤◌, List, [], ◌∷◌, ◌++◌, length, take, drop, insert, remove, slice_index_or, slice_set}

-- what a contract sees: the leaves in order, and for how many entries memory is there
pub record Leaves (X : Type 0) : Type 0 where
  pub lists : List (List X)
  pub places : ℕ

module _ {X : Type 0} where
  -- the entries of all leaves, in order
  abbrev pub flat : List (List X) → List X
  flat [] = []
  flat (l ∷ ls) = l ++ flat ls

  -- the entries that a contract sees
  abbrev pub entries : Leaves X → List X
  entries l = flat l.lists

  -- the leaf at an index
  abbrev pub leaf_at : List (List X) → ℕ → List X
  leaf_at ls j = slice_index_or ls j []

  -- the leaves with the one at an index in two
  abbrev pub halved : List (List X) → ℕ → List (List X)
  halved ls j = insert (slice_set ls j (take 64 (leaf_at ls j))) (suc j) (drop 64 (leaf_at ls j))

  -- the leaves with the one at an index and the next one in one
  abbrev pub joined : List (List X) → ℕ → List (List X)
  joined ls j = slice_set (remove ls (suc j)) j (leaf_at ls j ++ leaf_at ls (suc j))

  -- each leaf has an entry, and more than 64 together with the leaf before it; the first is taken
  -- to stand behind one of so many
  abbrev pub AreSpreadBehind : ℕ → List (List X) → Type 0
  AreSpreadBehind before [] = Unit {0}
  AreSpreadBehind before (l ∷ ls) =
      (0 < length l) × (64 < before + length l) × AreSpreadBehind (length l) ls

  -- the same but that the leaf at an index may lack one entry
  abbrev pub IsShortBehind : ℕ → List (List X) → ℕ → Type 0
  IsShortBehind before [] j = Unit {0}
  IsShortBehind before (l ∷ ls) zero =
      (64 ≤ before + length l) × AreSpreadBehind (length l + 1) ls
  IsShortBehind before (l ∷ ls) (suc j) =
      (0 < length l) × (64 < before + length l) × IsShortBehind (length l) ls j

  -- each leaf has an entry, and any two neighbours have more than 64 together. So n entries have
  -- at most (2 n + 63) / 65 leaves
  abbrev pub AreSpread : List (List X) → Type 0
  AreSpread ls = AreSpreadBehind 64 ls

  -- what is known of leaves of which there can be so many: that is enough for the entries that
  -- they are kept for
  pub record AreKept (lists : List (List X)) (limit count places : ℕ) : Type 0 where
    pub spread : AreSpread lists
    pub counted : count ≡ length (flat lists)
    pub enough : 2 * places + 63 < 65 * (limit + 1)
