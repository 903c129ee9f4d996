-- Leaves in slots of one stretch of memory. No public clause cites this module.
use Rattle.std.specs.Prelude.{◌≡◌, ◌≢◌, ℕ, ◌+◌, ◌*◌, ◌<◌, ◌≤◌, List, [], ◌∷◌, ◌++◌, length, take, drop, slice_index_or}
use Rattle.stretches.specs.declared.leaf.Leaf.{Leaf}

-- what a contract sees: the leaves in order, and how many there can be
pub record Pooled (X : Type 0) : Type 0 where
  pub lists : List (List X)
  pub limit : ℕ

module _ {X : Type 0} where
  -- the entries of a leaf
  abbrev pub leaf_of : List X → Leaf → List X
  leaf_of cells l = take l.len (drop (128 * l.slot) cells)

  -- the entries of each leaf
  abbrev pub lists_of : List X → List Leaf → List (List X)
  lists_of cells [] = []
  lists_of cells (l ∷ ls) = leaf_of cells l ∷ lists_of cells ls

  -- the memory has the slot of the leaf, and this has no more entries than there is room for
  pub record IsIn (cells : List X) (l : Leaf) : Type 0 where
    pub slot : 128 * l.slot + 128 ≤ length cells
    pub len : l.len ≤ 128

  -- no memory has gone, and none has changed but that of a slot
  pub record KeepsOthers (old new : List X) (slot : ℕ) : Type 0 where
    pub long : length old ≤ length new
    pub below : (k : ℕ) (d : X) → k < 128 * slot → k < length old
        → slice_index_or new k d ≡ slice_index_or old k d
    pub behind : (k : ℕ) (d : X) → 128 * slot + 128 ≤ k → k < length old
        → slice_index_or new k d ≡ slice_index_or old k d

-- no leaf has the slot
abbrev pub IsFree : ℕ → List Leaf → Type 0
IsFree s [] = Unit {0}
IsFree s (l ∷ ls) = (l.slot ≢ s) × IsFree s ls

-- no two leaves have one slot
abbrev pub AreApart : List Leaf → Type 0
AreApart [] = Unit {0}
AreApart (l ∷ ls) = IsFree l.slot ls × AreApart ls

-- each leaf has one of so many slots, and no more entries than this has memory for
abbrev pub AreFit : ℕ → List Leaf → Type 0
AreFit slots [] = Unit {0}
AreFit slots (l ∷ ls) = (l.slot < slots) × (l.len ≤ 128) × AreFit slots ls

-- leaves in use and others, a slot for each, and memory for as many as there can be
pub record ArePooled {X : Type 0} (cells : List X) (used spare : List Leaf)
    (limit cells_limit used_limit spare_limit : ℕ) : Type 0 where
  pub apart : AreApart (used ++ spare)
  pub fit : AreFit (length used + length spare) (used ++ spare)
  pub whole : length cells ≡ 128 * (length used + length spare)
  pub few : length used + length spare ≤ limit
  pub cells_room : 128 * limit ≤ cells_limit
  pub used_room : limit ≤ used_limit
  pub spare_room : limit ≤ spare_limit
