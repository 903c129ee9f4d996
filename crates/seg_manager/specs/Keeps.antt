-- The caches that are kept.
use Rattle.std.specs.Prelude.{◌≡◌, ◌==◌, ℕ, Bool, false, List, [], ◌∷◌}
use Rattle.std.specs.List.{list_any}
use Rattle.seg_manager.specs.declared.tables.Kept.{Kept}

-- the caches to which nothing refers, the least recently used first, and for how many there is
-- memory
pub record Keeps : Type 0 where
  pub items : List Kept
  pub room : ℕ

-- a cache with this number is kept
abbrev pub is_kept : List Kept → ℕ → Bool
is_kept kept cache = list_any (λ (k : Kept). k.cache.0 == cache) kept

-- no cache is kept twice
abbrev pub AreOnce : List Kept → Type 0
AreOnce [] = Unit {0}
AreOnce (k ∷ ks) = (is_kept ks k.cache.0 ≡ false) × AreOnce ks
