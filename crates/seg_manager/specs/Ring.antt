-- The caches that are kept, as they are linked one after the other.
use Rattle.std.specs.Prelude.{◌≡◌, ℕ, zero, suc, List, [], ◌∷◌, length, Option, Some, None, is_some, option_map, option_and_then}
use Rattle.std.specs.Option.{option_map_or}
use Rattle.vm_ids.specs.declared.numbers.CacheId.{CacheId}
use Rattle.seg_manager.specs.Linked.{Linked, link_of}
use Rattle.seg_manager.specs.Keeps.{AreOnce, is_kept}
use Rattle.seg_manager.specs.declared.links.Link.{Link}
use Rattle.seg_manager.specs.declared.tables.Kept.{Kept}

-- what comes after a cache, or first; what comes before it, or last; and what is kept of it
abbrev pub after_of : Linked → Option CacheId → Option CacheId
after_of l None = l.first
after_of l (Some c) = option_and_then (λ (x : Link). x.after) (link_of l c.0)

abbrev pub before_of : Linked → Option CacheId → Option CacheId
before_of l None = l.last
before_of l (Some c) = option_and_then (λ (x : Link). x.before) (link_of l c.0)

abbrev pub kept_of : Linked → ℕ → Option Kept
kept_of l n = option_map (λ (x : Link). x.kept) (link_of l n)

-- Behind a cache come these, each linked with its neighbours, and then none.
abbrev pub AreLinked : (Option CacheId → Option CacheId) → (Option CacheId → Option CacheId)
    → (ℕ → Option Kept) → Option CacheId → List Kept → Type 0
AreLinked after before kept cache [] = (after cache ≡ None) × (before None ≡ cache)
AreLinked after before kept cache (k ∷ ks) =
    (after cache ≡ Some k.cache) × (before (Some k.cache) ≡ cache)
    × (kept k.cache.0 ≡ Some k) × AreLinked after before kept (Some k.cache) ks

-- so many of the caches that come from here on
abbrev pub walk : Linked → ℕ → Option CacheId → List Kept
walk l zero cache = []
walk l (suc n) None = []
walk l (suc n) (Some c) =
    option_map_or (λ (x : Link). x.kept ∷ walk l n x.after) (link_of l c.0) []

abbrev pub items_of : Linked → List Kept
items_of l = walk l (length l.links) l.first

-- These are all that are linked, each once.
pub record IsRing (l : Linked) (items : List Kept) : Type 0 where
  pub linked : AreLinked (after_of l) (before_of l) (kept_of l) None items
  pub once : AreOnce items
  pub found : (n : ℕ) → is_some (link_of l n) ≡ is_kept items n
  pub count : length items ≡ length l.links
