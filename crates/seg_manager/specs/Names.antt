-- The caches that segments name, and how the cache of a segment is found.
use Rattle.std.specs.Prelude.{◌≡◌, ◌≢◌, ◌==◌, ◌<◌, nat_eq, ℕ, List, [], ◌∷◌, Option, Some, None, if◌then◌else◌}
use Rattle.std.specs.List.{AllByRecursion}
use Rattle.std.specs.Map.{lookup}
use Rattle.vm_ids.specs.declared.numbers.CacheId.{CacheId}
use Rattle.seg_manager.specs.declared.tables.Named.{Named}

-- the caches in the order of their numbers, and for how many more there is memory
pub record Names : Type 0 where
  pub items : List Named
  pub spare : ℕ

-- the numbers rise, and no two are of one segment
abbrev pub AreNamed : List Named → Type 0
AreNamed [] = Unit {0}
AreNamed (c ∷ cs) =
    AllByRecursion (λ (d : Named). (c.cache.0 < d.cache.0) × (c.seg.0 ≢ d.seg.0)) cs × AreNamed cs

-- the cache of a segment
abbrev pub cache_in : List Named → ℕ → Option CacheId
cache_in [] seg = None
cache_in (c ∷ cs) seg = if c.seg.0 == seg then Some c.cache else cache_in cs seg

-- these entries lead from each segment to its cache
pub record AreIndexed (cs : List Named) (entries : List (ℕ × CacheId)) : Type 0 where
  pub named : AreNamed cs
  pub found : (seg : ℕ) → lookup (nat_eq seg) entries ≡ cache_in cs seg
