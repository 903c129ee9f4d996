-- What the inner calls say.
use Rattle.std.specs.Prelude.{◌≡◌, ◌==◌, ◌||◌, ◌&&◌, ◌≤◌, nat_lt, not, ℕ, ◌+◌, ◌-◌, Bool, true, false, List, [], ◌∷◌, ◌++◌, filter, Option, Some, None, Result, Ok, Err, slice_get, slice_set, if◌then◌else◌}
use Rattle.std.specs.List.{list_any, position_from}
use Rattle.vm_ids.specs.declared.command.Mapping.{Mapping}
use Rattle.vm_ids.specs.declared.command.Span.{Span}
use Rattle.vm_ids.specs.declared.numbers.CacheId.{CacheId}
use Rattle.vm_ids.specs.declared.numbers.SegId.{SegId}
use Rattle.vm_ids.specs.declared.reply.Trouble.{Trouble}
use Rattle.vm_ids.specs.declared.reply.Trouble.TheVariants.{Memory, Refused}
use Rattle.seg_manager.specs.declared.manager.SegManager.{SegManager}
use Rattle.vm_ids.specs.declared.refusal.Refusal.{Refusal}
use Rattle.vm_ids.specs.declared.refusal.Refusal.TheVariants.{NotOpen, TooMany}
use Rattle.seg_manager.specs.Seen.{is_kept, maps, openings_in}
use Rattle.seg_manager.specs.declared.tables.Kept.{Kept}
use Rattle.seg_manager.specs.declared.tables.Leaving.{Leaving}
use Rattle.seg_manager.specs.declared.tables.Leaving.TheVariants as leavings
use Rattle.seg_manager.specs.declared.tables.Mapped.{Mapped}
use Rattle.seg_manager.specs.declared.tables.Named.{Named}

-- a test on what names the segment, and on the cache itself
abbrev pub first_of : ℕ → Named → Bool
first_of seg c = c.seg.0 == seg

abbrev pub first_with : ℕ → Named → Bool
first_with cache c = c.cache.0 == cache

abbrev pub is_of : ℕ → Kept → Bool
is_of cache k = k.cache.0 == cache

-- the first that passes the test stands there
abbrev pub StandsAt : {A : Type 0} → List A → (A → Bool) → Option ℕ → Type 0
StandsAt xs test place = place ≡ position_from test 0 xs

-- the region goes
abbrev pub leaves : Leaving → Mapped → Bool
leaves (leavings.Actor actor) x = x.actor.0 == actor.0
leaves (leavings.Region region) x = x.region.0 == region.0

-- it stands before the other
abbrev pub comes_before : Mapped → Mapped → Bool
comes_before x y =
    nat_lt x.actor.0 y.actor.0 || (x.actor.0 == y.actor.0 && nat_lt x.address y.address)

-- the place of a region among these, the first of which stands there
abbrev pub place_from : Mapped → ℕ → List Mapped → ℕ
place_from x i [] = i
place_from x i (y ∷ ys) = if comes_before x y then i else place_from x (i + 1) ys

-- the cache as a command finds it: none where it is kept
abbrev pub shown : List Kept → CacheId → CacheId
shown kept cache = if is_kept kept cache.0 then record { 0 = 0 } else cache

abbrev pub mapping_shown : List Kept → Mapping → Mapping
mapping_shown kept mapping =
    record mapping { extent = record mapping.extent { cache = shown kept mapping.extent.cache } }

abbrev pub span_shown : List Kept → Span → Span
span_shown kept s = record s { from = shown kept s.from; to = shown kept s.to }

-- the cache with this number, as it is noted
abbrev pub named_with : ℕ → List Named → Option Named
named_with cache [] = None
named_with cache (c ∷ cs) = if c.cache.0 == cache then Some c else named_with cache cs

-- a cache as one that is kept, where nothing refers to it
abbrev pub kept_by : List Mapped → CacheId → Option Named → List Kept
kept_by regions cache None = []
kept_by regions cache (Some c) =
    if c.openings == 0 && not (list_any (maps cache.0) regions)
    then record { seg = c.seg; cache = cache } ∷ [] else []

abbrev pub unused_in : List Named → List Mapped → CacheId → List Kept
unused_in caches regions cache = kept_by regions cache (named_with cache.0 caches)

-- the regions that stay
abbrev pub staying : Leaving → List Mapped → List Mapped
staying leaving regions = filter (λ x. not (leaves leaving x)) regions

-- the caches that are kept as the last of these regions go, one after the other, while others stay
abbrev pub unused_after : List Named → List Mapped → List Mapped → List Kept
unused_after caches stay [] = []
unused_after caches stay (x ∷ xs) =
    unused_in caches (xs ++ stay) x.cache ++ unused_after caches stay xs

abbrev pub unused_then : List Named → Leaving → List Mapped → List Kept
unused_then caches leaving regions =
    unused_after caches (staying leaving regions) (filter (leaves leaving) regions)

-- An opening of the segment of this cache is taken back.
pub record Closes (caches : List Named) (seg : SegId) (cache : CacheId) (now : List Named)
    : Type 0 where
  pub place : ℕ
  pub named : Named
  pub first : Some place ≡ position_from (first_of seg.0) 0 caches
  pub there : slice_get caches place ≡ Some named
  pub some : 1 ≤ named.openings
  pub is : cache ≡ named.cache
  pub then_is : now ≡ slice_set caches place (record named { openings = named.openings - 1 })

-- An opening is taken back, or none is left.
abbrev pub IsClosed : List Named → SegId → Result CacheId Refusal → List Named → Type 0
IsClosed caches seg (Ok cache) now = Closes caches seg cache now
IsClosed caches seg (Err NotOpen) now = (now ≡ caches) × (openings_in caches seg.0 ≡ 0)
IsClosed caches seg (Err r) now = ⊥

-- The cache that stands here is opened once more, and kept no longer.
pub record OpensAgain {Manager : Type 0} (old : SegManager Manager) (place : ℕ) (cache : CacheId)
    (new : SegManager Manager) : Type 0 where
  pub named : Named
  pub there : slice_get old.caches.items place ≡ Some named
  pub is : cache ≡ named.cache
  pub caches : new.caches.items
      ≡ slice_set old.caches.items place (record named { openings = named.openings + 1 })
  pub kept : new.kept.items ≡ filter (λ k. not (is_of named.cache.0 k)) old.kept.items
  pub capacity : new.kept.room ≡ old.kept.room
  pub same : new ≡ record old { caches = new.caches; kept = new.kept }

-- It is opened once more, or its openings can't be counted.
abbrev pub IsOpenedAgain : {Manager : Type 0} → SegManager Manager → ℕ → Result CacheId Trouble
    → SegManager Manager → Type 0
IsOpenedAgain old place (Ok cache) new = OpensAgain old place cache new
IsOpenedAgain old place (Err Memory) new = new ≡ old
IsOpenedAgain old place (Err trouble) new = ⊥

-- there was no room for a cache
abbrev pub is_too_many : Trouble → Bool
is_too_many (Refused TooMany) = true
is_too_many trouble = false
