-- Which segments' caches are kept after a call, by which were before.
use Rattle.std.specs.Prelude.{◌≡◌, ◌==◌, ◌≤◌, ◌<◌, ◌⊎◌, ℕ, ◌+◌, ◌-◌, not, Bool, true, false, List, [], ◌∷◌, ◌++◌, drop, filter, length, map, take, Option, Some, None, Result, Ok, Err, if◌then◌else◌}
use Rattle.std.specs.List.{list_any}
use Rattle.std.specs.Option.{option_map_or}
use Rattle.vm_ids.specs.Counting.{Rose}
use Rattle.vm_ids.specs.declared.numbers.CacheId.{CacheId}
use Rattle.vm_ids.specs.declared.reply.Trouble.{Trouble}
use Rattle.vm_model.specs.Machine.{Actor, Cache, Machine, Region, segment_of}
use Rattle.seg_manager.specs.ReferenceMachine.{ReferenceMachine, is_unreferenced, number_in}

-- one of these segments names the cache
abbrev pub is_of_any : List ℕ → Cache → Bool
is_of_any segs c = option_map_or (λ seg. list_any (λ s. s == seg) segs) c.segment false

abbrev pub but_for : List ℕ → Option Cache → Option Cache
but_for segs None = None
but_for segs (Some c) = if is_of_any segs c then None else Some c

-- the machine without the caches of these segments
abbrev pub without : List ℕ → Machine → Machine
without segs m = record m { caches = map (but_for segs) m.caches }

-- Some of the least recently used are gone, or none: each went for a cause that there still was
-- when those before it had gone.
pub record AreBehind (Cause : List ℕ → Type 0) (before now : List ℕ) : Type 0 where
  pub gone : ℕ
  pub is : now ≡ drop gone before
  pub few : gone ≤ length before
  pub cause : (i : ℕ) → i < gone → Cause (take i before)

-- After an opening of a segment: if it was kept, it is no longer; else some may have made room,
-- each for a cause.
abbrev pub IsAcquired : (List ℕ → Type 0) → Bool → ℕ → List ℕ → Result CacheId Trouble → List ℕ
    → Type 0
IsAcquired Cause true seg before (Ok cache) now = now ≡ filter (λ s. not (s == seg)) before
IsAcquired Cause true seg before (Err trouble) now = now ≡ before
IsAcquired Cause false seg before result now = AreBehind Cause before now

-- Of these, as many are left as may be, the most recently used: or some more, where the mapper
-- failed meanwhile.
pub record AreLast (limit : ℕ) (faults faults_then : ℕ) (all now : List ℕ) : Type 0 where
  pub gone : ℕ
  pub is : now ≡ drop gone all
  pub few : gone ≤ length all - limit
  pub last : (gone ≡ length all - limit) ⊎ Rose faults faults_then

-- the machine with these caches and the references of the other
abbrev pub referred : ReferenceMachine → ReferenceMachine → ReferenceMachine
referred m next =
    record next { memory = record next.memory { caches = m.memory.caches } }

-- the segment of a cache to which nothing refers
abbrev pub left_one : ReferenceMachine → ℕ → List ℕ
left_one m n =
    if is_unreferenced m n then option_map_or (λ seg. seg ∷ []) (segment_of m.memory n) [] else []

-- The segments of the caches to which nothing refers, of those whose references went, in this
-- order: each where its last reference went.
abbrev pub left_by : ReferenceMachine → List ℕ → List ℕ
left_by m [] = []
left_by m (n ∷ ns) =
    (if list_any (λ k. k == n) ns then [] else left_one m n) ++ left_by m ns

-- the caches that regions of these actors map, of those regions that go; the first of these actors
-- has this number
abbrev pub mapped_at : (ℕ → Region → Bool) → ℕ → Option Actor → List ℕ
mapped_at test actor None = []
mapped_at test actor (Some regions) =
    map (λ (r : Region). r.cache) (filter (test actor) regions)

abbrev pub mapped_by : (ℕ → Region → Bool) → ℕ → List (Option Actor) → List ℕ
mapped_by test actor [] = []
mapped_by test actor (a ∷ actors) =
    mapped_at test actor a ++ mapped_by test (actor + 1) actors

-- those that an actor's regions map, and one that a region maps
abbrev pub mapped_in : Machine → ℕ → List ℕ
mapped_in m actor = mapped_by (λ n r. n == actor) 1 m.actors

abbrev pub mapped_under : Machine → ℕ → List ℕ
mapped_under m region = mapped_by (λ n r. r.number == region) 1 m.actors

-- the one cache of a segment, where it has one
abbrev pub cache_for : Machine → ℕ → List ℕ
cache_for m seg = option_map_or (λ n. n ∷ []) (number_in 1 m.caches seg) []
