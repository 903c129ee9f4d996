-- The machine that keeps each cache as plain bytes: no frames, no trees, no swap.
use Rattle.std.specs.Prelude.{◌==◌, ◌&&◌, ℕ, ◌+◌, ◌-◌, nat_le, nat_lt, Bool, false, List, [], ◌∷◌, length, Option, Some, None, option_and_then, slice_get, if◌then◌else◌, replicate, sum_by, count_by, is_some}
use Rattle.std.specs.List.{list_any, range_with_len}
use Rattle.std.specs.Option.{option_map_or}

-- as many bytes as the machine's page size says
abbrev pub Page : Type 0
Page = List ℕ

abbrev pub zero_page : ℕ → Page
zero_page page_bytes = replicate page_bytes 0

-- A local cache: the segment that names it, or none where it is temporary; and its pages.
pub record Cache : Type 0 where
  pub segment : Option ℕ
  pub pages : List Page

-- Pages of a cache, from page offset on, mapped at an address.
pub record Region : Type 0 where
  pub number : ℕ
  pub start : ℕ
  pub pages : ℕ
  pub may_write : Bool
  pub cache : ℕ
  pub offset : ℕ
  pub locked : Bool

-- The regions of an actor in order of start address. No two share an address.
abbrev pub Actor : Type 0
Actor = List Region

-- Caches and actors are numbered from 1 in the order of making, so the number made is the length; a
-- dead one is None. frames is what the limit on locked pages is counted by, and page_bytes the
-- length of a page.
pub record Machine : Type 0 where
  pub page_bytes : ℕ
  pub frames : ℕ
  pub caches : List (Option Cache)
  pub actors : List (Option Actor)
  pub regions_made : ℕ

-- how a run begins
abbrev pub start : ℕ → ℕ → Machine
start frames page_bytes =
    record { page_bytes = page_bytes; frames = frames; caches = []; actors = []; regions_made = 0 }

-- the one with this number, where it is alive
abbrev pub numbered : {A : Type 0} → List (Option A) → ℕ → Option A
numbered xs n = if n == 0 then None else option_and_then (λ x. x) (slice_get xs (n - 1))

abbrev pub cache_of : Machine → ℕ → Option Cache
cache_of m n = numbered m.caches n

abbrev pub actor_of : Machine → ℕ → Option Actor
actor_of m n = numbered m.actors n

abbrev pub living_actors : Machine → ℕ
living_actors m = count_by is_some m.actors

-- the segment names this cache
abbrev pub is_named_by : ℕ → Option Cache → Bool
is_named_by seg None = false
is_named_by seg (Some c) = option_map_or (λ s. s == seg) c.segment false

-- the live cache that this segment names
abbrev pub cache_named : List (Option Cache) → ℕ → Option Cache
cache_named [] seg = None
cache_named (c ∷ cs) seg = if is_named_by seg c then c else cache_named cs seg

-- the segment that names the cache with this number, if one does
abbrev pub segment_of : Machine → ℕ → Option ℕ
segment_of m cache = option_and_then (λ (c : Cache). c.segment) (cache_of m cache)

-- how many pages a cache has, if it is alive
abbrev pub pages_in : Option Cache → ℕ
pages_in None = 0
pages_in (Some c) = length c.pages

-- the pages of all live caches
abbrev pub live_pages : Machine → ℕ
live_pages m = sum_by pages_in m.caches

-- a locked region that covers this page of this cache
abbrev pub locks : ℕ → ℕ → Region → Bool
locks cache page r =
    r.locked && r.cache == cache && nat_le r.offset page && nat_lt page (r.offset + r.pages)

abbrev pub locks_any : ℕ → ℕ → Option Actor → Bool
locks_any cache page None = false
locks_any cache page (Some regions) = list_any (locks cache page) regions

-- a page is locked where a locked region of a living actor covers it
abbrev pub is_locked_page : Machine → ℕ → ℕ → Bool
is_locked_page m cache page = list_any (locks_any cache page) m.actors

-- how many pages of this cache are locked
abbrev pub locked_in : Machine → ℕ → ℕ
locked_in m cache =
    count_by (is_locked_page m cache) (range_with_len 0 (pages_in (cache_of m cache)))

-- The locked pages of all live caches. A page that several locked regions cover counts once.
abbrev pub locked_pages : Machine → ℕ
locked_pages m = sum_by (locked_in m) (range_with_len 1 (length m.caches))
