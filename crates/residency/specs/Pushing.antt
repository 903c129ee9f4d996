-- What becomes of the segments while pages of nodes are pushed.
use Rattle.std.specs.Prelude.{◌≡◌, ℕ, ◌+◌, ◌<◌, ◌≤◌, false, List, [], ◌∷◌, length, Option, None, Some, option_map, unwrap_or}
use Rattle.std.specs.List.{AllByRecursion}
use Rattle.std.specs.Option.{option_map_or}
use Rattle.vm_ids.specs.Counting.{MapperCounts, last_count}
use Rattle.vm_ids.specs.Held.{Segments, put_segment_page, segments_of}
use Rattle.vm_ids.specs.declared.numbers.NodeId.{NodeId}
use Rattle.local_cache.specs.declared.home.Home.{Home}
use Rattle.local_cache.specs.Arena.{Arena}
use Rattle.local_cache.specs.Home.{home_of}
use Rattle.local_cache.specs.Own.{is_absent, own_of}
use Rattle.residency.specs.World.{IsAllowed, World, own_page}

-- a page of each node, or none; and where its bytes aren't told, no more than that there is one
abbrev pub Pages : Type 0
Pages = NodeId → Option (Option (List ℕ))

-- the bytes of such a page, or none where they aren't told
abbrev pub told_bytes : Option (Option (List ℕ)) → List ℕ
told_bytes page = unwrap_or (unwrap_or page None) []

-- the segments with a node's page at its home
abbrev pub put_home : Arena → Pages → NodeId → Segments → Segments
put_home a pages n s = option_map_or
    (λ (home : Home). put_segment_page home.segment.0 home.page.0 (told_bytes (pages n)) s)
    (home_of a n) s

-- the segments after the pages of these nodes were pushed, one after the other
abbrev pub put_homes : Arena → Pages → List NodeId → Option Segments → Option Segments
put_homes a pages [] s = s
put_homes a pages (n ∷ ns) s = put_homes a pages ns (option_map (put_home a pages n) s)

-- the count rose by this number or more, where it is below the last number
abbrev pub RoseAtLeast : ℕ → ℕ → ℕ → Type 0
RoseAtLeast n before now = now < last_count → before + n ≤ now

-- From before to now the mapper's segments changed by pushes of such pages alone, of nodes that may
-- be pushed, to their homes, and each of these is counted. What it denies stays, and where it told
-- nothing it tells nothing.
pub record TellsBy (May : NodeId → Type 0) (pages : Pages) (old new : World)
    (before now : MapperCounts) : Type 0 where
  pub pushed : List NodeId
  pub may : AllByRecursion May pushed
  pub segments : segments_of new.told ≡ put_homes old.caches pages pushed (segments_of old.told)
  pub counted : RoseAtLeast (length pushed) before.pushes now.pushes

-- a node has a home, which isn't denied for writing where that is told
pub record HasOpenHome (w : World) (n : NodeId) : Type 0 where
  pub home : Home
  pub is : home_of w.caches n ≡ Some home
  pub allowed : IsAllowed w home

-- the own page of a node may be pushed to its segment: the node has such a home, and an own page
pub record MayPush (w : World) (n : NodeId) : Type 0 where
  pub at : HasOpenHome w n
  pub own_page : is_absent (own_of w.caches n) ≡ false

-- what is pushed are own pages
abbrev pub TellsOn : World → World → MapperCounts → MapperCounts → Type 0
TellsOn old = TellsBy (MayPush old) (own_page old) old
