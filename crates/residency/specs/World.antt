-- What a store, the caches and a mapper say together of each node's own page.
use Rattle.std.specs.Prelude.{◌≡◌, ◌≢◌, ℕ, ◌*◌, ◌<◌, ◌≤◌, ◌^◌, Bool, true, false, not, if◌then◌else◌, ◌||◌, List, length, replicate, Option, Some, None, option_map, option_and_then, is_some, IfSome, IsSome, slice_set, count_by}
use Rattle.vm_ids.specs.Denying.{denies}
use Rattle.vm_ids.specs.Held.{Held, page_of, slot_of}
use Rattle.vm_ids.specs.declared.node_name.NodeName.{NodeName}
use Rattle.vm_ids.specs.declared.node_name.NodeName.TheVariants.{Live, Working}
use Rattle.vm_ids.specs.declared.numbers.NodeId.{NodeId}
use Rattle.frame_pool.specs.Pool.{Frames, bytes_of, is_held, is_pinned}
use Rattle.slot_pool.specs.Slots as swap
use Rattle.global_map.specs.Pairs.{bound_times, frame_of, node_of}
use Rattle.local_cache.specs.declared.home.Home.{Home}
use Rattle.local_cache.specs.declared.own_state.OwnState.{OwnState}
use Rattle.local_cache.specs.declared.own_state.OwnState.TheVariants.{Absent, Zero, Resident, Slot, OnSegment}
use Rattle.local_cache.specs.Arena.{Arena, Cell, HasNode, find, is_granted}
use Rattle.local_cache.specs.Home.{home_of}
use Rattle.local_cache.specs.Own.{is_absent, is_in_slot, is_on_segment, is_resident, is_slot, own_of, own_states}
use Rattle.local_cache.specs.Reading.{name_of}
use Rattle.residency.specs.declared.store.Store.{Store}

-- What the mapper holds and the size of its pages, where it tells that; the caches; the parts of
-- the store, of whose marks and translations no more than how many there is room for.
pub record World : Type 0 where
  pub told : Option Held
  pub page_bytes : Option ℕ
  pub caches : Arena
  pub frames : Frames
  pub slots : List Bool
  pub map : List (Option NodeId)
  pub marks : ℕ
  pub places : ℕ

abbrev pub world : Option Held → Option ℕ → Arena → Store → World
world told page_bytes caches s = record {
  told = told;
  page_bytes = page_bytes;
  caches = caches;
  frames = s.frames;
  slots = s.slots;
  map = s.map;
  marks = length s.marks;
  places = length s.tables;
}

abbrev pub zero_page : World → List ℕ
zero_page w = replicate w.frames.page 0

abbrev pub frame_page : World → NodeId → List ℕ
frame_page w n = bytes_of w.frames (frame_of w.map n.0)

-- the page that an own state stands for: none, or the zero page, or that of its frame, of its slot,
-- of its segment
abbrev pub page_by : {P : Type 0} → P → P → (ℕ → P) → P → OwnState → Option P
page_by zero frame slot segment Absent = None
page_by zero frame slot segment Zero = Some zero
page_by zero frame slot segment (Resident dirty) = Some frame
page_by zero frame slot segment (Slot s) = Some (slot s.0)
page_by zero frame slot segment OnSegment = Some segment

-- the page that a mapper holds at a home
abbrev pub page_at : Held → Home → Option (List ℕ)
page_at h home = page_of h home.segment.0 home.page.0

-- the page that the mapper holds at a node's home, where it has one and that is told
abbrev pub home_page : World → NodeId → Option (List ℕ)
home_page w n = option_and_then (λ h. option_and_then (page_at h) (home_of w.caches n)) w.told

-- The own page of a node, or none; and where the mapper doesn't tell what it holds, no more than
-- that there is one.
abbrev pub own_page : World → NodeId → Option (Option (List ℕ))
own_page w n = page_by
    (option_map (λ _. zero_page w) w.told)
    (option_map (λ _. frame_page w n) w.told)
    (λ slot. option_and_then (λ h. slot_of h slot) w.told)
    (home_page w n)
    (own_of w.caches n)

-- the own page is one that its segment holds: it is there alone, or is clean in a frame
abbrev pub is_clean : OwnState → Bool
is_clean Absent = false
is_clean Zero = false
is_clean (Resident dirty) = not dirty
is_clean (Slot s) = false
is_clean OnSegment = true

abbrev pub is_bound : World → ℕ → Bool
is_bound w frame = is_some (node_of w.map frame)

abbrev pub is_slot_held : World → ℕ → Bool
is_slot_held w slot = swap.is_held w.slots slot

-- Each page is in one place. A node is bound to a frame where it is resident, and else it may have
-- a slot to itself.
pub record ArePlaced (caches : Arena) (frames : Frames) (slot_marks : List Bool)
    (map : List (Option NodeId)) : Type 0 where
  -- a node is bound, to one frame, exactly where it is resident
  pub bound : (n : NodeId) →
      bound_times map n.0 ≡ (if is_resident (own_of caches n) then 1 else 0)
  -- a frame is held exactly where it is bound or pinned
  pub held : (f : ℕ) → is_held frames f ≡ (is_some (node_of map f) || is_pinned frames f)
  -- a held slot is that of one node, and any other of none
  pub slots : (s : ℕ) →
      count_by (is_slot s) (own_states caches) ≡ (if swap.is_held slot_marks s then 1 else 0)
  pub in_slots : swap.held_count slot_marks ≡ count_by is_in_slot (own_states caches)

-- What lies outside of the frames is there.
pub record IsBacked (w : World) : Type 0 where
  -- the mapper holds a page in each held slot, where it tells
  pub there : (s : ℕ) → is_slot_held w s ≡ true → IfSome w.told (λ h. IsSome (slot_of h s))
  -- a page that its segment holds is that of a node with a home
  pub homes : (n : NodeId) → is_clean (own_of w.caches n) ≡ true → IsSome (home_of w.caches n)
  -- no two nodes have one home
  pub apart : (n m : NodeId) (home : Home) → home_of w.caches n ≡ Some home
      → home_of w.caches m ≡ Some home → n ≡ m
  -- the mapper holds a page at each node's home, where it tells
  pub lies : (n : NodeId) (home : Home) → home_of w.caches n ≡ Some home
      → IfSome w.told (λ h. IsSome (page_at h home))
  -- and it is the own page of each node whose page its segment holds
  pub clean : (n : NodeId) → is_clean (own_of w.caches n) ≡ true
      → own_page w n ≡ Some (home_page w n)

-- the lists have an item for each frame, there are four places for translations for each, and the
-- mapper takes pages of this size
pub record AreFitted (frames : Frames) (map : List (Option NodeId)) (marks places : ℕ)
    (page_bytes : Option ℕ) : Type 0 where
  pub map_frames : length map ≡ length frames.held
  pub bytes_frames : length frames.bytes ≡ length frames.held
  pub pinned_frames : length frames.pinned ≡ length frames.held
  pub marks_frames : marks ≡ length frames.held
  pub places_frames : places ≡ 4 * length frames.held
  pub few : length frames.held ≤ 2 ^ 16
  pub page : IfSome page_bytes (λ n. n ≡ frames.page)

-- how the frames, the slots, the map and the caches belong together, and with what the mapper holds
pub record IsTied (w : World) : Type 0 where
  pub placed : ArePlaced w.caches w.frames w.slots w.map
  pub backed : IsBacked w
  pub fitted : AreFitted w.frames w.map w.marks w.places w.page_bytes

-- it was granted to write the page of this name
abbrev pub is_name_granted : Arena → NodeName → Bool
is_name_granted a (Live cache page) = is_granted a cache.0 page.0
is_name_granted a (Working number) = false

-- the mapper doesn't deny the page at this home for writing, where it tells
abbrev pub IsAllowed : World → Home → Type 0
IsAllowed w home = IfSome w.told (λ h. denies h.denied home.segment.0 home.page.0 ≡ false)

-- Pages of segments are changed only where that was granted.
pub record AreGranted (w : World) : Type 0 where
  -- a node with a home has the page that its segment holds, or its page was granted
  pub granted : (n : NodeId) → IsSome (home_of w.caches n)
      → is_clean (own_of w.caches n) ≡ false
      → is_name_granted w.caches (name_of w.caches n) ≡ true
  -- and no page that was granted is denied
  pub allowed : (n : NodeId) (home : Home) → home_of w.caches n ≡ Some home
      → is_name_granted w.caches (name_of w.caches n) ≡ true → IsAllowed w home

-- The store is tied to the caches and the mapper, pages of segments were granted before they were
-- changed, and there are slots enough, so that each page can be evicted.
pub record IsStoreRight (w : World) : Type 0 where
  pub tied : IsTied w
  pub granted : AreGranted w
  pub capacity : length (own_states w.caches) ≤ length w.slots

-- a frame has the bytes that it had, and the node or none
pub record FrameStays (f : ℕ) (old new : World) : Type 0 where
  pub bytes : bytes_of new.frames f ≡ bytes_of old.frames f
  pub node : node_of new.map f ≡ node_of old.map f

-- a frame that was pinned is as it was: it is pinned, and has its bytes and its node or none
pub record PinnedStays (old new : World) (f : ℕ) : Type 0 where
  pub pinned : is_pinned new.frames f ≡ true
  pub bytes : bytes_of new.frames f ≡ bytes_of old.frames f
  pub node : node_of new.map f ≡ node_of old.map f

abbrev pub without_own : Cell → Cell
without_own c = record c { own = Absent }

-- the caches are the same but for where own pages are
pub record SameNodes (old new : Arena) : Type 0 where
  pub nodes : (n : NodeId) →
      option_map without_own (find new n) ≡ option_map without_own (find old n)
  pub rest : record new { cells = old.cells } ≡ old

-- the store is right still, each node has its page, and the sizes are what they were
pub record PagesStay (old new : World) : Type 0 where
  pub right : IsStoreRight new
  pub pages : (n : NodeId) → own_page new n ≡ own_page old n
  pub caches : SameNodes old.caches new.caches
  pub page_bytes : new.page_bytes ≡ old.page_bytes
  pub frames : length new.frames.held ≡ length old.frames.held
  pub page : new.frames.page ≡ old.frames.page
  pub slots : length new.slots ≡ length old.slots

-- from one moment to the next each page stays, and so does each frame that was pinned
pub record Still (old new : World) : Type 0 where
  pub stays : PagesStay old new
  pub pinned : (f : ℕ) → is_pinned old.frames f ≡ true → PinnedStays old new f

-- the same but for frame f, which its taker has
pub record StillBut (f : ℕ) (old new : World) : Type 0 where
  pub stays : PagesStay old new
  pub pinned : (g : ℕ) → g ≢ f → is_pinned old.frames g ≡ true → PinnedStays old new g

-- a page that left its frame lies in this state: on its segment where it has a home there, and else
-- in a slot
abbrev pub is_out : Option Home → OwnState → Bool
is_out (Some home) own = is_on_segment own
is_out None own = is_in_slot own

-- the own state of a node with this home stays, the mark of a dirty page included, or the page left
-- its frame
pub record StaysOrLeaves (home : Option Home) (old new : OwnState) : Type 0 where
  pub away : is_resident old ≡ false → new ≡ old
  pub here : is_out home new ≡ false → new ≡ old

-- pages leave their frames alone: each frame that has a node has kept it, and its bytes
pub record OthersStay (old new : World) : Type 0 where
  pub frames : (f : ℕ) → is_bound new f ≡ true → FrameStays f old new
  pub states : (m : NodeId) →
      StaysOrLeaves (home_of old.caches m) (own_of old.caches m) (own_of new.caches m)

-- the same but for node n, which may come to a frame
pub record OthersStayBut (n : NodeId) (old new : World) : Type 0 where
  pub frames : (f : ℕ) → is_bound new f ≡ true → node_of new.map f ≢ Some n → FrameStays f old new
  pub states : (m : NodeId) → m.0 ≢ n.0 →
      StaysOrLeaves (home_of old.caches m) (own_of old.caches m) (own_of new.caches m)

-- frame f, which was not pinned, is given to its taker: it is held, pinned and bound to no node,
-- and no other frame is pinned or unpinned
pub record IsMadeFree (f : ℕ) (old new : World) : Type 0 where
  pub within : f < length old.frames.held
  pub loose : is_pinned old.frames f ≡ false
  pub pinned : new.frames.pinned ≡ slice_set old.frames.pinned f true
  pub held : is_held new.frames f ≡ true
  pub unbound : node_of new.map f ≡ None

-- frame f is that of node n
abbrev pub IsFrameOf : List (Option NodeId) → ℕ → NodeId → Type 0
IsFrameOf map f n = (f < length map) × (node_of map f ≡ Some n)

-- there is a frame that isn't pinned
abbrev pub HasUnpinned : Frames → Type 0
HasUnpinned p = count_by (λ pinned. pinned) p.pinned < length p.pinned

-- a page in this state is pulled when it is brought in
abbrev pub is_pulled : OwnState → Bool
is_pulled own = is_in_slot own || is_on_segment own

-- the state of a page after it was brought in: in a frame, and clean where it was on its segment
abbrev pub brought_in : OwnState → OwnState
brought_in Absent = Resident true
brought_in Zero = Resident true
brought_in (Resident dirty) = Resident dirty
brought_in (Slot s) = Resident true
brought_in OnSegment = Resident false

-- what frame f has after a page with this own state was brought in: zeros for a page of zeros, and
-- for one that was pulled the page that the mapper gave last, where it tells that
pub record HoldsPage (own : OwnState) (last : Option (List ℕ)) (frames : Frames) (f : ℕ)
    : Type 0 where
  pub zeros : own ≡ Zero → bytes_of frames f ≡ replicate frames.page 0
  pub given : is_pulled own ≡ true → IfSome last (λ page. bytes_of frames f ≡ page)

abbrev pub HasNoNodes : Arena → Type 0
HasNoNodes a = (n : NodeId) → find a n ≡ None

-- frame f is a taker's: held, pinned and bound to no node
pub record IsTaken (w : World) (f : ℕ) : Type 0 where
  pub within : f < length w.frames.held
  pub pinned : is_pinned w.frames f ≡ true
  pub unbound : node_of w.map f ≡ None

-- a node that has an own page
pub record HasOwnPage (a : Arena) (n : NodeId) : Type 0 where
  pub node : HasNode a n
  pub own_page : is_absent (own_of a n) ≡ false

-- a node that has an own page in no frame
pub record IsAway (a : Arena) (n : NodeId) : Type 0 where
  pub node : HasNode a n
  pub own_page : is_absent (own_of a n) ≡ false
  pub away : is_resident (own_of a n) ≡ false
