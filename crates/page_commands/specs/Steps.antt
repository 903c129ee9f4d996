-- What a step keeps of a store that gives frames and slots back and takes none.
use Rattle.std.specs.Prelude.{◌≡◌, ◌≢◌, ◌<◌, ◌≤◌, ℕ, Bool, true, false, if◌then◌else◌, List, length, Option, Some, None, is_some, option_map}
use Rattle.vm_ids.specs.Held.{Held}
use Rattle.vm_ids.specs.declared.node_name.NodeName.{NodeName}
use Rattle.vm_ids.specs.Forest.NameLists.{◌∈◌}
use Rattle.vm_ids.specs.declared.numbers.NodeId.{NodeId}
use Rattle.vm_ids.specs.declared.node_name.NodeName.TheVariants.{Working}
use Rattle.frame_pool.specs.Pool.{is_held, is_pinned}
use Rattle.global_map.specs.Pairs.{node_of}
use Rattle.local_cache.specs.declared.own_state.OwnState.{OwnState}
use Rattle.local_cache.specs.declared.own_state.OwnState.TheVariants.{Absent, Zero, Resident, Slot, OnSegment}
use Rattle.local_cache.specs.Arena.{Arena}
use Rattle.local_cache.specs.Home.{home_named}
use Rattle.local_cache.specs.Reading.{forest_of, name_of}
use Rattle.local_cache.specs.Sound.{IsSound}
use Rattle.local_cache.specs.Whole.{SameCaches}
use Rattle.residency.specs.declared.store.Store.{Store}
use Rattle.vm_ids.specs.Forest.Forgetting.{forgotten}
use Rattle.vm_ids.specs.Forest.NameMap.{len}
use Rattle.vm_ids.specs.Forest.Nodes.{Forest}
use Rattle.vm_ids.specs.Forest.Settling.{settle}
use Rattle.vm_ids.specs.Forest.Shape.{IsConsistent}
use Rattle.residency.specs.Seeing.{frame_forest}
use Rattle.residency.specs.StoreForest.{store_forest}
use Rattle.residency.specs.World.{IsStoreRight, IsTied, PinnedStays, World, is_slot_held, page_by, world, zero_page}
use Rattle.page_commands.specs.Homes.{KeepsHomes, named_page}
use Rattle.page_commands.specs.Translating.{DropsFreed}

-- the store is tied to its caches, whatever a mapper holds
abbrev pub IsStoreTied : Store → Arena → Type 0
IsStoreTied s a = IsTied (world None None a s)

-- From old to new frames and slots fell free, and none was taken. Each frame has its bytes, and a
-- pinned one its node.
pub record GivesBack (old new : World) : Type 0 where
  pub tied : IsTied new
  pub held : (f : ℕ) → is_held new.frames f ≡ true → is_held old.frames f ≡ true
  pub bytes : new.frames.bytes ≡ old.frames.bytes
  pub pinned : (f : ℕ) → is_pinned old.frames f ≡ true → PinnedStays old new f
  pub pins : new.frames.pinned ≡ old.frames.pinned
  pub slots : (s : ℕ) → is_slot_held new s ≡ true → is_slot_held old s ≡ true
  pub capacity : length new.slots ≡ length old.slots
  pub frames : length new.frames.held ≡ length old.frames.held
  pub page : new.frames.page ≡ old.frames.page

-- Whatever a mapper holds for which the store was tied to its caches, this holds from before to
-- after.
abbrev pub ForAnyMapper : Store → Arena → Store → Arena → (World → World → Type 0) → Type 0
ForAnyMapper s a t b holds = (told : Option Held) (size : Option ℕ) → IsTied (world told size a s)
    → holds (world told size a s) (world told size b t)

-- no pinned frame is that of the node of this name
abbrev pub IsUnpinned : Store → Arena → NodeName → Type 0
IsUnpinned s a x = (f : ℕ) (n : NodeId) → is_pinned s.frames f ≡ true → node_of s.map f ≡ Some n
    → name_of a n ≢ x

-- nor that of any of these
abbrev pub AreUnpinned : Store → Arena → List NodeName → Type 0
AreUnpinned s a names = (x : NodeName) → x ∈ names → IsUnpinned s a x

-- no pinned frame is that of a working node
abbrev pub IsWorkingUnpinned : Store → Arena → Type 0
IsWorkingUnpinned s a = (k : ℕ) → IsUnpinned s a (Working k)

-- the node of each pinned frame has its name still
abbrev pub PinnedStayNamed : Store → Arena → Arena → Type 0
PinnedStayNamed s a b = (f : ℕ) (n : NodeId) → is_pinned s.frames f ≡ true
    → node_of s.map f ≡ Some n → name_of b n ≡ name_of a n

-- Frames and slots fell free, whatever the mapper holds, and none was taken. Nodes of pinned frames
-- keep their names, and caches their sizes and segments. No page of a segment became one that its
-- segment holds, or ceased to be one, but for the pages of the list.
pub record Kept (names : List NodeName) (s : Store) (a : Arena) (t : Store) (b : Arena)
    : Type 0 where
  pub gives_back : ForAnyMapper s a t b GivesBack
  pub sound : IsSound b
  pub tied : IsStoreTied t b
  pub pinned : PinnedStayNamed s a b
  pub sizes : SameCaches a b
  pub homes : KeepsHomes names a b

-- The same, and the translations of the frames that fell free are dropped, and no other.
pub record Releases (names : List NodeName) (s : Store) (a : Arena) (t : Store) (b : Arena)
    : Type 0 where
  pub gives_back : ForAnyMapper s a t b GivesBack
  pub tables : DropsFreed s t
  pub sound : IsSound b
  pub tied : IsStoreTied t b
  pub pinned : PinnedStayNamed s a b
  pub sizes : SameCaches a b
  pub homes : KeepsHomes names a b

-- Some steps of settle were done, in the nodes and in the store: what settle comes to stays, and
-- there are fewer nodes.
pub record AreSettleSteps (s : Store) (a : Arena) (t : Store) (b : Arena) : Type 0 where
  pub nodes : settle (forest_of b) ≡ settle (forest_of a)
  pub forest : ForAnyMapper s a t b
      (λ old new. settle (store_forest new) ≡ settle (store_forest old))
  pub frames : settle (frame_forest b t.map) ≡ settle (frame_forest a s.map)
  pub consistent : IsConsistent (forest_of b)
  pub counters : (b.made ≡ a.made) × (b.copies ≡ a.copies)
  pub room : a.room.nodes ≤ b.room.nodes
  pub fewer : len (forest_of b).nodes < len (forest_of a).nodes

-- a page of zeros, where the mapper tells what pages hold
abbrev pub zeros_told : World → Option (List ℕ)
zeros_told w = option_map (λ _. zero_page w) w.told

-- Where the own page of a fresh node of this name may be: in no frame and in no slot, and on its
-- segment where it has one.
abbrev pub is_fresh : Arena → NodeName → OwnState → Bool
is_fresh a x Absent = true
is_fresh a x Zero = true
is_fresh a x (Resident dirty) = false
is_fresh a x (Slot s) = false
is_fresh a x OnSegment = is_some (home_named a.caches x)

-- the own page of such a node
abbrev pub fresh_page : World → NodeName → OwnState → Option (Option (List ℕ))
fresh_page w x state = page_by (zeros_told w) None (λ slot. None) (named_page w x) state

-- the frame that such a page is seen in: none
abbrev pub fresh_frame : OwnState → Option (Option ℕ)
fresh_frame state = page_by None None (λ slot. None) None state

-- a store that was right is right still, whatever the mapper holds
abbrev pub StaysRight : Store → Arena → Store → Arena → Type 0
StaysRight s a t b = (told : Option Held) (size : Option ℕ) → IsStoreRight (world told size a s)
    → IsStoreRight (world told size b t)

-- these pages forgotten, where their cache is named
abbrev pub forgotten_where : {P : Type 0} → Bool → List NodeName → P → Forest P → Forest P
forgotten_where named names p f = if named then forgotten names p f else f
