-- What faults ask, what they answer, and what they keep.
use Rattle.std.specs.Prelude.{◌≡◌, ℕ, ◌+◌, ◌<◌, ◌≤◌, Bool, true, false, List, length, Option, Some, None, option_map, is_none, IfSome, IsSome}
use Rattle.vm_ids.specs.declared.node_name.NodeName.{NodeName}
use Rattle.vm_ids.specs.declared.numbers.FrameId.{FrameId}
use Rattle.vm_ids.specs.declared.numbers.NodeId.{NodeId}
use Rattle.vm_ids.specs.Forest.Nodes.{Forest}
use Rattle.vm_ids.specs.Forest.Reading.{owner_of, value_of}
use Rattle.vm_ids.specs.Forest.Rules.{heir, heir_gets, owned}
use Rattle.vm_ids.specs.Forest.Shape.{IsWellShaped}
use Rattle.frame_pool.specs.Pool.{Frames, bytes_of, is_pinned, pinned_count}
use Rattle.global_map.specs.Pairs.{node_of}
use Rattle.local_cache.specs.declared.own_state.OwnState.{OwnState}
use Rattle.local_cache.specs.declared.own_state.OwnState.TheVariants.{Absent, Zero, Resident, Slot, OnSegment}
use Rattle.local_cache.specs.Arena.{Arena, HasNode}
use Rattle.local_cache.specs.Changes.{Like}
use Rattle.local_cache.specs.Home.{home_of}
use Rattle.local_cache.specs.Reading.{forest_of, name_of}
use Rattle.local_cache.specs.Sound.{IsSound}
use Rattle.residency.specs.StoreForest.{store_forest}
use Rattle.residency.specs.World.{IsStoreRight, PinnedStays, World, is_name_granted, zero_page}

-- so many frames aren't pinned
abbrev pub HasLoose : ℕ → Frames → Type 0
HasLoose n p = pinned_count p + n ≤ length p.pinned

-- o is the owner of n: the node whose own page n reads
pub record IsOwner (a : Arena) (n o : NodeId) : Type 0 where
  pub held : HasNode a o
  pub name : name_of a o ≡ owner_of (forest_of a) (name_of a n)

abbrev pub is_zero : OwnState → Bool
is_zero Absent = false
is_zero Zero = true
is_zero (Resident dirty) = false
is_zero (Slot s) = false
is_zero OnSegment = false

-- the page is in a frame, or needs none
abbrev pub is_at_hand : OwnState → Bool
is_at_hand Absent = false
is_at_hand Zero = true
is_at_hand (Resident dirty) = true
is_at_hand (Slot s) = false
is_at_hand OnSegment = false

-- What a read fault found for the owner o, which had this own state: no frame exactly where it was
-- a zeroed page, and else the frame that is bound to it.
pub record IsFound (w : World) (o : NodeId) (own : OwnState) (found : Option FrameId) : Type 0 where
  pub zero : is_none found ≡ is_zero own
  pub bound : IfSome found (λ f. (f.0 < length w.map) × (node_of w.map f.0 ≡ Some o))

-- the bytes that a read fault found, where they are told: those of the frame, or zeros
abbrev pub found_page : World → Option FrameId → Option (List ℕ)
found_page w None = option_map (λ _. zero_page w) w.told
found_page w (Some f) = option_map (λ _. bytes_of w.frames f.0) w.told

-- and that is what the node of this name reads in the page forest
abbrev pub IsValueFound : World → NodeName → Option FrameId → Type 0
IsValueFound w x found = value_of (store_forest w) x ≡ Some (found_page w found)

-- the page of n may be written: where it is one of a segment, that was granted
abbrev pub MayWrite : Arena → NodeId → Type 0
MayWrite a n = IsSome (home_of a n) → is_name_granted a (name_of a n) ≡ true

-- h is the heir of n: the node that gets the page of n as it is, before that changes
pub record IsHeirOf (a : Arena) (n h : NodeId) : Type 0 where
  pub held : HasNode a h
  pub name : heir (forest_of a) (name_of a n) ≡ Some (name_of a h)

-- a node that was in a frame is there still
abbrev pub StaysHome : NodeId → List (Option NodeId) → List (Option NodeId) → Type 0
StaysHome n old new = (f : ℕ) → node_of old f ≡ Some n → node_of new f ≡ Some n

-- the page forest of a store, its caches and a mapper stays
abbrev pub SameForest : World → World → Type 0
SameForest old new = store_forest new ≡ store_forest old

-- it changes by a rule of the page forest, at the node of this name
abbrev pub Follows : (Forest (Option (List ℕ)) → NodeName → Forest (Option (List ℕ)))
    → NodeName → World → World → Type 0
Follows rule x old new = store_forest new ≡ rule (store_forest old) x

-- the forest is ready for a write to x: x owns its page, and its heir has it as it is
abbrev pub readied : {P : Type 0} → Forest P → NodeName → Forest P
readied f x = heir_gets (owned f x) x

-- What each call keeps: a right store, sound caches, each frame that was pinned, all nodes under
-- their numbers and names, the tables, the spare room, and the sizes.
pub record Kept (old new : World) : Type 0 where
  pub right : IsStoreRight new
  pub sound : IsSound new.caches
  pub shaped : IsWellShaped (forest_of new.caches)
  pub pinned : (f : ℕ) → is_pinned old.frames f ≡ true → PinnedStays old new f
  pub pins : new.frames.pinned ≡ old.frames.pinned
  pub nodes : Like old.caches new.caches
  pub made : new.caches.made ≡ old.caches.made
  pub room : new.caches.room ≡ old.caches.room
  pub frames : length new.frames.held ≡ length old.frames.held
  pub page : new.frames.page ≡ old.frames.page
  pub page_bytes : new.page_bytes ≡ old.page_bytes
  pub slots : length new.slots ≡ length old.slots
