-- What is done with the frame or the slot of a node that went.
use Rattle.std.specs.Prelude.{◌≡◌, true, false, Some, None, slice_set}
use Rattle.vm_ids.specs.declared.numbers.NodeId.{NodeId}
use Rattle.frame_pool.specs.Pool.{is_held, is_pinned}
use Rattle.slot_pool.specs.Slots as swap
use Rattle.global_map.specs.Pairs.{bound_times, frame_of}
use Rattle.local_cache.specs.declared.own_state.OwnState.{OwnState}
use Rattle.local_cache.specs.declared.own_state.OwnState.TheVariants.{Absent, Zero, Resident, Slot, OnSegment}
use Rattle.local_cache.specs.Arena.{Arena, HasNode}
use Rattle.local_cache.specs.Own.{own_of}
use Rattle.page_tables.specs.Translations.{IsFrame}
use Rattle.residency.specs.declared.store.Store.{Store}
use Rattle.residency.specs.World.{World}
use Rattle.tree_merge.specs.declared.released.Released.{Released}
use Rattle.tree_merge.specs.declared.released.Released.TheVariants.{Nothing, Dropped, Moved}

-- the store without the page that a gone node had in this state
abbrev pub without_page : World → NodeId → OwnState → World
without_page w n Absent = w
without_page w n Zero = w
without_page w n (Resident dirty) = record w {
  map = slice_set w.map (frame_of w.map n.0) None;
  frames = record w.frames { held = slice_set w.frames.held (frame_of w.map n.0) false };
}
without_page w n (Slot s) = record w { slots = slice_set w.slots s.0 false }
without_page w n OnSegment = w

-- the store where a page in this state is another node's
abbrev pub with_page_moved : World → NodeId → NodeId → OwnState → World
with_page_moved w from to Absent = w
with_page_moved w from to Zero = w
with_page_moved w from to (Resident dirty) =
    record w { map = slice_set w.map (frame_of w.map from.0) (Some to) }
with_page_moved w from to (Slot s) = w
with_page_moved w from to OnSegment = w

-- the store has what a gone node had in this state, and no one pinned its frame
abbrev pub CanLeave : Store → NodeId → OwnState → Type 0
CanLeave s n Absent = Unit {0}
CanLeave s n Zero = Unit {0}
CanLeave s n (Resident dirty) =
    (bound_times s.map n.0 ≡ 1) × (is_held s.frames (frame_of s.map n.0) ≡ true)
    × (is_pinned s.frames (frame_of s.map n.0) ≡ false) × IsFrame s.tables (frame_of s.map n.0)
CanLeave s n (Slot k) = swap.is_held s.slots k.0 ≡ true
CanLeave s n OnSegment = Unit {0}

-- the store has what one node had in this state, and nothing of the other
abbrev pub CanMove : Store → NodeId → NodeId → OwnState → Type 0
CanMove s from to Absent = Unit {0}
CanMove s from to Zero = Unit {0}
CanMove s from to (Resident dirty) = (bound_times s.map from.0 ≡ 1) × (bound_times s.map to.0 ≡ 0)
CanMove s from to (Slot k) = Unit {0}
CanMove s from to OnSegment = Unit {0}

-- the store after it was followed what the caches, as they are now, released
abbrev pub followed : World → Released → World
followed w Nothing = w
followed w (Dropped n state) = without_page w n state
followed w (Moved from to) = with_page_moved w from to (own_of w.caches to)

-- the store has what was released
abbrev pub CanFollow : Store → Arena → Released → Type 0
CanFollow s a Nothing = Unit {0}
CanFollow s a (Dropped n state) = CanLeave s n state
CanFollow s a (Moved from to) = HasNode a to × CanMove s from to (own_of a to)
