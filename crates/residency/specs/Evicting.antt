-- A page leaves its frame.
use Rattle.std.specs.Prelude.{◌≡◌, ℕ, ◌<◌, Bool, true, false, length, Option, Some, None, option_map, slice_set}
use Rattle.vm_ids.specs.Held.{with_page, with_slot}
use Rattle.vm_ids.specs.declared.numbers.NodeId.{NodeId}
use Rattle.vm_ids.specs.declared.numbers.SlotId.{SlotId}
use Rattle.frame_pool.specs.Pool.{bytes_of}
use Rattle.global_map.specs.Pairs.{node_of}
use Rattle.local_cache.specs.declared.home.Home.{Home}
use Rattle.local_cache.specs.declared.own_state.OwnState.{OwnState}
use Rattle.local_cache.specs.declared.own_state.OwnState.TheVariants.{Slot, OnSegment}
use Rattle.local_cache.specs.Arena.{with_own}
use Rattle.local_cache.specs.Home.{home_of}
use Rattle.local_cache.specs.Own.{own_of}
use Rattle.residency.specs.World.{World, is_clean, is_slot_held}

-- frame f of node n is free, whose page is in this state then
abbrev pub left : World → ℕ → NodeId → OwnState → World
left w f n own = record w {
  caches = with_own w.caches n own;
  frames = record w.frames { held = slice_set w.frames.held f false };
  map = slice_set w.map f None;
}

-- after the page was pushed to slot s
abbrev pub left_for_slot : World → ℕ → NodeId → SlotId → World
left_for_slot w f n s = record (left w f n (Slot s)) {
  told = option_map (with_slot s.0 (bytes_of w.frames f)) w.told;
  slots = slice_set w.slots s.0 true;
}

-- after the page was pushed home
abbrev pub left_for_home : World → ℕ → NodeId → Home → World
left_for_home w f n home = record (left w f n OnSegment) {
  told = option_map (with_page home.segment.0 home.page.0 (bytes_of w.frames f)) w.told;
}

-- the page in frame f of node n was pushed to a slot that was free, and nothing else changed
pub record IsInSlot (f : ℕ) (n : NodeId) (old new : World) : Type 0 where
  pub slot : SlotId
  pub within : slot.0 < length old.slots
  pub free : is_slot_held old slot.0 ≡ false
  pub is : new ≡ left_for_slot old f n slot

-- the page in frame f of node n, which has this home, is where it belongs, and nothing else changed
abbrev pub HasLeft : Option Home → (clean : Bool) → ℕ → NodeId → World → World → Type 0
HasLeft None clean f n old new = IsInSlot f n old new
HasLeft (Some home) true f n old new = new ≡ left old f n OnSegment
HasLeft (Some home) false f n old new = new ≡ left_for_home old f n home

-- the page in frame f was evicted
pub record IsEvicted (f : ℕ) (old new : World) : Type 0 where
  pub node : NodeId
  pub was : node_of old.map f ≡ Some node
  pub has_left : HasLeft (home_of old.caches node) (is_clean (own_of old.caches node))
      f node old new
