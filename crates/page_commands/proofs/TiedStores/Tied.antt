-- What a tied store says of one frame and of one slot, and when it is right.
use Rattle.std.proofs.Common.{◌≡◌, ℕ, ◌<◌, ◌≤◌, ◌||◌, true, false, List, get_or, set, length, Option, Some, None, is_some, refl, sym, ap, ◌∙◌, arith, inl, inr}
use Rattle.std.proofs.lemmas.Bool.{cases_eq}
use Rattle.std.proofs.lemmas.List.{get_or-set_same, get_or-set_other}
use Rattle.vm_ids.specs.declared.numbers.NodeId.{NodeId}
use Rattle.vm_ids.specs.declared.numbers.SlotId.{SlotId}
use Rattle.vm_ids.proofs.Places.{bit, bit_from, bit-le, count_some, only_place, same_number}
use Rattle.frame_pool.specs.Pool.{is_pinned}
use Rattle.global_map.specs.Pairs.{bound_times, is_node, node_of}
use Rattle.local_cache.specs.declared.own_state.OwnState.{OwnState}
use Rattle.local_cache.specs.declared.own_state.OwnState.TheVariants.{Absent, Zero, Resident, Slot, OnSegment}
use Rattle.vm_ids.specs.Held.{Held}
use Rattle.residency.specs.declared.store.Store.{Store}
use Rattle.local_cache.specs.Arena.{Arena, HasNode}
use Rattle.local_cache.specs.Own.{is_resident, is_slot, own_of}
use Rattle.local_cache.proofs.Nodes.OwnStates.{own_held, own_some}
use Rattle.residency.specs.World.{IsStoreRight, IsTied, World, is_clean, is_slot_held, page_by, world}
use Rattle.residency.proofs.Worlds.Homes.{IsHome}
use Rattle.page_commands.specs.Steps.{IsStoreTied}

pub tied_of : (w : World) → IsStoreRight w → IsTied w
tied_of w right = right.tied

pub home : (w : World) (f : ℕ) (n : NodeId) → IsTied w → f < length w.map → node_of w.map f ≡ Some n → IsHome w f n
home w f n tied frame node =
    let here : is_node n.0 (node_of w.map f) ≡ true = ap (is_node n.0) node ∙ same_number n.0 in
    let some : 1 ≤ bound_times w.map n.0 = count_some (is_node n.0) w.map f None frame here in
    let times : bound_times w.map n.0 ≡ bit (is_resident (own_of w.caches n)) = tied.placed.bound n in
    let resident : is_resident (own_of w.caches n) ≡ true = bit_from (is_resident (own_of w.caches n)) (omega arith) in
    let once : bound_times w.map n.0 ≡ 1 = omega (arith, bit-le (is_resident (own_of w.caches n))) in
    record {
      frame = frame;
      node = node;
      resident = resident;
      there = own_held is_resident w.caches n refl resident;
      place = only_place (is_node n.0) w.map f None once frame here;
      once = once;
    }

pub slot_is_held : (w : World) (n : NodeId) (s : SlotId) → IsTied w → HasNode w.caches n → own_of w.caches n ≡ Slot s → is_slot_held w s.0 ≡ true
slot_is_held w n s tied there e =
    let here : is_slot s.0 (own_of w.caches n) ≡ true = ap (is_slot s.0) e ∙ same_number s.0 in
    bit_from (is_slot_held w s.0) (omega (arith, own_some (is_slot s.0) w.caches n there here, tied.placed.slots s.0))

pub held_after : (w : World) (f : ℕ) (n : NodeId) → IsTied w → IsHome w f n → is_pinned w.frames f ≡ false → (g : ℕ)
    → get_or (set w.frames.held f false) g false ≡ (is_some (get_or (set w.map f None) g None) || is_pinned w.frames g)
held_after w f n tied h loose g =
    let within : f < length w.frames.held = omega (arith, h.frame, tied.fitted.map_frames) in
    elim (cases_eq g f) [
      | inl e ↦ (
          let left : get_or (set w.frames.held f false) g false ≡ false = ap (λ (k : ℕ). get_or (set w.frames.held f false) k false) e ∙ get_or-set_same w.frames.held f false false within in
          let unbound : get_or (set w.map f None) g None ≡ None = ap (λ (k : ℕ). get_or (set w.map f None) k None) e ∙ get_or-set_same w.map f None None h.frame in
          let unpinned : is_pinned w.frames g ≡ false = ap (is_pinned w.frames) e ∙ loose in
          left ∙ sym (ap (λ (o : Option NodeId). is_some o || is_pinned w.frames g) unbound ∙ unpinned))
      | inr d ↦ get_or-set_other w.frames.held f g false false d ∙ tied.placed.held g ∙ ap (λ (o : Option NodeId). is_some o || is_pinned w.frames g) (sym (get_or-set_other w.map f g None None d))
    ]

-- a page that its segment holds isn't told
untold_page : (x : OwnState) → is_clean x ≡ true → page_by {P = Option (List ℕ)} None None (λ slot. None) None x ≡ Some None
untold_page Absent e = absurd (cc e)
untold_page Zero e = absurd (cc e)
untold_page (Resident dirty) e = refl
untold_page (Slot s) e = absurd (cc e)
untold_page OnSegment e = refl

-- what a mapper holds is no part of it
pub untold : (told : Option Held) (size : Option ℕ) (a : Arena) (s : Store) → IsTied (world told size a s) → IsStoreTied s a
untold told size a s tied = record {
  placed = tied.placed;
  backed = record {
    there = λ k h. tt;
    homes = tied.backed.homes;
    apart = tied.backed.apart;
    lies = λ n h e. tt;
    clean = λ n k. untold_page (own_of a n) k;
  };
  fitted = record {
    map_frames = tied.fitted.map_frames;
    bytes_frames = tied.fitted.bytes_frames;
    pinned_frames = tied.fitted.pinned_frames;
    marks_frames = tied.fitted.marks_frames;
    places_frames = tied.fitted.places_frames;
    few = tied.fitted.few;
    page = tt;
  };
}

-- what the calls of this crate ask of a right store
pub tied_right : (told : Option Held) (size : Option ℕ) (a : Arena) (s : Store) → IsStoreRight (world told size a s) → IsStoreTied s a
tied_right told size a s right = untold told size a s (tied_of (world told size a s) right)
