-- What a right store says of one frame and of one slot.
use Rattle.std.proofs.Common.{◌≡◌, ℕ, ◌<◌, ◌≤◌, true, false, length, Option, Some, None, refl, ap, ◌∙◌, arith}
use Rattle.std.specs.Prelude.{option_map, option_and_then, Result, Ok, Err, OnErr}
use Rattle.std.specs.List.{count_by}
use Rattle.vm_ids.specs.Held.{Held, slot_of}
use Rattle.vm_ids.specs.declared.numbers.NodeId.{NodeId}
use Rattle.vm_ids.specs.declared.numbers.SlotId.{SlotId}
use Rattle.vm_ids.proofs.Places.{same_number, bit, bit-le, bit_from, count_some, only_place, true_below}
use Rattle.frame_pool.specs.Pool.{bytes_of, is_held}
use Rattle.global_map.specs.Pairs.{bound_times, frame_of, is_node, node_of}
use Rattle.slot_pool.specs.Slots as swap
use Rattle.local_cache.specs.declared.own_state.OwnState.{OwnState}
use Rattle.local_cache.specs.declared.own_state.OwnState.TheVariants.{Absent, Zero, Resident, Slot, OnSegment}
use Rattle.local_cache.specs.Arena.{Arena, HasNode}
use Rattle.local_cache.specs.Own.{is_in_slot, is_resident, is_slot, own_of, own_states}
use Rattle.local_cache.proofs.Nodes.OwnStates.{own_held, own_not_all, own_some}
use Rattle.residency.specs.declared.store.Store.{Store}
use Rattle.residency.specs.World.{World, IsStoreRight, frame_page, home_page, is_slot_held, page_by, world, zero_page}

pub resident_not_in_slot : (x : OwnState) → is_resident x ≡ true → is_in_slot x ≡ false
resident_not_in_slot Absent h = refl
resident_not_in_slot Zero h = refl
resident_not_in_slot (Resident d) h = refl
resident_not_in_slot (Slot s) h = absurd (cc)
resident_not_in_slot OnSegment h = refl

pub resident_not_slot : (k : ℕ) (x : OwnState) → is_resident x ≡ true → is_slot k x ≡ false
resident_not_slot k Absent h = refl
resident_not_slot k Zero h = refl
resident_not_slot k (Resident d) h = refl
resident_not_slot k (Slot s) h = absurd (cc)
resident_not_slot k OnSegment h = refl

-- a node at its frame
pub record IsHome (w : World) (f : ℕ) (n : NodeId) : Type 0 where
  pub frame : f < length w.map
  pub node : node_of w.map f ≡ Some n
  pub resident : is_resident (own_of w.caches n) ≡ true
  pub there : HasNode w.caches n
  pub place : frame_of w.map n.0 ≡ f
  pub once : bound_times w.map n.0 ≡ 1

at_home : (n : NodeId) (o : Option NodeId) → o ≡ Some n → is_node n.0 o ≡ true
at_home n o e = ap (is_node n.0) e ∙ same_number n.0

pub home : (w : World) (f : ℕ) (n : NodeId) → IsStoreRight w → f < length w.map → node_of w.map f ≡ Some n → IsHome w f n
home w f n right frame node =
    let here : is_node n.0 (node_of w.map f) ≡ true = at_home n (node_of w.map f) node in
    let some : 1 ≤ bound_times w.map n.0 = count_some (is_node n.0) w.map f None frame here in
    let times : bound_times w.map n.0 ≡ bit (is_resident (own_of w.caches n)) = right.tied.placed.bound n in
    let resident : is_resident (own_of w.caches n) ≡ true = bit_from (is_resident (own_of w.caches n)) (omega arith) in
    let once : bound_times w.map n.0 ≡ 1 = omega (arith, bit-le (is_resident (own_of w.caches n))) in
    record {
      frame = frame;
      node = node;
      resident = resident;
      there = own_held is_resident w.caches n refl resident;
      place = only_place (is_node n.0) w.map f None once frame here;
      once = once;
    }

-- the node of a held frame
pub home_of_held : (w : World) (f : ℕ) (n : NodeId) → IsStoreRight w → is_held w.frames f ≡ true → node_of w.map f ≡ Some n → IsHome w f n
home_of_held w f n right held node = home w f n right (omega (arith, true_below w.frames.held f held, right.tied.fitted.map_frames)) node

-- where a node is resident there is a slot left
pub room : (w : World) (f : ℕ) (n : NodeId) → IsStoreRight w → IsHome w f n → swap.held_count w.slots < length w.slots
room w f n right h =
    let few : count_by is_in_slot (own_states w.caches) < length (own_states w.caches) = own_not_all is_in_slot w.caches n h.there (resident_not_in_slot (own_of w.caches n) h.resident) in
    omega (arith, right.tied.placed.in_slots, right.capacity)

pub world_is : (a b : World) → a.told ≡ b.told → a.page_bytes ≡ b.page_bytes → a.caches ≡ b.caches → a.frames ≡ b.frames → a.slots ≡ b.slots → a.map ≡ b.map → a.marks ≡ b.marks → a.places ≡ b.places → a ≡ b
world_is a b told size caches frames slots map marks places = λ i. record { told = told i; page_bytes = size i; caches = caches i; frames = frames i; slots = slots i; map = map i; marks = marks i; places = places i }

-- after an error nothing changed
pub unchanged : {T F : Type 0} (r : Result T F) (told now : Option Held) (size then : Option ℕ) (a b : Arena) (s t : Store) → OnErr r (t ≡ s) → OnErr r (b ≡ a) → OnErr r (now ≡ told) → then ≡ size
    → OnErr r (world now then b t ≡ world told size a s)
unchanged (Ok x) told now size then a b s t store caches held bytes = tt
unchanged (Err x) told now size then a b s t store caches held bytes = λ i. world (held i) (bytes i) (caches i) (store i)

-- its page is in its frame
pub page_here : (w : World) (f : ℕ) (n : NodeId) (x : OwnState) → is_resident x ≡ true → frame_of w.map n.0 ≡ f
    → page_by (option_map (λ _. zero_page w) w.told) (option_map (λ _. frame_page w n) w.told) (λ k. option_and_then (λ h. slot_of h k) w.told) (home_page w n) x ≡ Some (option_map (λ _. bytes_of w.frames f) w.told)
page_here w f n Absent r place = absurd (cc)
page_here w f n Zero r place = absurd (cc)
page_here w f n (Resident dirty) r place = ap (λ (g : ℕ). Some (option_map (λ _. bytes_of w.frames g) w.told)) place
page_here w f n (Slot k) r place = absurd (cc)
page_here w f n OnSegment r place = absurd (cc)

-- a node's slot is held
pub slot_is_held : (w : World) (n : NodeId) (s : SlotId) → IsStoreRight w → HasNode w.caches n → own_of w.caches n ≡ Slot s → is_slot_held w s.0 ≡ true
slot_is_held w n s right there e =
    let here : is_slot s.0 (own_of w.caches n) ≡ true = ap (is_slot s.0) e ∙ same_number s.0 in
    bit_from (is_slot_held w s.0) (omega (arith, own_some (is_slot s.0) w.caches n there here, right.tied.placed.slots s.0))
