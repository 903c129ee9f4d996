-- A page that is evicted: it goes home, with a push or without one, or to a slot.
use Rattle.std.proofs.Common.{◌≡◌, ℕ, ◌+◌, ◌<◌, ◌==◌, Bool, true, false, List, length, get_or, set, Option, Some, None, refl, sym, ap, ◌∙◌, subst, arith, inl, inr, length-set}
use Rattle.std.specs.List.{count_by}
use Rattle.std.specs.Option.{IfSome, IsSome, option_map_or}
use Rattle.std.specs.Prelude.{is_some, option_map, option_and_then, Result, Ok, Err, OnErr, OnOk}
use Rattle.std.proofs.lemmas.Bool.{cases_eq}
use Rattle.std.proofs.lemmas.List.{get_or-set_same, get_or-set_other}
use Rattle.vm_ids.specs.Held.{Held, slot_of, with_slot}
use Rattle.vm_ids.specs.declared.numbers.NodeId.{NodeId}
use Rattle.vm_ids.specs.declared.numbers.SlotId.{SlotId}
use Rattle.vm_ids.proofs.Places.{same_number, other_number, bit, bit_true, bit_false, count-set}
use Rattle.frame_pool.specs.Pool.{is_held, is_pinned, bytes_of}
use Rattle.slot_pool.specs.Slots as swap
use Rattle.local_cache.specs.declared.home.Home.{Home}
use Rattle.local_cache.specs.declared.own_state.OwnState.{OwnState}
use Rattle.local_cache.specs.declared.own_state.OwnState.TheVariants.{Slot, OnSegment}
use Rattle.local_cache.specs.Arena.{HasNode, with_own}
use Rattle.local_cache.specs.Home.{home_of}
use Rattle.local_cache.specs.Own.{is_in_slot, is_resident, is_slot, own_of, own_states}
use Rattle.local_cache.proofs.Names.Homes.{home-with_own}
use Rattle.local_cache.proofs.Nodes.OwnStates.{own_count}
use Rattle.residency.specs.Causes.{dirty_count, dirty_in, is_dirty}
use Rattle.residency.specs.Evicting.{HasLeft, IsEvicted, left}
use Rattle.residency.specs.World.{World, IsStoreRight, OthersStay, Still, is_clean, is_out, is_slot_held, page_at}
use Rattle.residency.proofs.Worlds.Composed.{others_same, still}
use Rattle.residency.proofs.Worlds.Homes.{IsHome, home_of_held, page_here, resident_not_in_slot, resident_not_slot}
use Rattle.residency.proofs.Moves.Left.{Finds, left_dirty, left_others, left_still}
use Rattle.residency.proofs.Pushes.Outside.{home_told, homes_elsewhere, put_at, same_denied, same_told, slot_told, slots_elsewhere, there_homes, there_slot, there_slots}

slots_after : (w : World) (f : ℕ) (n : NodeId) (s : SlotId) → IsStoreRight w → IsHome w f n → s.0 < length w.slots → is_slot_held w s.0 ≡ false → (k : ℕ)
    → count_by (is_slot k) (own_states (with_own w.caches n (Slot s))) ≡ bit (get_or (set w.slots s.0 true) k false)
slots_after w f n s right h below free k =
    let counts : count_by (is_slot k) (own_states (with_own w.caches n (Slot s))) + bit (is_slot k (own_of w.caches n)) ≡ count_by (is_slot k) (own_states w.caches) + bit (s.0 == k) = own_count (is_slot k) w.caches n (Slot s) h.there in
    let before : is_slot k (own_of w.caches n) ≡ false = resident_not_slot k (own_of w.caches n) h.resident in
    elim (cases_eq k s.0) [
      | inl e ↦ (
          let now : get_or (set w.slots s.0 true) k false ≡ true = ap (λ (j : ℕ). get_or (set w.slots s.0 true) j false) e ∙ get_or-set_same w.slots s.0 true false below in
          let this : (s.0 == k) ≡ true = ap (λ (j : ℕ). s.0 == j) e ∙ same_number s.0 in
          let was : is_slot_held w k ≡ false = ap (is_slot_held w) e ∙ free in
          omega (arith, bit_false (is_slot k (own_of w.caches n)) before, bit_true (s.0 == k) this, bit_true (get_or (set w.slots s.0 true) k false) now, bit_false (is_slot_held w k) was, right.tied.placed.slots k))
      | inr d ↦ (
          let now : bit (get_or (set w.slots s.0 true) k false) ≡ bit (is_slot_held w k) = ap bit (get_or-set_other w.slots s.0 k true false d) in
          let this : (s.0 == k) ≡ false = other_number s.0 k (λ e. d (sym e)) in
          omega (arith, bit_false (is_slot k (own_of w.caches n)) before, bit_false (s.0 == k) this, right.tied.placed.slots k))
    ]

in_slots_after : (w : World) (f : ℕ) (n : NodeId) (s : SlotId) → IsStoreRight w → IsHome w f n → s.0 < length w.slots → is_slot_held w s.0 ≡ false
    → swap.held_count (set w.slots s.0 true) ≡ count_by is_in_slot (own_states (with_own w.caches n (Slot s)))
in_slots_after w f n s right h below free =
    let held : swap.held_count (set w.slots s.0 true) + bit (get_or w.slots s.0 false) ≡ swap.held_count w.slots + 1 = count-set (λ h. h) w.slots s.0 true false below in
    let nodes : count_by is_in_slot (own_states (with_own w.caches n (Slot s))) + bit (is_in_slot (own_of w.caches n)) ≡ count_by is_in_slot (own_states w.caches) + 1 = own_count is_in_slot w.caches n (Slot s) h.there in
    omega (arith, bit_false (get_or w.slots s.0 false) free, bit_false (is_in_slot (own_of w.caches n)) (resident_not_in_slot (own_of w.caches n) h.resident), right.tied.placed.in_slots)

-- a node's slots stay where its page goes home
home_slots : (w : World) (n : NodeId) → IsStoreRight w → HasNode w.caches n → is_resident (own_of w.caches n) ≡ true → (k : ℕ) → count_by (is_slot k) (own_states (with_own w.caches n OnSegment)) ≡ bit (is_slot_held w k)
home_slots w n right there resident k =
    omega (arith, own_count (is_slot k) w.caches n OnSegment there, bit_false (is_slot k (own_of w.caches n)) (resident_not_slot k (own_of w.caches n) resident), right.tied.placed.slots k)

home_in_slots : (w : World) (n : NodeId) → IsStoreRight w → HasNode w.caches n → is_resident (own_of w.caches n) ≡ true → swap.held_count w.slots ≡ count_by is_in_slot (own_states (with_own w.caches n OnSegment))
home_in_slots w n right there resident =
    omega (arith, own_count is_in_slot w.caches n OnSegment there, bit_false (is_in_slot (own_of w.caches n)) (resident_not_in_slot (own_of w.caches n) resident), right.tied.placed.in_slots)

is_home_page : (w : World) (n : NodeId) (home : Home) (x : OwnState) (told : Option Held) → home_of w.caches n ≡ Some home
    → option_and_then (λ h. option_and_then (page_at h) (home_of (with_own w.caches n x) n)) told ≡ option_and_then (λ h. page_at h home) told
is_home_page w n home x told e = ap (λ (o : Option Home). option_and_then (λ h. option_and_then (page_at h) o) told) (home-with_own w.caches n x n ∙ e)

module _ (w : World) (f : ℕ) (n : NodeId) (right : IsStoreRight w) (h : IsHome w f n) where
  -- a clean page lies at home already
  pub finds_home : (home : Home) → home_of w.caches n ≡ Some home → is_clean (own_of w.caches n) ≡ true → Finds w f n OnSegment w.told w.slots
  finds_home home e clean = record {
    gone = refl;
    homes = λ _. ap is_some e;
    out = ap (λ o. is_out o OnSegment) e;
    settled = λ _. refl;
    slots = home_slots w n right h.there h.resident;
    in_slots = home_in_slots w n right h.there h.resident;
    size = refl;
    there = right.tied.backed.there;
    tells = λ page. refl;
    denied = refl;
    others = λ k held. refl;
    elsewhere = λ home other. refl;
    lies = λ home there. there;
    here = ap Some (is_home_page w n home OnSegment w.told e ∙ sym (ap (λ (o : Option Home). option_and_then (λ h. option_and_then (page_at h) o) w.told) e))
        ∙ sym (right.tied.backed.clean n clean) ∙ page_here w f n (own_of w.caches n) h.resident h.place;
  }

  -- a dirty one is pushed there
  pub finds_pushed : (home : Home) → home_of w.caches n ≡ Some home → Finds w f n OnSegment (option_map (put_at home (bytes_of w.frames f)) w.told) w.slots
  finds_pushed home e = record {
    gone = refl;
    homes = λ _. ap is_some e;
    out = ap (λ o. is_out o OnSegment) e;
    settled = λ _. refl;
    slots = home_slots w n right h.there h.resident;
    in_slots = home_in_slots w n right h.there h.resident;
    size = refl;
    there = λ k held. there_still w.told k (right.tied.backed.there k held);
    tells = same_told w.told (put_at home (bytes_of w.frames f));
    denied = same_denied w.told (put_at home (bytes_of w.frames f)) (λ h. refl);
    others = λ k held. slot_still w.told k;
    elsewhere = λ other apart. homes_elsewhere w.told home other (bytes_of w.frames f) (λ q. apart (e ∙ ap Some (sym q)));
    lies = λ other there. there_homes w.told home other (bytes_of w.frames f) there;
    here = ap Some (is_home_page w n home OnSegment (option_map (put_at home (bytes_of w.frames f)) w.told) e ∙ home_told w.told home (bytes_of w.frames f) (right.tied.backed.lies n home e));
  }
    where
      there_still : (told : Option Held) (k : ℕ) → IfSome told (λ h. IsSome (slot_of h k)) → IfSome (option_map (put_at home (bytes_of w.frames f)) told) (λ h. IsSome (slot_of h k))
      there_still None k t = tt
      there_still (Some h) k t = t

      slot_still : (told : Option Held) (k : ℕ) → option_and_then (λ h. slot_of h k) (option_map (put_at home (bytes_of w.frames f)) told) ≡ option_and_then (λ h. slot_of h k) told
      slot_still None k = refl
      slot_still (Some h) k = refl

  -- a page without a home goes to a free slot
  pub finds_slot : (s : SlotId) → home_of w.caches n ≡ None → s.0 < length w.slots → is_slot_held w s.0 ≡ false → Finds w f n (Slot s) (option_map (with_slot s.0 (bytes_of w.frames f)) w.told) (set w.slots s.0 true)
  finds_slot s none below free = record {
    gone = refl;
    homes = λ clean. absurd (cc clean);
    out = ap (λ o. is_out o (Slot s)) none;
    settled = λ some. absurd (let t : is_some (home_of w.caches n) ≡ false = ap is_some none in cc);
    slots = slots_after w f n s right h below free;
    in_slots = in_slots_after w f n s right h below free;
    size = length-set w.slots s.0 true;
    there = λ k held. elim (cases_eq k s.0) [
      | inl e ↦ subst (λ j. IfSome (option_map (with_slot s.0 (bytes_of w.frames f)) w.told) (λ h. IsSome (slot_of h j))) (sym e) (there_slot w.told s.0 (bytes_of w.frames f))
      | inr d ↦ there_slots w.told s.0 k (bytes_of w.frames f) d (right.tied.backed.there k (sym (get_or-set_other w.slots s.0 k true false d) ∙ held))
    ];
    tells = same_told w.told (with_slot s.0 (bytes_of w.frames f));
    denied = same_denied w.told (with_slot s.0 (bytes_of w.frames f)) (λ h. refl);
    others = λ k held. slots_elsewhere w.told s.0 k (bytes_of w.frames f) (λ e. absurd (let t : is_slot_held w k ≡ false = ap (is_slot_held w) e ∙ free in cc));
    elsewhere = λ home apart. page_still w.told home;
    lies = λ home there. lies_still w.told home there;
    here = ap Some (slot_told w.told s.0 (bytes_of w.frames f));
  }
    where
      page_still : (told : Option Held) (home : Home) → option_and_then (λ h. page_at h home) (option_map (with_slot s.0 (bytes_of w.frames f)) told) ≡ option_and_then (λ h. page_at h home) told
      page_still None home = refl
      page_still (Some h) home = refl

      lies_still : (told : Option Held) (home : Home) → IfSome told (λ h. IsSome (page_at h home)) → IfSome (option_map (with_slot s.0 (bytes_of w.frames f)) told) (λ h. IsSome (page_at h home))
      lies_still None home t = tt
      lies_still (Some h) home t = t

-- where a page that was evicted is
pub record WasLeft (a b : World) (f : ℕ) (n : NodeId) : Type 0 where
  pub state : OwnState
  pub told : Option Held
  pub marks : List Bool
  pub is : b ≡ record (left a f n state) { told = told; slots = marks }
  pub finds : Finds a f n state told marks
  pub clean : is_dirty state ≡ false

pub where_left : (a b : World) (f : ℕ) (n : NodeId) → IsStoreRight a → IsHome a f n → (o : Option Home) (clean : Bool) → home_of a.caches n ≡ o → is_clean (own_of a.caches n) ≡ clean → HasLeft o clean f n a b → WasLeft a b f n
where_left a b f n right h None clean none e p =
    record { state = Slot p.slot; told = option_map (with_slot p.slot.0 (bytes_of a.frames f)) a.told; marks = set a.slots p.slot.0 true; is = p.is; finds = finds_slot a f n right h p.slot none p.within p.free; clean = refl }
where_left a b f n right h (Some home) true some e p =
    record { state = OnSegment; told = a.told; marks = a.slots; is = p; finds = finds_home a f n right h home some e; clean = refl }
where_left a b f n right h (Some home) false some e p =
    record { state = OnSegment; told = option_map (put_at home (bytes_of a.frames f)) a.told; marks = a.slots; is = p; finds = finds_pushed a f n right h home some; clean = refl }

-- an eviction moves one page, and leaves each page and every other frame
module _ (a b : World) (f : ℕ) (right : IsStoreRight a) (held : is_held a.frames f ≡ true) (loose : is_pinned a.frames f ≡ false) (e : IsEvicted f a b) where
  its_home : IsHome a f e.node
  its_home = home_of_held a f e.node right held e.was

  was : WasLeft a b f e.node
  was = where_left a b f e.node right its_home (home_of a.caches e.node) (is_clean (own_of a.caches e.node)) refl refl e.has_left

  pub eviction_still : Still a b
  eviction_still = subst (Still a) (sym was.is) (left_still a f e.node was.state was.told was.marks right its_home loose was.finds)

  pub eviction_others : OthersStay a b
  eviction_others = subst (OthersStay a) (sym was.is) (left_others a f e.node was.state was.told was.marks right its_home loose was.finds)

  pub eviction_dirty : dirty_count b.caches + dirty_in a.caches a.map f ≡ dirty_count a.caches
  eviction_dirty =
      ap (λ (v : World). dirty_count v.caches + dirty_in a.caches a.map f) was.is
      ∙ ap (λ (o : Option NodeId). dirty_count (with_own a.caches e.node was.state) + bit (option_map_or (λ n. is_dirty (own_of a.caches n)) o false)) e.was
      ∙ left_dirty a f e.node was.state was.told was.marks right its_home loose was.finds was.clean

-- the same of a call that evicts, or fails and changes nothing
module _ {T F : Type 0} (a b : World) (f : ℕ) (right : IsStoreRight a) (held : is_held a.frames f ≡ true) (loose : is_pinned a.frames f ≡ false) where
  pub evicts_still : (r : Result T F) → OnOk r (IsEvicted f a b) → OnErr r (b ≡ a) → Still a b
  evicts_still (Ok x) e none = eviction_still a b f right held loose e
  evicts_still (Err x) e none = subst (Still a) (sym none) (still a right)

  pub evicts_others : (r : Result T F) → OnOk r (IsEvicted f a b) → OnErr r (b ≡ a) → OthersStay a b
  evicts_others (Ok x) e none = eviction_others a b f right held loose e
  evicts_others (Err x) e none = subst (OthersStay a) (sym none) (others_same a)

  pub evicts_dirty : (r : Result T F) → OnOk r (IsEvicted f a b) → OnOk r (dirty_count b.caches + dirty_in a.caches a.map f ≡ dirty_count a.caches)
  evicts_dirty (Ok x) e = eviction_dirty a b f right held loose e
  evicts_dirty (Err x) e = tt
