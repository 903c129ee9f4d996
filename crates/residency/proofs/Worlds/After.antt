-- What layers above use of a right store: which small changes keep it right, and what stays where
-- every page is still.
use Rattle.std.proofs.Common.{◌≡◌, ◌≢◌, ℕ, ◌+◌, ◌-◌, ◌≤◌, ◌==◌, ◌||◌, Bool, true, false, not, List, ◌++◌, length, get_or, set, replicate, Option, Some, None, is_some, option_map, refl, sym, ap, ◌∙◌, arith, inl, inr, length-set, length-append}
use Rattle.std.specs.Prelude.{option_and_then}
use Rattle.std.proofs.lemmas.Bool.{cases_lt, cases_eq}
use Rattle.std.proofs.lemmas.List.{get_or-set_other, get_or_past, get_or_append_left, get_or-append_right}
use Rattle.std.proofs.lemmas.List.Sums.{sum_by-append}
use Rattle.vm_ids.specs.Held.{slot_of}
use Rattle.vm_ids.specs.declared.numbers.NodeId.{NodeId}
use Rattle.vm_ids.proofs.Places.{bit, bit_true, count-replicate_none, other_number, same_all, some_place}
use Rattle.std.proofs.lemmas.List.Sums.{passes_at_first}
use Rattle.frame_pool.specs.Pool.{is_pinned, with_bytes}
use Rattle.global_map.specs.Pairs.{bound_times, frame_of, is_node, node_of}
use Rattle.residency.proofs.Moves.GivenUp.{given_page}
use Rattle.slot_pool.specs.Slots as swap
use Rattle.local_cache.specs.declared.own_state.OwnState.{OwnState}
use Rattle.local_cache.specs.declared.own_state.OwnState.TheVariants.{Absent, Zero, Resident, Slot, OnSegment}
use Rattle.local_cache.specs.Arena.{Arena, Cell, HasNode, find}
use Rattle.local_cache.specs.Own.{is_absent, is_resident, own_of}
use Rattle.residency.specs.World.{World, IsStoreRight, SameNodes, Still, frame_page, home_page, is_bound, is_clean, own_page, page_by, without_own, zero_page}

-- who is a node stays one
bare_some : (o : Option Cell) → is_some (option_map without_own o) ≡ is_some o
bare_some None = refl
bare_some (Some c) = refl

pub held_stays : (a b : Arena) → SameNodes a b → (n : NodeId) → HasNode a n → HasNode b n
held_stays a b s n held = sym (bare_some (find b n)) ∙ ap is_some (s.nodes n) ∙ bare_some (find a n) ∙ held

has_page : {P : Type 0} (z f : P) (s : ℕ → P) (g : P) (x : OwnState) → is_absent x ≡ not (is_some (page_by z f s g x))
has_page z f s g Absent = refl
has_page z f s g Zero = refl
has_page z f s g (Resident d) = refl
has_page z f s g (Slot k) = refl
has_page z f s g OnSegment = refl

page_there : (w : World) (n : NodeId) → is_absent (own_of w.caches n) ≡ not (is_some (own_page w n))
page_there w n = has_page (option_map (λ _. zero_page w) w.told) (option_map (λ _. frame_page w n) w.told) (λ k. option_and_then (λ h. slot_of h k) w.told) (home_page w n) (own_of w.caches n)

-- who has an own page has one still, whatever a mapper tells
pub absent_still : (a b : World) → ((n : NodeId) → own_page b n ≡ own_page a n) → (n : NodeId) → is_absent (own_of b.caches n) ≡ is_absent (own_of a.caches n)
absent_still a b pages n = page_there b n ∙ ap (λ (o : Option (Option (List ℕ))). not (is_some o)) (pages n) ∙ sym (page_there a n)

pub absent_stays : (a b : World) → Still a b → (n : NodeId) → is_absent (own_of b.caches n) ≡ is_absent (own_of a.caches n)
absent_stays a b s = absent_still a b s.stays.pages

abbrev pub pin_set : World → ℕ → Bool → World
pin_set w f t = record w { frames = record w.frames { pinned = set w.frames.pinned f t } }

or_bound : (b p q : Bool) → b ≡ true → (b || p) ≡ (b || q)
or_bound true p q e = refl
or_bound false p q e = absurd (cc)

-- a bound frame may be pinned and unpinned
pub pin_right : (w : World) (f : ℕ) (t : Bool) → IsStoreRight w → is_bound w f ≡ true → IsStoreRight (pin_set w f t)
pin_right w f t right bound = record {
  tied = record {
    placed = record {
      bound = right.tied.placed.bound;
      held = λ g. elim (cases_eq g f) [
        | inl e ↦ right.tied.placed.held g ∙ or_bound (is_bound w g) (is_pinned w.frames g) (get_or (set w.frames.pinned f t) g false) (ap (is_bound w) e ∙ bound)
        | inr d ↦ right.tied.placed.held g ∙ ap (λ (b : Bool). is_bound w g || b) (sym (get_or-set_other w.frames.pinned f g t false d))
      ];
      slots = right.tied.placed.slots;
      in_slots = right.tied.placed.in_slots;
    };
    backed = record {
      there = right.tied.backed.there;
      homes = right.tied.backed.homes;
      apart = right.tied.backed.apart;
      lies = right.tied.backed.lies;
      clean = right.tied.backed.clean;
    };
    fitted = record {
      map_frames = right.tied.fitted.map_frames;
      bytes_frames = right.tied.fitted.bytes_frames;
      pinned_frames = length-set w.frames.pinned f t ∙ right.tied.fitted.pinned_frames;
      marks_frames = right.tied.fitted.marks_frames;
      places_frames = right.tied.fitted.places_frames;
      few = right.tied.fitted.few;
      page = right.tied.fitted.page;
    };
  };
  granted = record { granted = right.granted.granted; allowed = right.granted.allowed };
  capacity = right.capacity;
}

is_here : (k : ℕ) (o : Option NodeId) → is_node k o ≡ true → o ≡ Some (record { 0 = k })
is_here k None e = absurd (cc)
is_here k (Some n) e = elim (cases_eq n.0 k) [
  | inl q ↦ λ i. Some (record { 0 = q i })
  | inr d ↦ absurd (let t : (n.0 == k) ≡ false = other_number n.0 k d in cc)
]

-- a resident node that isn't at frame f is at another
at_other : (w : World) (f : ℕ) (m : NodeId) → IsStoreRight w → is_resident (own_of w.caches m) ≡ true → (node_of w.map f ≡ Some m → ⊥) → frame_of w.map m.0 ≢ f
at_other w f m right resident apart e =
    let some : 1 ≤ bound_times w.map m.0 = omega (arith, right.tied.placed.bound m, bit_true (is_resident (own_of w.caches m)) resident) in
    let here : is_node m.0 (get_or w.map (frame_of w.map m.0) None) ≡ true = passes_at_first (is_node m.0) w.map None (some_place (is_node m.0) w.map some) in
    apart (is_here m.0 (node_of w.map f) (ap (λ (k : ℕ). is_node m.0 (get_or w.map k None)) (sym e) ∙ here))

-- the bytes of a frame may be written, but for that of a clean node
pub written_right : (w : World) (f : ℕ) (bytes : List ℕ) → IsStoreRight w → ((m : NodeId) → node_of w.map f ≡ Some m → is_clean (own_of w.caches m) ≡ false) → IsStoreRight (record w { frames = with_bytes w.frames f bytes })
written_right w f bytes right loose = record {
  tied = record {
    placed = record {
      bound = right.tied.placed.bound;
      held = right.tied.placed.held;
      slots = right.tied.placed.slots;
      in_slots = right.tied.placed.in_slots;
    };
    backed = record {
      there = right.tied.backed.there;
      homes = right.tied.backed.homes;
      apart = right.tied.backed.apart;
      lies = right.tied.backed.lies;
      clean = λ m clean. given_page w f bytes m (own_of w.caches m) (λ resident. at_other w f m right resident (λ here. absurd (let dirty = loose m here in cc))) ∙ right.tied.backed.clean m clean;
    };
    fitted = record {
      map_frames = right.tied.fitted.map_frames;
      bytes_frames = length-set w.frames.bytes f bytes ∙ right.tied.fitted.bytes_frames;
      pinned_frames = right.tied.fitted.pinned_frames;
      marks_frames = right.tied.fitted.marks_frames;
      places_frames = right.tied.fitted.places_frames;
      few = right.tied.fitted.few;
      page = right.tied.fitted.page;
    };
  };
  granted = record { granted = right.granted.granted; allowed = right.granted.allowed };
  capacity = right.capacity;
}

more_false : (xs : List Bool) (n s : ℕ) → get_or (xs ++ replicate n false) s false ≡ get_or xs s false
more_false xs n s = elim (cases_lt s (length xs)) [
  | inl b ↦ get_or_append_left xs (replicate n false) false s b
  | inr b ↦ get_or-append_right xs (replicate n false) (length xs) s false refl b ∙ same_all n false (s - length xs) ∙ sym (get_or_past xs s false b)
]

-- there may be more slots
pub slots_right : (w : World) (n : ℕ) → IsStoreRight w → IsStoreRight (record w { slots = w.slots ++ replicate n false })
slots_right w n right = record {
  tied = record {
    placed = record {
      bound = right.tied.placed.bound;
      held = right.tied.placed.held;
      slots = λ s. right.tied.placed.slots s ∙ sym (ap bit (more_false w.slots n s));
      in_slots = sum_by-append (λ h. bit h) w.slots (replicate n false) ∙ ap (λ (k : ℕ). swap.held_count w.slots + k) (count-replicate_none (λ h. h) n false refl) ∙ omega (arith, right.tied.placed.in_slots);
    };
    backed = record {
      there = λ s h. right.tied.backed.there s (sym (more_false w.slots n s) ∙ h);
      homes = right.tied.backed.homes;
      apart = right.tied.backed.apart;
      lies = right.tied.backed.lies;
      clean = right.tied.backed.clean;
    };
    fitted = right.tied.fitted;
  };
  granted = record { granted = right.granted.granted; allowed = right.granted.allowed };
  capacity = omega (arith, length-append w.slots (replicate n false), right.capacity);
}
