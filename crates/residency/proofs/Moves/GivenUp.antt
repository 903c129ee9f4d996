-- A taken frame is given back, and what is left of an own page.
use Rattle.std.proofs.Common.{◌≡◌, ◌≢◌, ℕ, ◌*◌, ◌||◌, Bool, true, false, List, [], length, get_or, set, drop, Option, Some, None, refl, sym, ap, ◌∙◌, subst, arith, inl, inr, length-set}
use Rattle.std.specs.Option.{IfSome}
use Rattle.std.specs.Prelude.{is_some, option_map, option_and_then}
use Rattle.std.proofs.lemmas.Bool.{cases_eq}
use Rattle.std.proofs.lemmas.List.{get_or-set_same, get_or-set_other, take_at}
use Rattle.vm_ids.specs.Held.{slot_of}
use Rattle.vm_ids.specs.declared.numbers.NodeId.{NodeId}
use Rattle.vm_ids.specs.declared.numbers.SlotId.{SlotId}
use Rattle.frame_pool.specs.Lending.{refill}
use Rattle.global_map.specs.Pairs.{frame_of, node_of}
use Rattle.local_cache.specs.declared.own_state.OwnState.{OwnState}
use Rattle.local_cache.specs.declared.own_state.OwnState.TheVariants.{Absent, Zero, Resident, Slot, OnSegment}
use Rattle.local_cache.specs.Own.{is_absent, is_resident, own_of}
use Rattle.residency.specs.World.{World, IsBacked, IsStoreRight, IsTaken, OthersStay, StillBut, frame_page, home_page, is_bound, page_by, zero_page}
use Rattle.residency.proofs.Worlds.Nodes.{same}
use Rattle.residency.proofs.Moves.Brought.{place_other}

-- a taken frame is given back, whatever it holds
abbrev pub given_up : World → ℕ → List ℕ → World
given_up w f bytes = record w { frames = record w.frames { held = set w.frames.held f false; pinned = set w.frames.pinned f false; bytes = set w.frames.bytes f bytes } }

given_held : (w : World) (f : ℕ) → IsStoreRight w → IsTaken w f → (g : ℕ) → get_or (set w.frames.held f false) g false ≡ (is_bound w g || get_or (set w.frames.pinned f false) g false)
given_held w f right taken g = elim (cases_eq g f) [
  | inl e ↦ (
      let left : get_or (set w.frames.held f false) g false ≡ false = ap (λ (k : ℕ). get_or (set w.frames.held f false) k false) e ∙ get_or-set_same w.frames.held f false false taken.within in
      let pin : get_or (set w.frames.pinned f false) g false ≡ false = ap (λ (k : ℕ). get_or (set w.frames.pinned f false) k false) e ∙ get_or-set_same w.frames.pinned f false false (omega (arith, taken.within, right.tied.fitted.pinned_frames)) in
      let bound : is_bound w g ≡ false = ap (is_bound w) e ∙ ap is_some taken.unbound in
      left ∙ sym (ap (λ (b : Bool). b || get_or (set w.frames.pinned f false) g false) bound ∙ pin))
  | inr d ↦ get_or-set_other w.frames.held f g false false d ∙ right.tied.placed.held g ∙ ap (λ (b : Bool). is_bound w g || b) (sym (get_or-set_other w.frames.pinned f g false false d))
]

pub given_page : (w : World) (f : ℕ) (bytes : List ℕ) (m : NodeId) (x : OwnState) → (is_resident x ≡ true → frame_of w.map m.0 ≢ f)
    → page_by (option_map (λ _. zero_page w) w.told) (option_map (λ _. frame_page (given_up w f bytes) m) w.told) (λ k. option_and_then (λ h. slot_of h k) w.told) (home_page w m) x
    ≡ page_by (option_map (λ _. zero_page w) w.told) (option_map (λ _. frame_page w m) w.told) (λ k. option_and_then (λ h. slot_of h k) w.told) (home_page w m) x
given_page w f bytes m Absent other = refl
given_page w f bytes m Zero other = refl
given_page w f bytes m (Slot k) other = refl
given_page w f bytes m OnSegment other = refl
given_page w f bytes m (Resident dirty) other = ap (λ (b : List ℕ). Some (option_map (λ _. b) w.told)) (get_or-set_other w.frames.bytes f (frame_of w.map m.0) bytes [] (other refl))

given_backed : (w : World) (f : ℕ) (bytes : List ℕ) → IsStoreRight w → IsTaken w f → IsBacked (given_up w f bytes)
given_backed w f bytes right taken = record {
  there = right.tied.backed.there;
  homes = right.tied.backed.homes;
  apart = right.tied.backed.apart;
  lies = right.tied.backed.lies;
  clean = λ m clean. given_page w f bytes m (own_of w.caches m) (λ r. place_other w f m right taken.unbound r) ∙ right.tied.backed.clean m clean;
}

pub given_up_still : (w : World) (f : ℕ) (bytes : List ℕ) → IsStoreRight w → IsTaken w f → StillBut f w (given_up w f bytes)
given_up_still w f bytes right taken = record {
  stays = record {
    right = record {
      tied = record {
        placed = record {
          bound = right.tied.placed.bound;
          held = given_held w f right taken;
          slots = right.tied.placed.slots;
          in_slots = right.tied.placed.in_slots;
        };
        backed = given_backed w f bytes right taken;
        fitted = record {
          map_frames = right.tied.fitted.map_frames ∙ sym (length-set w.frames.held f false);
          bytes_frames = length-set w.frames.bytes f bytes ∙ right.tied.fitted.bytes_frames ∙ sym (length-set w.frames.held f false);
          pinned_frames = length-set w.frames.pinned f false ∙ right.tied.fitted.pinned_frames ∙ sym (length-set w.frames.held f false);
          marks_frames = right.tied.fitted.marks_frames ∙ sym (length-set w.frames.held f false);
          places_frames = right.tied.fitted.places_frames ∙ ap (λ (k : ℕ). 4 * k) (sym (length-set w.frames.held f false));
          few = omega (arith, length-set w.frames.held f false, right.tied.fitted.few);
          page = right.tied.fitted.page;
        };
      };
      granted = record { granted = right.granted.granted; allowed = right.granted.allowed };
      capacity = right.capacity;
    };
    pages = λ m. given_page w f bytes m (own_of w.caches m) (λ r. place_other w f m right taken.unbound r);
    caches = same w.caches;
    page_bytes = refl;
    frames = length-set w.frames.held f false;
    page = refl;
    slots = refl;
  };
  pinned = λ g d p. record {
    pinned = get_or-set_other w.frames.pinned f g false false d ∙ p;
    bytes = get_or-set_other w.frames.bytes f g bytes [] d;
    node = refl;
  };
}

pub given_up_others : (w : World) (f : ℕ) (bytes : List ℕ) → node_of w.map f ≡ None → OthersStay w (given_up w f bytes)
given_up_others w f bytes unbound = record {
  frames = λ g bound. record {
    bytes = get_or-set_other w.frames.bytes f g bytes [] (λ e. absurd (let none : is_bound w g ≡ false = ap (is_bound w) e ∙ ap is_some unbound in cc));
    node = refl;
  };
  states = λ m. record { away = λ _. refl; here = λ _. refl };
}

pub refill_same : (old bytes : List ℕ) → length bytes ≡ length old → refill old bytes ≡ bytes
refill_same old bytes e = take_at bytes (drop (length bytes) old) (length old) e

-- what is left of an own page in no frame, no slot and on no segment
pub zero_left : (x : OwnState) → is_absent x ≡ false → is_resident x ≡ false → (x ≡ OnSegment → ⊥) → ((s : SlotId) → x ≡ Slot s → ⊥) → x ≡ Zero
zero_left Absent some away home out = absurd (cc)
zero_left Zero some away home out = refl
zero_left (Resident d) some away home out = absurd (cc)
zero_left (Slot s) some away home out = absurd (out s refl)
zero_left OnSegment some away home out = absurd (home refl)

-- the page that the mapper gave last, where it tells that
pub given_is : (before last : Option (List ℕ)) (page : List ℕ) → last ≡ option_map (λ _. page) before → IfSome last (λ p. page ≡ p)
given_is None last page e = subst (λ (o : Option (List ℕ)). IfSome o (λ p. page ≡ p)) (sym e) tt
given_is (Some x) last page e = subst (λ (o : Option (List ℕ)). IfSome o (λ p. page ≡ p)) (sym e) refl
