-- A page that is brought into a frame that its taker has.
use Rattle.std.proofs.Common.{◌≡◌, ◌≢◌, ℕ, ◌+◌, ◌<◌, ◌≤◌, ◌==◌, ◌||◌, Bool, true, false, not, List, [], length, get_or, set, replicate, Option, Some, None, refl, sym, ap, ◌∙◌, arith, inl, inr, length-set}
use Rattle.std.specs.List.{count_by}
use Rattle.std.specs.Option.{IfSome}
use Rattle.std.specs.Prelude.{is_some, option_map, option_and_then}
use Rattle.std.proofs.lemmas.Bool.{cases_eq}
use Rattle.std.proofs.lemmas.List.{get_or-set_same, get_or-set_other}
use Rattle.std.proofs.lemmas.List.Folds.{position_or_len-set}
use Rattle.std.proofs.lemmas.List.Sums.{passes_at_first}
use Rattle.vm_ids.specs.Held.{Held, slot_of}
use Rattle.vm_ids.specs.declared.numbers.NodeId.{NodeId}
use Rattle.vm_ids.specs.declared.numbers.SlotId.{SlotId}
use Rattle.vm_ids.proofs.Places.{same_number, other_number, bit, bit_true, bit_false, count-set, only_place, some_place, true_below}
use Rattle.frame_pool.specs.Pool.{is_held}
use Rattle.slot_pool.specs.Slots as swap
use Rattle.global_map.specs.Pairs.{bound_times, frame_of, is_node, node_of}
use Rattle.local_cache.specs.declared.home.Home.{Home}
use Rattle.local_cache.specs.declared.own_state.OwnState.{OwnState}
use Rattle.local_cache.specs.declared.own_state.OwnState.TheVariants.{Absent, Zero, Resident, Slot, OnSegment}
use Rattle.local_cache.specs.Arena.{Arena, HasNode, with_own}
use Rattle.local_cache.specs.Home.{home_of}
use Rattle.local_cache.specs.Own.{is_absent, is_in_slot, is_resident, is_slot, own_of, own_states}
use Rattle.local_cache.proofs.Names.Homes.{home-with_own}
use Rattle.local_cache.proofs.Nodes.OwnStates.{id_cases, id_apart, own_count, own_length, own_other, own_same}
use Rattle.residency.specs.Causes.{dirty_count, is_dirty}
use Rattle.residency.specs.World.{World, IsAway, IsBacked, IsStoreRight, IsTaken, OthersStayBut, StillBut, frame_page, home_page, is_bound, is_clean, is_slot_held, own_page, page_at, page_by, zero_page}
use Rattle.residency.proofs.Worlds.Homes.{slot_is_held}
use Rattle.residency.proofs.Worlds.Nodes.{own_granted, with_own_same}

-- frame f, with these bytes, is then node n's
abbrev pub brought : World → ℕ → NodeId → Bool → List Bool → List ℕ → World
brought w f n dirty after bytes = record w {
  caches = with_own w.caches n (Resident dirty);
  frames = record w.frames { bytes = set w.frames.bytes f bytes; pinned = set w.frames.pinned f false };
  slots = after;
  map = set w.map f (Some n);
}

-- the slots after node n left its slot, if it was in one
pub record SlotsAfter (w : World) (n : NodeId) (dirty : Bool) (after : List Bool) : Type 0 where
  pub slots : (k : ℕ) → count_by (is_slot k) (own_states (with_own w.caches n (Resident dirty))) ≡ bit (get_or after k false)
  pub in_slots : swap.held_count after ≡ count_by is_in_slot (own_states (with_own w.caches n (Resident dirty)))
  pub same : length after ≡ length w.slots
  pub kept : (k : ℕ) → get_or after k false ≡ true → is_slot_held w k ≡ true

-- where it was in none
pub slots_same : (w : World) (n : NodeId) (dirty : Bool) (x : OwnState) → IsStoreRight w → HasNode w.caches n → own_of w.caches n ≡ x → ((k : ℕ) → is_slot k x ≡ false) → is_in_slot x ≡ false → SlotsAfter w n dirty w.slots
slots_same w n dirty x right there e out none = record {
  slots = λ k. (
      let counts : count_by (is_slot k) (own_states (with_own w.caches n (Resident dirty))) + bit (is_slot k (own_of w.caches n)) ≡ count_by (is_slot k) (own_states w.caches) + 0 = own_count (is_slot k) w.caches n (Resident dirty) there in
      let was : is_slot k (own_of w.caches n) ≡ false = ap (is_slot k) e ∙ out k in
      omega (arith, bit_false (is_slot k (own_of w.caches n)) was, right.tied.placed.slots k));
  in_slots = (
      let counts : count_by is_in_slot (own_states (with_own w.caches n (Resident dirty))) + bit (is_in_slot (own_of w.caches n)) ≡ count_by is_in_slot (own_states w.caches) + 0 = own_count is_in_slot w.caches n (Resident dirty) there in
      let was : is_in_slot (own_of w.caches n) ≡ false = ap is_in_slot e ∙ none in
      omega (arith, bit_false (is_in_slot (own_of w.caches n)) was, right.tied.placed.in_slots));
  same = refl;
  kept = λ k h. h;
}

slots_slot : (w : World) (n : NodeId) (dirty : Bool) (s : SlotId) → IsStoreRight w → HasNode w.caches n → own_of w.caches n ≡ Slot s → SlotsAfter w n dirty (set w.slots s.0 false)
slots_slot w n dirty s right there e =
    let held : is_slot_held w s.0 ≡ true = slot_is_held w n s right there e in
    let within : s.0 < length w.slots = true_below w.slots s.0 held in
    record {
      slots = λ k. (
          let counts : count_by (is_slot k) (own_states (with_own w.caches n (Resident dirty))) + bit (is_slot k (own_of w.caches n)) ≡ count_by (is_slot k) (own_states w.caches) + 0 = own_count (is_slot k) w.caches n (Resident dirty) there in
          let was : is_slot k (own_of w.caches n) ≡ (s.0 == k) = ap (is_slot k) e in
          elim (cases_eq k s.0) [
            | inl q ↦ (
                let now : get_or (set w.slots s.0 false) k false ≡ false = ap (λ (j : ℕ). get_or (set w.slots s.0 false) j false) q ∙ get_or-set_same w.slots s.0 false false within in
                let this : is_slot k (own_of w.caches n) ≡ true = was ∙ ap (λ (j : ℕ). s.0 == j) q ∙ same_number s.0 in
                let before : is_slot_held w k ≡ true = ap (is_slot_held w) q ∙ held in
                omega (arith, bit_true (is_slot k (own_of w.caches n)) this, bit_false (get_or (set w.slots s.0 false) k false) now, bit_true (is_slot_held w k) before, right.tied.placed.slots k))
            | inr d ↦ (
                let now : bit (get_or (set w.slots s.0 false) k false) ≡ bit (is_slot_held w k) = ap bit (get_or-set_other w.slots s.0 k false false d) in
                let this : is_slot k (own_of w.caches n) ≡ false = was ∙ other_number s.0 k (λ e. d (sym e)) in
                omega (arith, bit_false (is_slot k (own_of w.caches n)) this, right.tied.placed.slots k))
          ]);
      in_slots = (
          let counts : count_by is_in_slot (own_states (with_own w.caches n (Resident dirty))) + bit (is_in_slot (own_of w.caches n)) ≡ count_by is_in_slot (own_states w.caches) + 0 = own_count is_in_slot w.caches n (Resident dirty) there in
          let was : is_in_slot (own_of w.caches n) ≡ true = ap is_in_slot e in
          let given : swap.held_count (set w.slots s.0 false) + bit (get_or w.slots s.0 false) ≡ swap.held_count w.slots + 0 = count-set (λ h. h) w.slots s.0 false false within in
          omega (arith, bit_true (is_in_slot (own_of w.caches n)) was, bit_true (get_or w.slots s.0 false) held, right.tied.placed.in_slots));
      same = length-set w.slots s.0 false;
      kept = λ k h. elim (cases_eq k s.0) [
        | inl q ↦ ap (is_slot_held w) q ∙ held
        | inr d ↦ sym (get_or-set_other w.slots s.0 k false false d) ∙ h
      ];
    }

bound_after : (w : World) (f : ℕ) (n : NodeId) (dirty : Bool) → IsStoreRight w → f < length w.map → node_of w.map f ≡ None → is_resident (own_of w.caches n) ≡ false → (m : NodeId)
    → bound_times (set w.map f (Some n)) m.0 ≡ bit (is_resident (own_of (with_own w.caches n (Resident dirty)) m))
bound_after w f n dirty right within unbound away m =
    let counts : bound_times (set w.map f (Some n)) m.0 + bit (is_node m.0 (get_or w.map f None)) ≡ bound_times w.map m.0 + bit (n.0 == m.0) = count-set (is_node m.0) w.map f (Some n) None within in
    let was : is_node m.0 (get_or w.map f None) ≡ false = ap (is_node m.0) unbound in
    elim (id_cases m n) [
      | inl e ↦ (
          let now : is_resident (own_of (with_own w.caches n (Resident dirty)) m) ≡ true = ap is_resident (ap (own_of (with_own w.caches n (Resident dirty))) e ∙ own_same w.caches n (Resident dirty)) in
          let this : (n.0 == m.0) ≡ true = ap (λ (k : NodeId). n.0 == k.0) e ∙ same_number n.0 in
          let before : is_resident (own_of w.caches m) ≡ false = ap (λ (k : NodeId). is_resident (own_of w.caches k)) e ∙ away in
          omega (arith, bit_false (is_node m.0 (get_or w.map f None)) was, bit_true (n.0 == m.0) this, bit_true (is_resident (own_of (with_own w.caches n (Resident dirty)) m)) now, bit_false (is_resident (own_of w.caches m)) before, right.tied.placed.bound m))
      | inr d ↦ (
          let now : bit (is_resident (own_of (with_own w.caches n (Resident dirty)) m)) ≡ bit (is_resident (own_of w.caches m)) = ap (λ (y : OwnState). bit (is_resident y)) (own_other w.caches n m (Resident dirty) d) in
          let this : (n.0 == m.0) ≡ false = other_number n.0 m.0 (λ e. id_apart m n d (sym e)) in
          omega (arith, bit_false (is_node m.0 (get_or w.map f None)) was, bit_false (n.0 == m.0) this, right.tied.placed.bound m))
    ]

or_true : (b : Bool) → (b || true) ≡ true
or_true true = refl
or_true false = refl

held_after : (w : World) (f : ℕ) (n : NodeId) → IsStoreRight w → IsTaken w f → (g : ℕ)
    → get_or w.frames.held g false ≡ (is_some (get_or (set w.map f (Some n)) g None) || get_or (set w.frames.pinned f false) g false)
held_after w f n right taken g =
    let within : f < length w.map = omega (arith, taken.within, right.tied.fitted.map_frames) in
    elim (cases_eq g f) [
      | inl e ↦ (
          let held : is_held w.frames g ≡ true = ap (is_held w.frames) e ∙ right.tied.placed.held f ∙ ap (λ (b : Bool). is_bound w f || b) taken.pinned ∙ or_true (is_bound w f) in
          let bound : get_or (set w.map f (Some n)) g None ≡ Some n = ap (λ (k : ℕ). get_or (set w.map f (Some n)) k None) e ∙ get_or-set_same w.map f (Some n) None within in
          held ∙ sym (ap (λ (o : Option NodeId). is_some o || get_or (set w.frames.pinned f false) g false) bound))
      | inr d ↦ right.tied.placed.held g ∙ ap (λ (b : Bool). is_bound w g || b) (sym (get_or-set_other w.frames.pinned f g false false d))
          ∙ ap (λ (o : Option NodeId). is_some o || get_or (set w.frames.pinned f false) g false) (sym (get_or-set_other w.map f g (Some n) None d))
    ]

not_not : (b : Bool) → not (not b) ≡ b
not_not true = refl
not_not false = refl

-- what the mapper holds at a home stays, whatever own state a node has
home_stays : (w : World) (n : NodeId) (x : OwnState) (m : NodeId) → home_page (record w { caches = with_own w.caches n x }) m ≡ home_page w m
home_stays w n x m = ap (λ (o : Option Home). option_and_then (λ h. option_and_then (page_at h) o) w.told) (home-with_own w.caches n x m)

-- another resident node isn't at frame f
pub place_other : (w : World) (f : ℕ) (m : NodeId) → IsStoreRight w → node_of w.map f ≡ None → is_resident (own_of w.caches m) ≡ true → frame_of w.map m.0 ≢ f
place_other w f m right unbound resident e =
    let some : 1 ≤ bound_times w.map m.0 = omega (arith, right.tied.placed.bound m, bit_true (is_resident (own_of w.caches m)) resident) in
    let here : is_node m.0 (get_or w.map (frame_of w.map m.0) None) ≡ true = passes_at_first (is_node m.0) w.map None (some_place (is_node m.0) w.map some) in
    let none : is_node m.0 (get_or w.map (frame_of w.map m.0) None) ≡ false = ap (λ (k : ℕ). is_node m.0 (get_or w.map k None)) e ∙ ap (is_node m.0) unbound in
    absurd (cc)

page_elsewhere : (w : World) (f : ℕ) (n : NodeId) (dirty : Bool) (after : List Bool) (bytes : List ℕ) (m : NodeId) (x : OwnState) → m ≢ n → node_of w.map f ≡ None → (is_resident x ≡ true → frame_of w.map m.0 ≢ f)
    → page_by (option_map (λ _. zero_page w) w.told) (option_map (λ _. frame_page (brought w f n dirty after bytes) m) w.told) (λ k. option_and_then (λ h. slot_of h k) w.told) (home_page (brought w f n dirty after bytes) m) x
    ≡ page_by (option_map (λ _. zero_page w) w.told) (option_map (λ _. frame_page w m) w.told) (λ k. option_and_then (λ h. slot_of h k) w.told) (home_page w m) x
page_elsewhere w f n dirty after bytes m Absent d unbound other = refl
page_elsewhere w f n dirty after bytes m Zero d unbound other = refl
page_elsewhere w f n dirty after bytes m (Slot k) d unbound other = refl
page_elsewhere w f n dirty after bytes m OnSegment d unbound other = ap Some (home_stays w n (Resident dirty) m)
page_elsewhere w f n dirty after bytes m (Resident mark) d unbound other =
    let place : frame_of (set w.map f (Some n)) m.0 ≡ frame_of w.map m.0 = position_or_len-set (is_node m.0) w.map f (Some n) None (other_number n.0 m.0 (λ e. id_apart m n d (sym e)) ∙ sym (ap (is_node m.0) unbound)) in
    ap (λ (b : List ℕ). Some (option_map (λ _. b) w.told)) (ap (λ (k : ℕ). get_or (set w.frames.bytes f bytes) k []) place ∙ get_or-set_other w.frames.bytes f (frame_of w.map m.0) bytes [] (other refl))

module _ (w : World) (f : ℕ) (n : NodeId) (dirty : Bool) (after : List Bool) (bytes : List ℕ) (right : IsStoreRight w) (taken : IsTaken w f) where
  abbrev then : World
  then = brought w f n dirty after bytes

  within : f < length w.map
  within = omega (arith, taken.within, right.tied.fitted.map_frames)

  -- the node has the page that its frame has
  pub page_here : is_resident (own_of w.caches n) ≡ false → own_page (brought w f n dirty after bytes) n ≡ Some (option_map (λ _. bytes) w.told)
  page_here away =
      let resident : own_of (with_own w.caches n (Resident dirty)) n ≡ Resident dirty = own_same w.caches n (Resident dirty) in
      let bound : get_or (set w.map f (Some n)) f None ≡ Some n = get_or-set_same w.map f (Some n) None within in
      let here : is_node n.0 (get_or (set w.map f (Some n)) f None) ≡ true = ap (is_node n.0) bound ∙ same_number n.0 in
      let once : bound_times (set w.map f (Some n)) n.0 ≡ 1 = bound_after w f n dirty right within taken.unbound away n ∙ ap (λ (y : OwnState). bit (is_resident y)) resident in
      let place : frame_of (set w.map f (Some n)) n.0 ≡ f = only_place (is_node n.0) (set w.map f (Some n)) f None once (let i = within in omega (arith, length-set w.map f (Some n))) here in
      let got : frame_page then n ≡ bytes = ap (λ (k : ℕ). get_or (set w.frames.bytes f bytes) k []) place ∙ get_or-set_same w.frames.bytes f bytes [] (omega (arith, taken.within, right.tied.fitted.bytes_frames)) in
      ap (page_by (option_map (λ _. zero_page w) w.told) (option_map (λ _. frame_page then n) w.told) (λ k. option_and_then (λ h. slot_of h k) w.told) (home_page then n)) resident
      ∙ ap (λ (b : List ℕ). Some (option_map (λ _. b) w.told)) got

  -- and all others have theirs
  pub pages_elsewhere : (m : NodeId) → m ≢ n → own_page (brought w f n dirty after bytes) m ≡ own_page w m
  pages_elsewhere m d =
      ap (page_by (option_map (λ _. zero_page w) w.told) (option_map (λ _. frame_page then m) w.told) (λ k. option_and_then (λ h. slot_of h k) w.told) (home_page then m)) (own_other w.caches n m (Resident dirty) d)
      ∙ page_elsewhere w f n dirty after bytes m (own_of w.caches m) d taken.unbound (λ r. place_other w f m right taken.unbound r)

  module _ (there : HasNode w.caches n) (away : is_resident (own_of w.caches n) ≡ false) (slots : SlotsAfter w n dirty after)
      (mark : dirty ≡ not (is_clean (own_of w.caches n))) (page : dirty ≡ false → own_page w n ≡ Some (option_map (λ _. bytes) w.told)) where
    now : own_of then.caches n ≡ Resident dirty
    now = own_same w.caches n (Resident dirty)

    -- the node is clean where it was
    was : is_clean (own_of then.caches n) ≡ is_clean (own_of w.caches n)
    was = ap is_clean now ∙ ap not mark ∙ not_not (is_clean (own_of w.caches n))

    as_was : (m : NodeId) → is_clean (own_of then.caches m) ≡ is_clean (own_of w.caches m)
    as_was m = elim (id_cases m n) [
      | inl e ↦ ap (λ (k : NodeId). is_clean (own_of then.caches k)) e ∙ was ∙ ap (λ (k : NodeId). is_clean (own_of w.caches k)) (sym e)
      | inr d ↦ ap is_clean (own_other w.caches n m (Resident dirty) d)
    ]

    backed : IsBacked then
    backed = record {
      there = λ k h. right.tied.backed.there k (slots.kept k h);
      homes = λ m clean. ap is_some (home-with_own w.caches n (Resident dirty) m) ∙ right.tied.backed.homes m (sym (as_was m) ∙ clean);
      apart = λ m k home e q. right.tied.backed.apart m k home (sym (home-with_own w.caches n (Resident dirty) m) ∙ e) (sym (home-with_own w.caches n (Resident dirty) k) ∙ q);
      lies = λ m home e. right.tied.backed.lies m home (sym (home-with_own w.caches n (Resident dirty) m) ∙ e);
      clean = λ m clean. elim (id_cases m n) [
        | inl e ↦ (
            let is : is_clean (own_of w.caches n) ≡ true = ap (λ (k : NodeId). is_clean (own_of w.caches k)) (sym e) ∙ sym (as_was m) ∙ clean in
            ap (own_page then) e ∙ page_here away ∙ sym (page (mark ∙ ap not is)) ∙ right.tied.backed.clean n is
            ∙ ap Some (sym (home_stays w n (Resident dirty) n)) ∙ ap (λ (k : NodeId). Some (home_page then k)) (sym e))
        | inr d ↦ pages_elsewhere m d ∙ right.tied.backed.clean m (sym (as_was m) ∙ clean) ∙ ap Some (sym (home_stays w n (Resident dirty) m))
      ];
    }

    pub brought_right : IsStoreRight (brought w f n dirty after bytes)
    brought_right = record {
      tied = record {
        placed = record {
          bound = bound_after w f n dirty right within taken.unbound away;
          held = held_after w f n right taken;
          slots = slots.slots;
          in_slots = slots.in_slots;
        };
        backed = backed;
        fitted = record {
          map_frames = length-set w.map f (Some n) ∙ right.tied.fitted.map_frames;
          bytes_frames = length-set w.frames.bytes f bytes ∙ right.tied.fitted.bytes_frames;
          pinned_frames = length-set w.frames.pinned f false ∙ right.tied.fitted.pinned_frames;
          marks_frames = right.tied.fitted.marks_frames;
          places_frames = right.tied.fitted.places_frames;
          few = right.tied.fitted.few;
          page = right.tied.fitted.page;
        };
      };
      granted = record {
        granted = λ m home clean. own_granted w.caches n (Resident dirty) there m ∙ right.granted.granted m (sym (ap is_some (home-with_own w.caches n (Resident dirty) m)) ∙ home) (sym (as_was m) ∙ clean);
        allowed = λ m home e granted. right.granted.allowed m home (sym (home-with_own w.caches n (Resident dirty) m) ∙ e) (sym (own_granted w.caches n (Resident dirty) there m) ∙ granted);
      };
      capacity = omega (arith, own_length w.caches n (Resident dirty) there, slots.same, right.capacity);
    }

brought_still : (w : World) (f : ℕ) (n : NodeId) (dirty : Bool) (after : List Bool) (bytes : List ℕ) → IsStoreRight w → IsTaken w f → IsAway w.caches n → SlotsAfter w n dirty after
    → dirty ≡ not (is_clean (own_of w.caches n)) → own_page w n ≡ Some (option_map (λ _. bytes) w.told) → StillBut f w (brought w f n dirty after bytes)
brought_still w f n dirty after bytes right taken away slots mark page = record {
  stays = record {
    right = brought_right w f n dirty after bytes right taken away.node away.away slots mark (λ _. page);
    pages = λ m. elim (id_cases m n) [
      | inl e ↦ ap (own_page (brought w f n dirty after bytes)) e ∙ page_here w f n dirty after bytes right taken away.away ∙ sym page ∙ ap (own_page w) (sym e)
      | inr d ↦ pages_elsewhere w f n dirty after bytes right taken m d
    ];
    caches = with_own_same w.caches n (Resident dirty) away.node;
    page_bytes = refl;
    frames = refl;
    page = refl;
    slots = slots.same;
  };
  pinned = λ g d p. record {
    pinned = get_or-set_other w.frames.pinned f g false false d ∙ p;
    bytes = get_or-set_other w.frames.bytes f g bytes [] d;
    node = get_or-set_other w.map f g (Some n) None d;
  };
}

away_from : (a : Arena) (n : NodeId) (x : OwnState) → own_of a n ≡ x → is_absent x ≡ false → is_resident x ≡ false → HasNode a n → IsAway a n
away_from a n x e some away there = record { node = there; own_page = ap is_absent e ∙ some; away = ap is_resident e ∙ away }

-- a zeroed page gets a frame of zeros
pub zero_brought : (w : World) (f : ℕ) (n : NodeId) → IsStoreRight w → IsTaken w f → HasNode w.caches n → own_of w.caches n ≡ Zero → StillBut f w (brought w f n true w.slots (replicate w.frames.page 0))
zero_brought w f n right taken there e =
    brought_still w f n true w.slots (replicate w.frames.page 0) right taken (away_from w.caches n Zero e refl refl there) (slots_same w n true Zero right there e (λ k. refl) refl) (sym (ap (λ (x : OwnState). not (is_clean x)) e))
    (ap (page_by (option_map (λ _. zero_page w) w.told) (option_map (λ _. frame_page w n) w.told) (λ k. option_and_then (λ h. slot_of h k) w.told) (home_page w n)) e)

told_page : (told : Option Held) (s : ℕ) (bytes : List ℕ) → IfSome told (λ h. slot_of h s ≡ Some bytes) → option_and_then (λ h. slot_of h s) told ≡ option_map (λ _. bytes) told
told_page None s bytes given = refl
told_page (Some h) s bytes given = given

-- a page in a slot gets a frame with what the slot held
pub slot_brought : (w : World) (f : ℕ) (n : NodeId) (s : SlotId) (bytes : List ℕ) → IsStoreRight w → IsTaken w f → HasNode w.caches n → own_of w.caches n ≡ Slot s
    → IfSome w.told (λ h. slot_of h s.0 ≡ Some bytes) → StillBut f w (brought w f n true (set w.slots s.0 false) bytes)
slot_brought w f n s bytes right taken there e given =
    brought_still w f n true (set w.slots s.0 false) bytes right taken (away_from w.caches n (Slot s) e refl refl there) (slots_slot w n true s right there e) (sym (ap (λ (x : OwnState). not (is_clean x)) e))
    (ap (page_by (option_map (λ _. zero_page w) w.told) (option_map (λ _. frame_page w n) w.told) (λ k. option_and_then (λ h. slot_of h k) w.told) (home_page w n)) e ∙ ap Some (told_page w.told s.0 bytes given))

told_home : (told : Option Held) (home : Home) (bytes : List ℕ) → IfSome told (λ h. page_at h home ≡ Some bytes) → option_and_then (λ h. option_and_then (page_at h) (Some home)) told ≡ option_map (λ _. bytes) told
told_home None home bytes given = refl
told_home (Some h) home bytes given = given

-- a page on its segment gets a frame with what the segment held, and is clean
pub home_brought : (w : World) (f : ℕ) (n : NodeId) (home : Home) (bytes : List ℕ) → IsStoreRight w → IsTaken w f → HasNode w.caches n → own_of w.caches n ≡ OnSegment → home_of w.caches n ≡ Some home
    → IfSome w.told (λ h. page_at h home ≡ Some bytes) → StillBut f w (brought w f n false w.slots bytes)
home_brought w f n home bytes right taken there e at given =
    brought_still w f n false w.slots bytes right taken (away_from w.caches n OnSegment e refl refl there) (slots_same w n false OnSegment right there e (λ k. refl) refl) (sym (ap (λ (x : OwnState). not (is_clean x)) e))
    (ap (page_by (option_map (λ _. zero_page w) w.told) (option_map (λ _. frame_page w n) w.told) (λ k. option_and_then (λ h. slot_of h k) w.told) (home_page w n)) e
    ∙ ap (λ (o : Option Home). Some (option_and_then (λ h. option_and_then (page_at h) o) w.told)) at ∙ ap Some (told_home w.told home bytes given))

-- one dirty page more is in a frame, where it isn't clean
pub brought_dirty : (w : World) (n : NodeId) (dirty : Bool) → HasNode w.caches n → is_resident (own_of w.caches n) ≡ false → dirty_count (with_own w.caches n (Resident dirty)) ≡ dirty_count w.caches + bit dirty
brought_dirty w n dirty there away = omega (arith, own_count is_dirty w.caches n (Resident dirty) there, bit_false (is_dirty (own_of w.caches n)) (away_clean (own_of w.caches n) away))
  where
    away_clean : (x : OwnState) → is_resident x ≡ false → is_dirty x ≡ false
    away_clean Absent h = refl
    away_clean Zero h = refl
    away_clean (Resident d) h = absurd (cc)
    away_clean (Slot s) h = refl
    away_clean OnSegment h = refl

-- the other frames and nodes
pub brought_others : (w : World) (f : ℕ) (n : NodeId) (dirty : Bool) (after : List Bool) (bytes : List ℕ) → f < length w.map → OthersStayBut n w (brought w f n dirty after bytes)
brought_others w f n dirty after bytes within = record {
  frames = λ g bound other. (
      let apart : g ≢ f = λ e. other (ap (λ (k : ℕ). get_or (set w.map f (Some n)) k None) e ∙ get_or-set_same w.map f (Some n) None within) in
      record { bytes = get_or-set_other w.frames.bytes f g bytes [] apart; node = get_or-set_other w.map f g (Some n) None apart });
  states = λ m d. (
      let same : own_of (with_own w.caches n (Resident dirty)) m ≡ own_of w.caches m = own_other w.caches n m (Resident dirty) (λ e. d (ap (λ (k : NodeId). k.0) e)) in
      record { away = λ _. same; here = λ _. same });
}
