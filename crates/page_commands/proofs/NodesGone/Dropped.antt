-- A node lost its own page: its frame or its slot is given back.
use Rattle.std.proofs.Common.{◌*◌, ◌≡◌, ◌≢◌, ℕ, ◌+◌, ◌<◌, ◌==◌, Bool, true, false, List, [], length, get_or, set, Option, Some, None, refl, sym, ap, ◌∙◌, subst, arith, inl, inr, length-set}
use Rattle.std.specs.Prelude.{MatchOption}
use Rattle.vm_ids.specs.declared.numbers.FrameId.{FrameId}
use Rattle.std.specs.List.{count_by}
use Rattle.std.proofs.lemmas.Bool.{cases_eq, false≢true}
use Rattle.std.proofs.lemmas.List.{get_or-set_same, get_or-set_other}
use Rattle.std.proofs.lemmas.List.Folds.{position_or_len-set}
use Rattle.vm_ids.specs.declared.numbers.NodeId.{NodeId}
use Rattle.vm_ids.specs.declared.numbers.SlotId.{SlotId}
use Rattle.vm_ids.proofs.Places.{bit, bit_false, bit_true, count-set, only_place, other_number, same_number, true_below}
use Rattle.frame_pool.specs.Pool.{is_pinned}
use Rattle.slot_pool.specs.Slots as swap
use Rattle.global_map.specs.Pairs.{bound_times, frame_of, is_node, node_of}
use Rattle.local_cache.specs.declared.own_state.OwnState.{OwnState}
use Rattle.local_cache.specs.declared.own_state.OwnState.TheVariants.{Absent, Zero, Resident, Slot, OnSegment}
use Rattle.local_cache.specs.Arena.{Arena, HasNode, with_own}
use Rattle.local_cache.specs.Home.{home_of}
use Rattle.local_cache.specs.Own.{is_in_slot, is_resident, is_slot, own_of, own_states}
use Rattle.local_cache.proofs.Nodes.OwnStates.{id_apart, id_cases, own_count, own_other, own_same}
use Rattle.residency.specs.World.{IsTied, World, frame_page, is_clean, is_slot_held, own_page}
use Rattle.page_commands.proofs.TiedStores.Tied.{held_after, slot_is_held}
use Rattle.residency.proofs.Worlds.Homes.{IsHome, resident_not_in_slot, resident_not_slot}
use Rattle.tree_merge.specs.Releasing.{Went}
use Rattle.page_commands.proofs.TiedStores.Backed.{HomesStay, own_page_as, stay_backed}
use Rattle.page_commands.proofs.NodesGone.Counting.{went_count}
use Rattle.page_commands.proofs.NodesGone.Passed.{gone_own, resident_home}

-- From a to b the node n lost its own page: it is gone, or is a page of zeros. All others have
-- theirs.
pub record HasLost (a b : Arena) (n : NodeId) : Type 0 where
  pub was : HasNode a n
  pub stored : is_resident (own_of b n) ≡ false
  pub others : (m : NodeId) → m ≢ n → own_of b m ≡ own_of a m
  pub count : (p : OwnState → Bool) → p Absent ≡ false → p Zero ≡ false → count_by p (own_states a) ≡ bit (p (own_of a n)) + count_by p (own_states b)

-- it is gone
pub went_lost : (a b : Arena) (n : NodeId) → Went a b n → ((m : NodeId) → m ≢ n → own_of b m ≡ own_of a m) → HasLost a b n
went_lost a b n went others = record {
  was = went.was;
  stored = ap is_resident (gone_own b n went.gone);
  others = others;
  count = λ p out none. went_count p a b n went others;
}

-- it is a page of zeros
pub zero_lost : (a : Arena) (n : NodeId) → HasNode a n → HasLost a (with_own a n Zero) n
zero_lost a n there = record {
  was = there;
  stored = ap is_resident (own_same a n Zero);
  others = λ m d. own_other a n m Zero d;
  count = λ p out none. omega (arith, own_count p a n Zero there, bit_false (p Zero) none);
}

module _ (w : World) (b : Arena) (n : NodeId) (tied : IsTied w) (lost : HasLost w.caches b n) (stay : HomesStay w.caches b) where
  gone_bit : (m : NodeId) → m ≡ n → bit (is_resident (own_of b m)) ≡ 0
  gone_bit m e = ap (λ (k : NodeId). bit (is_resident (own_of b k))) e ∙ ap bit lost.stored

  -- a page that is in a frame still isn't that of n
  not_gone : (m : NodeId) → is_resident (own_of b m) ≡ true → m ≢ n
  not_gone m r e = false≢true (sym (ap (λ (k : NodeId). is_resident (own_of b k)) e ∙ lost.stored) ∙ r)

  unbound : is_resident (own_of w.caches n) ≡ false → (m : NodeId) → bound_times w.map m.0 ≡ bit (is_resident (own_of b m))
  unbound away m = tied.placed.bound m ∙ elim (id_cases m n) [
    | inl e ↦ ap (λ (k : NodeId). bit (is_resident (own_of w.caches k))) e ∙ ap bit away ∙ sym (gone_bit m e)
    | inr d ↦ ap (λ (x : OwnState). bit (is_resident x)) (sym (lost.others m d))
  ]

  same_count : (p : OwnState → Bool) → p Absent ≡ false → p Zero ≡ false → p (own_of w.caches n) ≡ false → count_by p (own_states b) ≡ count_by p (own_states w.caches)
  same_count p out none off = omega (arith, lost.count p out none, bit_false (p (own_of w.caches n)) off)

  home_stays : (m : NodeId) → m ≢ n → is_clean (own_of w.caches m) ≡ true → home_of b m ≡ home_of w.caches m
  home_stays m d k = stay.clean m (ap is_clean (lost.others m d) ∙ k)

  -- a page in a frame
  module _ (resident : is_resident (own_of w.caches n) ≡ true) (loose : is_pinned w.frames (frame_of w.map n.0) ≡ false) where
    abbrev f : ℕ
    f = frame_of w.map n.0

    at : IsHome w (frame_of w.map n.0) n
    at = resident_home w n tied resident

    other_there : (m : NodeId) → m ≢ n → is_node m.0 None ≡ is_node m.0 (get_or w.map (frame_of w.map n.0) None)
    other_there m d = sym (ap (is_node m.0) at.node ∙ other_number n.0 m.0 (λ q. id_apart m n d (sym q)))

    bound : (m : NodeId) → bound_times (set w.map (frame_of w.map n.0) None) m.0 ≡ bit (is_resident (own_of b m))
    bound m =
        let counts : bound_times (set w.map f None) m.0 + bit (is_node m.0 (get_or w.map f None)) ≡ bound_times w.map m.0 + 0 = count-set (is_node m.0) w.map f None None at.frame in
        elim (id_cases m n) [
          | inl e ↦ (
              let here : is_node m.0 (get_or w.map f None) ≡ true = ap (is_node m.0) at.node ∙ ap (λ (k : NodeId). n.0 == k.0) e ∙ same_number n.0 in
              let once : bound_times w.map m.0 ≡ 1 = ap (λ (k : NodeId). bound_times w.map k.0) e ∙ at.once in
              omega (arith, bit_true (is_node m.0 (get_or w.map f None)) here, gone_bit m e))
          | inr d ↦ (
              let now : bit (is_resident (own_of b m)) ≡ bit (is_resident (own_of w.caches m)) = ap (λ (x : OwnState). bit (is_resident x)) (lost.others m d) in
              let here : is_node m.0 (get_or w.map f None) ≡ false = sym (other_there m d) in
              omega (arith, bit_false (is_node m.0 (get_or w.map f None)) here, tied.placed.bound m))
        ]

    -- each other page in a frame is in the one that it was in
    pub place_stays : (m : NodeId) → m ≢ n → frame_of (set w.map (frame_of w.map n.0) None) m.0 ≡ frame_of w.map m.0
    place_stays m d = position_or_len-set (is_node m.0) w.map f None None (other_there m d)

    frame_stays : (m : NodeId) → m ≢ n → get_or w.frames.bytes (frame_of (set w.map (frame_of w.map n.0) None) m.0) [] ≡ frame_page w m
    frame_stays m d = ap (λ (k : ℕ). get_or w.frames.bytes k []) (place_stays m d)

    pub framed_right : IsTied (record w { caches = b; map = set w.map (frame_of w.map n.0) None; frames = record w.frames { held = set w.frames.held (frame_of w.map n.0) false } })
    framed_right = record {
      placed = record {
        bound = bound;
        held = held_after w f n tied at loose;
        slots = λ s. same_count (is_slot s) refl refl (resident_not_slot s (own_of w.caches n) resident) ∙ tied.placed.slots s;
        in_slots = tied.placed.in_slots ∙ sym (same_count is_in_slot refl refl (resident_not_in_slot (own_of w.caches n) resident));
      };
      backed = stay_backed w b (set w.frames.held f false) w.slots (set w.map f None) stay (λ m k r. frame_stays m (not_gone m r)) (λ s h. h) tied.backed;
      fitted = record {
        map_frames = length-set w.map f None ∙ tied.fitted.map_frames ∙ sym (length-set w.frames.held f false);
        bytes_frames = tied.fitted.bytes_frames ∙ sym (length-set w.frames.held f false);
        pinned_frames = tied.fitted.pinned_frames ∙ sym (length-set w.frames.held f false);
        marks_frames = tied.fitted.marks_frames ∙ sym (length-set w.frames.held f false);
        places_frames = tied.fitted.places_frames ∙ ap (λ (k : ℕ). 4 * k) (sym (length-set w.frames.held f false));
        few = omega (arith, length-set w.frames.held f false, tied.fitted.few);
        page = tied.fitted.page;
      };
    }

    pub framed_page : (m : NodeId) → m ≢ n → own_page (record w { caches = b; map = set w.map (frame_of w.map n.0) None; frames = record w.frames { held = set w.frames.held (frame_of w.map n.0) false } }) m ≡ own_page w m
    framed_page m d = own_page_as w b (set w.frames.held f false) w.slots (set w.map f None) m m (lost.others m d) (λ r. frame_stays m d) (home_stays m d)

  -- a page in a slot
  module _ (s : SlotId) (in_slot : own_of w.caches n ≡ Slot s) where
    held : is_slot_held w s.0 ≡ true
    held = slot_is_held w n s tied lost.was in_slot

    slots_after : (k : ℕ) → count_by (is_slot k) (own_states b) ≡ bit (get_or (set w.slots s.0 false) k false)
    slots_after k =
        let counts : count_by (is_slot k) (own_states w.caches) ≡ bit (is_slot k (own_of w.caches n)) + count_by (is_slot k) (own_states b) = lost.count (is_slot k) refl refl in
        let was : is_slot k (own_of w.caches n) ≡ (s.0 == k) = ap (is_slot k) in_slot in
        elim (cases_eq k s.0) [
          | inl q ↦ (
              let now : get_or (set w.slots s.0 false) k false ≡ false = ap (λ (j : ℕ). get_or (set w.slots s.0 false) j false) q ∙ get_or-set_same w.slots s.0 false false (true_below w.slots s.0 held) in
              let this : is_slot k (own_of w.caches n) ≡ true = was ∙ ap (λ (j : ℕ). s.0 == j) q ∙ same_number s.0 in
              let before : is_slot_held w k ≡ true = ap (is_slot_held w) q ∙ held in
              omega (arith, bit_true (is_slot k (own_of w.caches n)) this, bit_false (get_or (set w.slots s.0 false) k false) now, bit_true (is_slot_held w k) before, tied.placed.slots k))
          | inr d ↦ (
              let now : bit (get_or (set w.slots s.0 false) k false) ≡ bit (is_slot_held w k) = ap bit (get_or-set_other w.slots s.0 k false false d) in
              let this : is_slot k (own_of w.caches n) ≡ false = was ∙ other_number s.0 k (λ e. d (sym e)) in
              omega (arith, bit_false (is_slot k (own_of w.caches n)) this, tied.placed.slots k))
        ]

    pub slotted_right : IsTied (record w { caches = b; slots = set w.slots s.0 false })
    slotted_right = record {
      placed = record {
        bound = unbound (ap is_resident in_slot);
        held = tied.placed.held;
        slots = slots_after;
        in_slots = (
            let counts : count_by is_in_slot (own_states w.caches) ≡ bit (is_in_slot (own_of w.caches n)) + count_by is_in_slot (own_states b) = lost.count is_in_slot refl refl in
            let was : is_in_slot (own_of w.caches n) ≡ true = ap is_in_slot in_slot in
            let given : swap.held_count (set w.slots s.0 false) + bit (get_or w.slots s.0 false) ≡ swap.held_count w.slots + 0 = count-set (λ h. h) w.slots s.0 false false (true_below w.slots s.0 held) in
            omega (arith, bit_true (is_in_slot (own_of w.caches n)) was, bit_true (get_or w.slots s.0 false) held, tied.placed.in_slots));
      };
      backed = stay_backed w b w.frames.held (set w.slots s.0 false) w.map stay (λ m k r. refl)
          (λ k h. elim (cases_eq k s.0) [
            | inl q ↦ ap (is_slot_held w) q ∙ held
            | inr d ↦ sym (get_or-set_other w.slots s.0 k false false d) ∙ h
          ]) tied.backed;
      fitted = tied.fitted;
    }

  -- a page in neither, or no page
  module _ (away : is_resident (own_of w.caches n) ≡ false) (out : is_in_slot (own_of w.caches n) ≡ false) where
    no_slot : (k : ℕ) (x : OwnState) → is_in_slot x ≡ false → is_slot k x ≡ false
    no_slot k Absent e = refl
    no_slot k Zero e = refl
    no_slot k (Resident d) e = refl
    no_slot k (Slot s) e = absurd (cc e)
    no_slot k OnSegment e = refl

    pub plain_right : IsTied (record w { caches = b })
    plain_right = record {
      placed = record {
        bound = unbound away;
        held = tied.placed.held;
        slots = λ s. same_count (is_slot s) refl refl (no_slot s (own_of w.caches n) out) ∙ tied.placed.slots s;
        in_slots = tied.placed.in_slots ∙ sym (same_count is_in_slot refl refl out);
      };
      backed = stay_backed w b w.frames.held w.slots w.map stay (λ m k r. refl) (λ s h. h) tied.backed;
      fitted = tied.fitted;
    }

  -- all other pages stay, where frames do
  pub plain_page : (m : NodeId) → m ≢ n → own_page (record w { caches = b }) m ≡ own_page w m
  plain_page m d = own_page_as w b w.frames.held w.slots w.map m m (lost.others m d) (λ r. refl) (home_stays m d)

-- where a node stands once, its frame is the one that is got
pub got_frame : (A : Type 0) (map : List (Option NodeId)) (n : NodeId) (o : Option FrameId) (f : FrameId) → o ≡ Some f → MatchOption o A (λ frame. (frame.0 < length map) × (node_of map frame.0 ≡ Some n)) → bound_times map n.0 ≡ 1 → frame_of map n.0 ≡ f.0
got_frame A map n None f e m once = absurd (cc e)
got_frame A map n (Some g) f e m once = let same : g ≡ f = cc e in only_place (is_node n.0) map g.0 None once m.0 (ap (is_node n.0) m.1 ∙ same_number n.0) ∙ ap (λ (k : FrameId). k.0) same

pub found_at : (map seen : List (Option NodeId)) (n : NodeId) (o : Option FrameId) → seen ≡ map → MatchOption o (bound_times seen n.0 ≡ 0) (λ frame. (frame.0 < length seen) × (node_of seen frame.0 ≡ Some n)) → MatchOption o (bound_times map n.0 ≡ 0) (λ frame. (frame.0 < length map) × (node_of map frame.0 ≡ Some n))
found_at map seen n o e m = subst (λ (k : List (Option NodeId)). MatchOption o (bound_times k n.0 ≡ 0) (λ frame. (frame.0 < length k) × (node_of k frame.0 ≡ Some n))) e m
