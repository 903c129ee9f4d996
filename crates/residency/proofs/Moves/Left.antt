-- A page leaves its frame.
use Rattle.std.proofs.Common.{◌≡◌, ◌≢◌, ℕ, ◌*◌, ◌+◌, ◌<◌, ◌==◌, ◌||◌, Bool, true, false, List, length, get_or, set, Option, Some, None, refl, sym, ap, ◌∙◌, arith, inl, inr, length-set}
use Rattle.std.specs.List.{count_by}
use Rattle.std.specs.Option.{IfSome, IsSome}
use Rattle.std.specs.Prelude.{is_some, option_map, option_and_then}
use Rattle.std.proofs.lemmas.Bool.{cases_eq}
use Rattle.std.proofs.lemmas.List.{get_or-set_same, get_or-set_other}
use Rattle.std.proofs.lemmas.List.Folds.{position_or_len-set}
use Rattle.vm_ids.specs.Held.{Held, slot_of}
use Rattle.vm_ids.specs.declared.numbers.NodeId.{NodeId}
use Rattle.vm_ids.proofs.Places.{same_number, other_number, bit, bit_true, bit_false, count-set}
use Rattle.frame_pool.specs.Pool.{is_pinned, bytes_of}
use Rattle.slot_pool.specs.Slots as swap
use Rattle.global_map.specs.Pairs.{bound_times, is_node, node_of}
use Rattle.local_cache.specs.declared.home.Home.{Home}
use Rattle.local_cache.specs.declared.own_state.OwnState.{OwnState}
use Rattle.local_cache.specs.declared.own_state.OwnState.TheVariants.{Absent, Zero, Resident, Slot, OnSegment}
use Rattle.local_cache.specs.Arena.{with_own}
use Rattle.local_cache.specs.Home.{home_of}
use Rattle.local_cache.specs.Own.{is_in_slot, is_resident, is_slot, own_of, own_states}
use Rattle.local_cache.proofs.Names.Homes.{home-with_own}
use Rattle.local_cache.proofs.Nodes.OwnStates.{id_cases, id_apart, own_count, own_held, own_length, own_other, own_same}
use Rattle.residency.specs.Causes.{dirty_count, is_dirty}
use Rattle.residency.specs.Evicting.{left}
use Rattle.residency.specs.World.{World, AreGranted, IsBacked, IsStoreRight, OthersStay, PinnedStays, Still, frame_page, home_page, is_clean, is_out, is_slot_held, own_page, page_at, page_by, zero_page}
use Rattle.residency.proofs.Worlds.Homes.{IsHome, page_here, slot_is_held}
use Rattle.residency.proofs.Worlds.Nodes.{own_granted, with_own_same}
use Rattle.residency.proofs.Pushes.Outside.{none_denied}

-- another node stands where it stood
other_there : (map : List (Option NodeId)) (f : ℕ) (n m : NodeId) → node_of map f ≡ Some n → m ≢ n → is_node m.0 None ≡ is_node m.0 (get_or map f None)
other_there map f n m node d = sym (ap (is_node m.0) node ∙ other_number n.0 m.0 (λ e. id_apart m n d (sym e)))

-- the node of a frame leaves it, for whatever own state that isn't resident
pub bound_after : (w : World) (f : ℕ) (n : NodeId) (x : OwnState) → IsStoreRight w → IsHome w f n → is_resident x ≡ false → (m : NodeId) → bound_times (set w.map f None) m.0 ≡ bit (is_resident (own_of (with_own w.caches n x) m))
bound_after w f n x right h gone m =
    let counts : bound_times (set w.map f None) m.0 + bit (is_node m.0 (get_or w.map f None)) ≡ bound_times w.map m.0 + 0 = count-set (is_node m.0) w.map f None None h.frame in
    elim (id_cases m n) [
      | inl e ↦ (
          let now : own_of (with_own w.caches n x) m ≡ x = ap (own_of (with_own w.caches n x)) e ∙ own_same w.caches n x in
          let none : bit (is_resident (own_of (with_own w.caches n x) m)) ≡ 0 = ap (λ (y : OwnState). bit (is_resident y)) now ∙ ap bit gone in
          let here : is_node m.0 (get_or w.map f None) ≡ true = ap (is_node m.0) h.node ∙ ap (λ (k : NodeId). n.0 == k.0) e ∙ same_number n.0 in
          let times : bound_times w.map m.0 ≡ 1 = ap (λ (k : NodeId). bound_times w.map k.0) e ∙ h.once in
          omega (arith, bit_true (is_node m.0 (get_or w.map f None)) here))
      | inr d ↦ (
          let now : bit (is_resident (own_of (with_own w.caches n x) m)) ≡ bit (is_resident (own_of w.caches m)) = ap (λ (y : OwnState). bit (is_resident y)) (own_other w.caches n m x d) in
          let here : is_node m.0 (get_or w.map f None) ≡ false = sym (other_there w.map f n m h.node d) in
          omega (arith, bit_false (is_node m.0 (get_or w.map f None)) here, right.tied.placed.bound m))
    ]

pub held_after : (w : World) (f : ℕ) (n : NodeId) → IsStoreRight w → IsHome w f n → is_pinned w.frames f ≡ false → (g : ℕ)
    → get_or (set w.frames.held f false) g false ≡ (is_some (get_or (set w.map f None) g None) || is_pinned w.frames g)
held_after w f n right h loose g =
    let within : f < length w.frames.held = omega (arith, h.frame, right.tied.fitted.map_frames) in
    elim (cases_eq g f) [
      | inl e ↦ (
          let left : get_or (set w.frames.held f false) g false ≡ false = ap (λ (k : ℕ). get_or (set w.frames.held f false) k false) e ∙ get_or-set_same w.frames.held f false false within in
          let unbound : get_or (set w.map f None) g None ≡ None = ap (λ (k : ℕ). get_or (set w.map f None) k None) e ∙ get_or-set_same w.map f None None h.frame in
          let unpinned : is_pinned w.frames g ≡ false = ap (is_pinned w.frames) e ∙ loose in
          left ∙ sym (ap (λ (o : Option NodeId). is_some o || is_pinned w.frames g) unbound ∙ unpinned))
      | inr d ↦ get_or-set_other w.frames.held f g false false d ∙ right.tied.placed.held g ∙ ap (λ (o : Option NodeId). is_some o || is_pinned w.frames g) (sym (get_or-set_other w.map f g None None d))
    ]

none_then : {X : Type 0} (told : Option Held) → option_and_then {T = Held} {U = X} (λ _. None) told ≡ None
none_then None = refl
none_then (Some h) = refl

-- Frame f of node n falls free, and the node's page is in state x then, while the mapper holds what
-- it tells then, and these slots are held.
module _ (w : World) (f : ℕ) (n : NodeId) (x : OwnState) (told : Option Held) (marks : List Bool) where
  abbrev pub then : World
  then = record (left w f n x) { told = told; slots = marks }

  abbrev bytes : List ℕ
  bytes = bytes_of w.frames f

  -- What a page that leaves has to find.
  pub record Finds : Type 0 where
    -- another place, which is its home where it has one
    pub gone : is_resident x ≡ false
    pub homes : is_clean x ≡ true → IsSome (home_of w.caches n)
    pub out : is_out (home_of w.caches n) x ≡ true
    pub settled : IsSome (home_of w.caches n) → is_clean x ≡ true
    -- the slots are those of the nodes
    pub slots : (k : ℕ) → count_by (is_slot k) (own_states (with_own w.caches n x)) ≡ bit (get_or marks k false)
    pub in_slots : swap.held_count marks ≡ count_by is_in_slot (own_states (with_own w.caches n x))
    pub size : length marks ≡ length w.slots
    -- the mapper has the page, and of all others what it had
    pub there : (k : ℕ) → get_or marks k false ≡ true → IfSome told (λ h. IsSome (slot_of h k))
    pub tells : (page : List ℕ) → option_map (λ _. page) told ≡ option_map (λ _. page) w.told
    pub denied : option_map (λ (h : Held). h.denied) told ≡ option_map (λ (h : Held). h.denied) w.told
    pub others : (k : ℕ) → is_slot_held w k ≡ true → option_and_then (λ h. slot_of h k) told ≡ option_and_then (λ h. slot_of h k) w.told
    pub elsewhere : (home : Home) → (home_of w.caches n ≡ Some home → ⊥) → option_and_then (λ h. page_at h home) told ≡ option_and_then (λ h. page_at h home) w.told
    pub lies : (home : Home) → IfSome w.told (λ h. IsSome (page_at h home)) → IfSome told (λ h. IsSome (page_at h home))
    pub here : page_by (option_map (λ _. zero_page w) told) (option_map (λ _. frame_page (record (left w f n x) { told = told; slots = marks }) n) told) (λ k. option_and_then (λ h. slot_of h k) told) (home_page (record (left w f n x) { told = told; slots = marks }) n) x
        ≡ Some (option_map (λ _. bytes_of w.frames f) w.told)

  module _ (right : IsStoreRight w) (h : IsHome w f n) (loose : is_pinned w.frames f ≡ false) (finds : Finds) where
    now : own_of then.caches n ≡ x
    now = own_same w.caches n x

    -- another node's home has its page still
    home_there : (m : NodeId) → m ≢ n → home_page then m ≡ home_page w m
    home_there m d = ap (λ (o : Option Home). option_and_then (λ h. option_and_then (page_at h) o) told) (home-with_own w.caches n x m) ∙ by_home (home_of w.caches m) refl
      where
        by_home : (o : Option Home) → home_of w.caches m ≡ o → option_and_then (λ h. option_and_then (page_at h) o) told ≡ option_and_then (λ h. option_and_then (page_at h) o) w.told
        by_home None e = none_then told ∙ sym (none_then w.told)
        by_home (Some home) e = finds.elsewhere home (λ q. d (right.tied.backed.apart m n home e q))

    page_there : (m : NodeId) → m ≢ n → (y : OwnState) → own_of w.caches m ≡ y
        → page_by (option_map (λ _. zero_page w) told) (option_map (λ _. frame_page then m) told) (λ k. option_and_then (λ h. slot_of h k) told) (home_page then m) y
        ≡ page_by (option_map (λ _. zero_page w) w.told) (option_map (λ _. frame_page w m) w.told) (λ k. option_and_then (λ h. slot_of h k) w.told) (home_page w m) y
    page_there m d Absent e = refl
    page_there m d Zero e = ap Some (finds.tells (zero_page w))
    page_there m d (Resident dirty) e =
        ap Some (finds.tells (frame_page then m) ∙ ap (λ (g : ℕ). option_map (λ _. bytes_of w.frames g) w.told) (position_or_len-set (is_node m.0) w.map f None None (other_there w.map f n m h.node d)))
    page_there m d (Slot k) e =
        let there = own_held (is_slot k.0) w.caches m refl (ap (is_slot k.0) e ∙ same_number k.0) in
        ap Some (finds.others k.0 (slot_is_held w m k right there e))
    page_there m d OnSegment e = ap Some (home_there m d)

    pub left_pages : (m : NodeId) → own_page then m ≡ own_page w m
    left_pages m = elim (id_cases m n) [
      | inl e ↦ ap (own_page then) e
          ∙ ap (page_by (option_map (λ _. zero_page w) told) (option_map (λ _. frame_page then n) told) (λ k. option_and_then (λ h. slot_of h k) told) (home_page then n)) now
          ∙ finds.here ∙ sym (page_here w f n (own_of w.caches n) h.resident h.place) ∙ ap (own_page w) (sym e)
      | inr d ↦ ap (page_by (option_map (λ _. zero_page w) told) (option_map (λ _. frame_page then m) told) (λ k. option_and_then (λ h. slot_of h k) told) (home_page then m)) (own_other w.caches n m x d)
          ∙ page_there m d (own_of w.caches m) refl
    ]

    backed : IsBacked then
    backed = record {
      there = finds.there;
      homes = λ m clean. ap is_some (home-with_own w.caches n x m) ∙ elim (id_cases m n) [
        | inl e ↦ ap (λ (k : NodeId). is_some (home_of w.caches k)) e ∙ finds.homes (sym (ap is_clean (ap (own_of then.caches) e ∙ now)) ∙ clean)
        | inr d ↦ right.tied.backed.homes m (sym (ap is_clean (own_other w.caches n m x d)) ∙ clean)
      ];
      apart = λ m k home e q. right.tied.backed.apart m k home (sym (home-with_own w.caches n x m) ∙ e) (sym (home-with_own w.caches n x k) ∙ q);
      lies = λ m home e. finds.lies home (right.tied.backed.lies m home (sym (home-with_own w.caches n x m) ∙ e));
      clean = λ m clean. elim (id_cases m n) [
        | inl e ↦ ap (own_page then) e ∙ by_state x (sym (ap is_clean (ap (own_of then.caches) e ∙ now)) ∙ clean) now ∙ ap (λ (k : NodeId). Some (home_page then k)) (sym e)
        | inr d ↦ left_pages m ∙ right.tied.backed.clean m (sym (ap is_clean (own_other w.caches n m x d)) ∙ clean) ∙ ap Some (sym (home_there m d))
      ];
    }
      where
        -- it is on its segment, since it is in no frame
        by_state : (y : OwnState) → is_clean x ≡ true → own_of then.caches n ≡ y → own_page then n ≡ Some (home_page then n)
        by_state Absent clean e = absurd (let t : is_clean x ≡ false = ap is_clean (sym now ∙ e) in cc)
        by_state Zero clean e = absurd (let t : is_clean x ≡ false = ap is_clean (sym now ∙ e) in cc)
        by_state (Resident dirty) clean e = absurd (let t : is_resident x ≡ true = ap is_resident (sym now ∙ e) in let u = finds.gone in cc)
        by_state (Slot s) clean e = absurd (let t : is_clean x ≡ false = ap is_clean (sym now ∙ e) in cc)
        by_state OnSegment clean e = ap (page_by (option_map (λ _. zero_page w) told) (option_map (λ _. frame_page then n) told) (λ k. option_and_then (λ h. slot_of h k) told) (home_page then n)) e

    granted : AreGranted then
    granted = record {
      granted = λ m home clean. own_granted w.caches n x h.there m ∙ elim (id_cases m n) [
        | inl e ↦ absurd (
            let was : is_clean x ≡ false = sym (ap is_clean (ap (own_of then.caches) e ∙ now)) ∙ clean in
            let settled = finds.settled (ap (λ (k : NodeId). is_some (home_of w.caches k)) (sym e) ∙ sym (ap is_some (home-with_own w.caches n x m)) ∙ home) in cc)
        | inr d ↦ right.granted.granted m (sym (ap is_some (home-with_own w.caches n x m)) ∙ home) (sym (ap is_clean (own_other w.caches n m x d)) ∙ clean)
      ];
      allowed = λ m home e granted. none_denied w.told told home.segment.0 home.page.0 finds.denied (right.granted.allowed m home (sym (home-with_own w.caches n x m) ∙ e) (sym (own_granted w.caches n x h.there m) ∙ granted));
    }

    pub left_right : IsStoreRight then
    left_right = record {
      tied = record {
        placed = record {
          bound = bound_after w f n x right h finds.gone;
          held = held_after w f n right h loose;
          slots = finds.slots;
          in_slots = finds.in_slots;
        };
        backed = backed;
        fitted = record {
          map_frames = length-set w.map f None ∙ right.tied.fitted.map_frames ∙ sym (length-set w.frames.held f false);
          bytes_frames = right.tied.fitted.bytes_frames ∙ sym (length-set w.frames.held f false);
          pinned_frames = right.tied.fitted.pinned_frames ∙ sym (length-set w.frames.held f false);
          marks_frames = right.tied.fitted.marks_frames ∙ sym (length-set w.frames.held f false);
          places_frames = right.tied.fitted.places_frames ∙ ap (λ (k : ℕ). 4 * k) (sym (length-set w.frames.held f false));
          few = omega (arith, length-set w.frames.held f false, right.tied.fitted.few);
          page = right.tied.fitted.page;
        };
      };
      granted = granted;
      capacity = omega (arith, own_length w.caches n x h.there, finds.size, right.capacity);
    }

    pinned_after : (g : ℕ) → is_pinned w.frames g ≡ true → PinnedStays w then g
    pinned_after g pinned = record {
      pinned = pinned;
      bytes = refl;
      node = get_or-set_other w.map f g None None (λ e. absurd (let t : is_pinned w.frames g ≡ false = ap (is_pinned w.frames) e ∙ loose in cc));
    }

    pub left_still : Still w (record (left w f n x) { told = told; slots = marks })
    left_still = record {
      stays = record {
        right = left_right;
        pages = left_pages;
        caches = with_own_same w.caches n x h.there;
        page_bytes = refl;
        frames = length-set w.frames.held f false;
        page = refl;
        slots = finds.size;
      };
      pinned = pinned_after;
    }

    pub left_others : OthersStay w (record (left w f n x) { told = told; slots = marks })
    left_others = record {
      frames = λ g bound. record {
        bytes = refl;
        node = get_or-set_other w.map f g None None (λ e. absurd (
            let unbound : is_some (get_or (set w.map f None) g None) ≡ false = ap is_some (ap (λ (k : ℕ). get_or (set w.map f None) k None) e ∙ get_or-set_same w.map f None None h.frame) in cc));
      };
      states = λ m. elim (id_cases m n) [
        | inl e ↦ record {
          away = λ gone. absurd (let t : is_resident (own_of w.caches m) ≡ true = ap (λ (k : NodeId). is_resident (own_of w.caches k)) e ∙ h.resident in cc);
          here = λ stays. absurd (
              let t : is_out (home_of w.caches m) (own_of then.caches m) ≡ true = ap (λ (k : NodeId). is_out (home_of w.caches k) (own_of then.caches k)) e ∙ ap (is_out (home_of w.caches n)) now ∙ finds.out in cc);
        }
        | inr d ↦ record { away = λ _. own_other w.caches n m x d; here = λ _. own_other w.caches n m x d }
      ];
    }

    -- one dirty page fewer is in a frame, where it was dirty
    pub left_dirty : is_dirty x ≡ false → dirty_count (with_own w.caches n x) + bit (is_dirty (own_of w.caches n)) ≡ dirty_count w.caches
    left_dirty e = omega (arith, own_count is_dirty w.caches n x h.there, bit_false (is_dirty x) e)
