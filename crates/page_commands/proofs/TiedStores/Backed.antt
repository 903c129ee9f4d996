-- What lies outside of the frames is there still, where nodes keep their homes or lose them.
use Rattle.std.proofs.Common.{◌≡◌, ℕ, Bool, true, false, List, Option, Some, None, IsSome, refl, sym, ap, ◌∙◌, subst}
use Rattle.std.specs.Prelude.{option_map, option_and_then}
use Rattle.vm_ids.specs.Held.{slot_of}
use Rattle.vm_ids.specs.declared.numbers.NodeId.{NodeId}
use Rattle.local_cache.specs.declared.home.Home.{Home}
use Rattle.local_cache.specs.declared.own_state.OwnState.{OwnState}
use Rattle.local_cache.specs.declared.own_state.OwnState.TheVariants.{Absent, Zero, Resident, Slot, OnSegment}
use Rattle.local_cache.specs.Arena.{Arena}
use Rattle.local_cache.specs.Home.{home_of}
use Rattle.local_cache.specs.Own.{is_resident, own_of}
use Rattle.residency.specs.World.{IsBacked, World, frame_page, home_page, is_clean, is_slot_held, own_page, page_at, page_by, zero_page}

-- From a to b no node came to a home, and each node whose page its segment holds was such a one,
-- and has its home still.
pub record HomesStay (a b : Arena) : Type 0 where
  pub homes : (n : NodeId) (h : Home) → home_of b n ≡ Some h → home_of a n ≡ Some h
  pub own : (n : NodeId) → is_clean (own_of b n) ≡ true → own_of b n ≡ own_of a n
  pub clean : (n : NodeId) → is_clean (own_of b n) ≡ true → home_of b n ≡ home_of a n

-- every node has its own state and its home
pub same_homes : (a b : Arena) → ((n : NodeId) → own_of b n ≡ own_of a n) → ((n : NodeId) → home_of b n ≡ home_of a n) → HomesStay a b
same_homes a b own home = record { homes = λ n h e. sym (home n) ∙ e; own = λ n k. own n; clean = λ n k. home n }

-- a node that has no home has another page than a segment
pub homeless : (w : World) (n : NodeId) → IsBacked w → home_of w.caches n ≡ None → is_clean (own_of w.caches n) ≡ false
homeless w n backed none = go (is_clean (own_of w.caches n)) refl
  where
    go : (t : Bool) → is_clean (own_of w.caches n) ≡ t → is_clean (own_of w.caches n) ≡ false
    go false e = e
    go true e = absurd (let has : IsSome (home_of w.caches n) = backed.homes n e in cc)

-- One page

-- the frame is looked at for a page in a frame alone, and the home for one that its segment holds
pub page_as : {P : Type 0} (z f g : P) (s : ℕ → P) (k l : P) (x : OwnState) → (is_resident x ≡ true → f ≡ g) → (is_clean x ≡ true → k ≡ l) → page_by z f s k x ≡ page_by z g s l x
page_as z f g s k l Absent frame home = refl
page_as z f g s k l Zero frame home = refl
page_as z f g s k l (Resident dirty) frame home = ap Some (frame refl)
page_as z f g s k l (Slot j) frame home = refl
page_as z f g s k l OnSegment frame home = ap Some (home refl)

-- After a step that moves no bytes: the caches are others, and frames, slots and the map may be.
abbrev pub stepped : World → Arena → List Bool → List Bool → List (Option NodeId) → World
stepped w b held slots map = record w { caches = b; frames = record w.frames { held = held }; slots = slots; map = map }

module _ (w : World) (b : Arena) (held slots : List Bool) (map : List (Option NodeId)) where
  abbrev v : World
  v = stepped w b held slots map

  home_page_as : (n m : NodeId) → home_of b n ≡ home_of w.caches m → home_page (stepped w b held slots map) n ≡ home_page w m
  home_page_as n m same = ap (λ (o : Option Home). option_and_then (λ h. option_and_then (page_at h) o) w.told) same

  -- a node has what another one had
  pub own_page_as : (n m : NodeId) → own_of b n ≡ own_of w.caches m → (is_resident (own_of w.caches m) ≡ true → frame_page (stepped w b held slots map) n ≡ frame_page w m)
      → (is_clean (own_of w.caches m) ≡ true → home_of b n ≡ home_of w.caches m) → own_page (stepped w b held slots map) n ≡ own_page w m
  own_page_as n m own frame home =
      ap (page_by (option_map (λ _. zero_page w) w.told) (option_map (λ _. frame_page v n) w.told) (λ slot. option_and_then (λ h. slot_of h slot) w.told) (home_page v n)) own
      ∙ page_as (option_map (λ _. zero_page w) w.told) (option_map (λ _. frame_page v n) w.told) (option_map (λ _. frame_page w m) w.told) (λ slot. option_and_then (λ h. slot_of h slot) w.told) (home_page v n) (home_page w m) (own_of w.caches m)
      (λ k. ap (λ (bytes : List ℕ). option_map (λ _. bytes) w.told) (frame k)) (λ k. home_page_as n m (home k))

  -- What is kept
  module _ (stay : HomesStay w.caches b) (frames : (n : NodeId) → is_clean (own_of b n) ≡ true → is_resident (own_of b n) ≡ true → frame_page (stepped w b held slots map) n ≡ frame_page w n) where
    pub stay_backed : ((s : ℕ) → is_slot_held (stepped w b held slots map) s ≡ true → is_slot_held w s ≡ true) → IsBacked w → IsBacked (stepped w b held slots map)
    stay_backed held_still backed = record {
      there = λ s h. backed.there s (held_still s h);
      homes = λ n k. subst IsSome (sym (stay.clean n k)) (backed.homes n (ap is_clean (sym (stay.own n k)) ∙ k));
      apart = λ n m h e f. backed.apart n m h (stay.homes n h e) (stay.homes m h f);
      lies = λ n h e. backed.lies n h (stay.homes n h e);
      clean = λ n k.
          let was : is_clean (own_of w.caches n) ≡ true = ap is_clean (sym (stay.own n k)) ∙ k in
          own_page_as n n (stay.own n k) (λ r. frames n k (ap is_resident (stay.own n k) ∙ r)) (λ c. stay.clean n k)
          ∙ backed.clean n was ∙ ap Some (sym (home_page_as n n (stay.clean n k)));
    }
