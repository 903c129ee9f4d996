-- What the caches released was followed in the store: it is tied to them again, and each node has
-- its page.
use Rattle.std.proofs.Common.{arith, ◌≡◌, ◌≢◌, ℕ, zero, suc, ◌==◌, ◌||◌, Bool, true, false, cond, List, [], ◌∷◌, get_or, set, Option, Some, None, is_some, refl, sym, ap, ◌∙◌, subst, inl, inr, length-set}
use Rattle.std.specs.List.{count_by}
use Rattle.vm_ids.specs.declared.numbers.SlotId.{SlotId}
use Rattle.std.proofs.lemmas.Bool.{false≢true}
use Rattle.std.proofs.lemmas.List.{get_or-set_other}
use Rattle.vm_ids.specs.declared.numbers.NodeId.{NodeId}
use Rattle.vm_ids.proofs.Places.{bit, other_number, same_number}
use Rattle.frame_pool.specs.Pool.{Frames, is_pinned}
use Rattle.global_map.specs.Pairs.{frame_of}
use Rattle.local_cache.specs.declared.own_state.OwnState.{OwnState}
use Rattle.local_cache.specs.declared.own_state.OwnState.TheVariants.{Absent, Zero, Resident, Slot, OnSegment}
use Rattle.local_cache.specs.Arena.{Arena, HasNode}
use Rattle.local_cache.specs.Own.{is_in_slot, is_resident, is_slot, own_of, own_states}
use Rattle.local_cache.proofs.Nodes.OwnStates.{id_apart, id_cases}
use Rattle.local_cache.proofs.Nodes.Values.{same_own_states}
use Rattle.residency.specs.declared.store.Store.{Store}
use Rattle.residency.specs.World.{IsTied, World, is_bound, is_clean, own_page, world}
use Rattle.residency.proofs.Worlds.Homes.{IsHome}
use Rattle.tree_merge.specs.declared.released.Released.{Released}
use Rattle.tree_merge.specs.declared.released.Released.TheVariants.{Nothing, Dropped, Moved}
use Rattle.tree_merge.specs.Releasing.{IsPassed, IsReleased, IsStill, Went}
use Rattle.tree_merge.proofs.OtherPages.{page_after}
use Rattle.page_commands.specs.Following.{CanFollow, CanLeave, CanMove, followed, with_page_moved, without_page}
use Rattle.page_commands.specs.Steps.{GivesBack}
use Rattle.page_commands.proofs.TiedStores.Backed.{HomesStay, own_page_as, stay_backed}
use Rattle.page_commands.proofs.TiedStores.States.{caches_give}
use Rattle.page_commands.proofs.NodesGone.Dropped.{HasLost, framed_page, framed_right, plain_page, plain_right, slotted_right, went_lost}
use Rattle.page_commands.proofs.NodesGone.Passed.{moved_other, moved_right, moved_to, rekeyed_other, rekeyed_right, rekeyed_to, resident_home}
use Rattle.page_commands.proofs.TiedStores.Tied.{slot_is_held}

-- the frame of the node that went isn't pinned
abbrev pub IsLoose : Frames → List (Option NodeId) → Released → Type 0
IsLoose frames map Nothing = Unit {0}
IsLoose frames map (Dropped n state) = is_pinned frames (frame_of map n.0) ≡ false
IsLoose frames map (Moved from to) = is_pinned frames (frame_of map from.0) ≡ false

-- what was passed on wasn't a page that its segment holds
abbrev pub IsPassedUnclean : Arena → Released → Type 0
IsPassedUnclean a Nothing = Unit {0}
IsPassedUnclean a (Dropped n state) = Unit {0}
IsPassedUnclean a (Moved from to) = is_clean (own_of a from) ≡ false

module _ (w : World) (b : Arena) (tied : IsTied w) (stay : HomesStay w.caches b) where
  -- Nothing
  module _ (still : IsStill w.caches b) where
    still_tied : IsTied (record w { caches = b })
    still_tied = record {
      placed = record {
        bound = λ n. tied.placed.bound n ∙ ap (λ (x : OwnState). bit (is_resident x)) (sym (still.own n));
        held = tied.placed.held;
        slots = λ s. ap (λ (xs : List OwnState). count_by (is_slot s) xs) states ∙ tied.placed.slots s;
        in_slots = tied.placed.in_slots ∙ ap (λ (xs : List OwnState). count_by is_in_slot xs) (sym states);
      };
      backed = stay_backed w b w.frames.held w.slots w.map stay (λ m k r. refl) (λ s h. h) tied.backed;
      fitted = tied.fitted;
    }
      where
        states : own_states b ≡ own_states w.caches
        states = same_own_states w.caches b still.held still.own

    still_page : (m : NodeId) → own_page (record w { caches = b }) m ≡ own_page w m
    still_page m = own_page_as w b w.frames.held w.slots w.map m m (still.own m) (λ r. refl) (λ k. stay.clean m (ap is_clean (still.own m) ∙ k))

  -- A page went
  pub not_gone : {n : NodeId} → Went w.caches b n → (m : NodeId) → HasNode b m → m ≢ n
  not_gone went m h e = false≢true (sym (ap is_some went.gone) ∙ subst (HasNode b) e h)

  true_after : (xs : List Bool) (k j : ℕ) → get_or (set xs k false) j false ≡ true → get_or xs j false ≡ true
  true_after [] k j h = h
  true_after (x ∷ xs) zero zero h = absurd (false≢true h)
  true_after (x ∷ xs) zero (suc j) h = h
  true_after (x ∷ xs) (suc k) zero h = h
  true_after (x ∷ xs) (suc k) (suc j) h = true_after xs k j h

  -- a pinned frame isn't one that isn't
  apart_pin : (f g : ℕ) → is_pinned w.frames f ≡ false → is_pinned w.frames g ≡ true → g ≢ f
  apart_pin f g loose pin e = false≢true (sym loose ∙ ap (is_pinned w.frames) (sym e) ∙ pin)

  module _ (n : NodeId) (lost : HasLost w.caches b n) (loose : is_pinned w.frames (frame_of w.map n.0) ≡ false) where
    framed_gives : is_resident (own_of w.caches n) ≡ true → GivesBack w (record w { caches = b; map = set w.map (frame_of w.map n.0) None; frames = record w.frames { held = set w.frames.held (frame_of w.map n.0) false } })
    framed_gives resident = record {
      tied = framed_right w b n tied lost stay resident loose;
      held = λ f h. true_after w.frames.held (frame_of w.map n.0) f h;
      bytes = refl;
      pinned = λ f pin. record { pinned = pin; bytes = refl; node = get_or-set_other w.map (frame_of w.map n.0) f None None (apart_pin (frame_of w.map n.0) f loose pin) };
      pins = refl;
      slots = λ s h. h;
      capacity = refl;
      frames = length-set w.frames.held (frame_of w.map n.0) false;
      page = refl;
    }

    slotted_gives : (s : SlotId) → own_of w.caches n ≡ Slot s → GivesBack w (record w { caches = b; slots = set w.slots s.0 false })
    slotted_gives s e = record {
      tied = slotted_right w b n tied lost stay s e;
      held = λ f h. h;
      bytes = refl;
      pinned = λ f pin. record { pinned = pin; bytes = refl; node = refl };
      pins = refl;
      slots = λ k h. true_after w.slots s.0 k h;
      capacity = length-set w.slots s.0 false;
      frames = refl;
      page = refl;
    }

    pub dropped_gives : (x : OwnState) → own_of w.caches n ≡ x → GivesBack w (without_page (record w { caches = b }) n x)
    dropped_gives Absent e = caches_give w b (plain_right w b n tied lost stay (ap is_resident e) (ap is_in_slot e))
    dropped_gives Zero e = caches_give w b (plain_right w b n tied lost stay (ap is_resident e) (ap is_in_slot e))
    dropped_gives (Resident d) e = framed_gives (ap is_resident e)
    dropped_gives (Slot s) e = slotted_gives s e
    dropped_gives OnSegment e = caches_give w b (plain_right w b n tied lost stay (ap is_resident e) (ap is_in_slot e))

    pub dropped_page : (x : OwnState) → own_of w.caches n ≡ x → (m : NodeId) → m ≢ n → own_page (without_page (record w { caches = b }) n x) m ≡ own_page w m
    dropped_page Absent e m d = plain_page w b n tied lost stay m d
    dropped_page Zero e m d = plain_page w b n tied lost stay m d
    dropped_page (Resident t) e m d = framed_page w b n tied lost stay (ap is_resident e) loose m d
    dropped_page (Slot s) e m d = plain_page w b n tied lost stay m d
    dropped_page OnSegment e m d = plain_page w b n tied lost stay m d

  -- A page went to another node
  module _ (from to : NodeId) (pass : IsPassed w.caches b from to) (loose : is_pinned w.frames (frame_of w.map from.0) ≡ false) (unclean : is_clean (own_of w.caches from) ≡ false) where
    rekeyed_gives : is_resident (own_of w.caches from) ≡ true → GivesBack w (record w { caches = b; map = set w.map (frame_of w.map from.0) (Some to) })
    rekeyed_gives resident = record {
      tied = rekeyed_right w b from to tied pass.went pass.apart pass.there pass.absent pass.passed pass.others stay unclean resident;
      held = λ f h. h;
      bytes = refl;
      pinned = λ f pin. record { pinned = pin; bytes = refl; node = get_or-set_other w.map (frame_of w.map from.0) f (Some to) None (apart_pin (frame_of w.map from.0) f loose pin) };
      pins = refl;
      slots = λ s h. h;
      capacity = refl;
      frames = refl;
      page = refl;
    }

    away_gives : is_resident (own_of w.caches from) ≡ false → GivesBack w (record w { caches = b })
    away_gives away = caches_give w b (moved_right w b from to tied pass.went pass.apart pass.there pass.absent pass.passed pass.others stay unclean away)

    passed_gives : (x : OwnState) → own_of w.caches from ≡ x → GivesBack w (with_page_moved (record w { caches = b }) from to x)
    passed_gives Absent e = away_gives (ap is_resident e)
    passed_gives Zero e = away_gives (ap is_resident e)
    passed_gives (Resident d) e = rekeyed_gives (ap is_resident e)
    passed_gives (Slot s) e = away_gives (ap is_resident e)
    passed_gives OnSegment e = away_gives (ap is_resident e)

    -- the page of the one is that of the other, and any other one stays
    abbrev PassedPages : World → Type 0
    PassedPages v = (m : NodeId) → m ≢ from → own_page v m ≡ cond (m.0 == to.0) (own_page w from) (own_page w m)

    by_pages : (v : World) → own_page v to ≡ own_page w from → ((m : NodeId) → m ≢ from → m ≢ to → own_page v m ≡ own_page w m) → PassedPages v
    by_pages v here others m d = elim (id_cases m to) [
      | inl e ↦ ap (own_page v) e ∙ here ∙ sym (ap (λ (t : Bool). cond t (own_page w from) (own_page w m)) (ap (λ (k : NodeId). k.0 == to.0) e ∙ same_number to.0))
      | inr other ↦ others m d other ∙ sym (ap (λ (t : Bool). cond t (own_page w from) (own_page w m)) (other_number m.0 to.0 (λ q. id_apart m to other q)))
    ]

    away_pages : is_resident (own_of w.caches from) ≡ false → PassedPages (record w { caches = b })
    away_pages away = by_pages (record w { caches = b })
        (moved_to w b from to tied pass.went pass.apart pass.there pass.absent pass.passed pass.others stay unclean away)
        (moved_other w b from to tied pass.went pass.apart pass.there pass.absent pass.passed pass.others stay unclean away)

    passed_page : (x : OwnState) → own_of w.caches from ≡ x → PassedPages (with_page_moved (record w { caches = b }) from to x)
    passed_page Absent e = away_pages (ap is_resident e)
    passed_page Zero e = away_pages (ap is_resident e)
    passed_page (Resident d) e = by_pages (record w { caches = b; map = set w.map (frame_of w.map from.0) (Some to) })
        (rekeyed_to w b from to tied pass.went pass.apart pass.there pass.absent pass.passed pass.others stay unclean (ap is_resident e))
        (rekeyed_other w b from to tied pass.went pass.apart pass.there pass.absent pass.passed pass.others stay unclean (ap is_resident e))
    passed_page (Slot s) e = away_pages (ap is_resident e)
    passed_page OnSegment e = away_pages (ap is_resident e)

  -- All of them
  pub follow_gives : (r : Released) → IsReleased w.caches b r → IsLoose w.frames w.map r → IsPassedUnclean w.caches r → GivesBack w (followed (record w { caches = b }) r)
  follow_gives Nothing still loose unclean = caches_give w b (still_tied still)
  follow_gives (Dropped n state) drop loose unclean = subst (λ x. GivesBack w (without_page (record w { caches = b }) n x)) (sym drop.state_is) (dropped_gives n (went_lost w.caches b n drop.went drop.others) loose (own_of w.caches n) refl)
  follow_gives (Moved from to) pass loose unclean = subst (λ x. GivesBack w (with_page_moved (record w { caches = b }) from to x)) (sym pass.passed) (passed_gives from to pass loose unclean (own_of w.caches from) refl)

  pub follow_page : (r : Released) → IsReleased w.caches b r → IsLoose w.frames w.map r → IsPassedUnclean w.caches r → (m : NodeId) → HasNode b m → own_page (followed (record w { caches = b }) r) m ≡ page_after (own_page w) r m
  follow_page Nothing still loose unclean m h = still_page still m
  follow_page (Dropped n state) drop loose unclean m h = subst (λ x. own_page (without_page (record w { caches = b }) n x) m ≡ own_page w m) (sym drop.state_is) (dropped_page n (went_lost w.caches b n drop.went drop.others) loose (own_of w.caches n) refl m (not_gone drop.went m h))
  follow_page (Moved from to) pass loose unclean m h = subst (λ x. own_page (with_page_moved (record w { caches = b }) from to x) m ≡ cond (m.0 == to.0) (own_page w from) (own_page w m)) (sym pass.passed) (passed_page from to pass loose unclean (own_of w.caches from) refl m (not_gone pass.went m h))

-- The store has what was released
module _ (s : Store) (a b : Arena) (tied : IsTied (world None None a s)) where
  abbrev w : World
  w = world None None a s

  pub can_leave : (n : NodeId) (x : OwnState) → HasNode a n → own_of a n ≡ x → is_pinned s.frames (frame_of s.map n.0) ≡ false → CanLeave s n x
  can_leave n Absent was e loose = tt
  can_leave n Zero was e loose = tt
  can_leave n (Resident t) was e loose =
      let at : IsHome w (frame_of s.map n.0) n = resident_home w n tied (ap is_resident e) in
      let bound : is_bound w (frame_of s.map n.0) ≡ true = ap is_some at.node in
      (at.once, tied.placed.held (frame_of s.map n.0) ∙ ap (λ (t : Bool). t || is_pinned s.frames (frame_of s.map n.0)) bound, loose, omega (arith, tied.fitted.places_frames, tied.fitted.map_frames, at.frame))
  can_leave n (Slot k) was e loose = slot_is_held w n k tied was e
  can_leave n OnSegment was e loose = tt

  can_move : (from to : NodeId) (x : OwnState) → own_of a from ≡ x → own_of a to ≡ Absent → CanMove s from to x
  can_move from to Absent e absent = tt
  can_move from to Zero e absent = tt
  can_move from to (Resident t) e absent = ((resident_home w from tied (ap is_resident e)).once, tied.placed.bound to ∙ ap (λ (x : OwnState). bit (is_resident x)) absent)
  can_move from to (Slot k) e absent = tt
  can_move from to OnSegment e absent = tt

  pub can_follow : (r : Released) → IsReleased a b r → IsLoose s.frames s.map r → CanFollow s b r
  can_follow Nothing still loose = tt
  can_follow (Dropped n state) drop loose = can_leave n state drop.went.was (sym drop.state_is) loose
  can_follow (Moved from to) pass loose = (pass.went.held to (λ e. pass.apart (sym e)) ∙ pass.there, can_move from to (own_of b to) (sym pass.passed) pass.absent)
