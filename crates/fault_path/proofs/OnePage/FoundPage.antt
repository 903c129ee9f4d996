-- What a read fault finds.
use Rattle.std.proofs.Common.{◌≡◌, ℕ, ◌<◌, true, false, length, Some, None, is_none, refl, sym, ap, subst, ◌∙◌}
use Rattle.std.specs.Prelude.{option_map, option_and_then}
use Rattle.vm_ids.specs.Held.{slot_of}
use Rattle.vm_ids.specs.declared.numbers.NodeId.{NodeId}
use Rattle.vm_ids.specs.Forest.Reading.{value_of}
use Rattle.vm_ids.specs.Forest.Shape.{IsWellShaped}
use Rattle.frame_pool.specs.Pool.{bytes_of}
use Rattle.global_map.specs.Pairs.{node_of}
use Rattle.local_cache.specs.declared.own_state.OwnState.{OwnState}
use Rattle.local_cache.specs.declared.own_state.OwnState.TheVariants.{Absent, Zero, Resident, Slot, OnSegment}
use Rattle.local_cache.specs.Arena.{Arena, HasNode}
use Rattle.local_cache.specs.Own.{is_absent, is_resident, own_of}
use Rattle.local_cache.specs.Reading.{forest_of, name_of, page_of}
use Rattle.local_cache.specs.Sound.{IsSound}
use Rattle.history_tree.proofs.Upward.{itself_owns}
use Rattle.residency.specs.StoreForest.{store_forest}
use Rattle.residency.specs.World.{HasOwnPage, Still, World, frame_page, home_page, page_by, zero_page}
use Rattle.residency.proofs.Forests.StillForest.{still_caches_sound, still_like}
use Rattle.fault_path.specs.Faults.{IsOwner, found_page, is_at_hand, is_zero}
use Rattle.fault_path.proofs.Frames.GatheredFrames.{doubled_page}
use Rattle.fault_path.proofs.Calls.Kept.{still_owner, still_shaped, value_at}
use Rattle.std.specs.Option.{IsSome}

pub owner_same : (a : Arena) → IsSound a → (n o p : NodeId) → IsOwner a n o → IsOwner a n p → o ≡ p
owner_same a sound n o p x y = sound.kept.named.apart o p x.held y.held (x.name ∙ sym y.name)

-- what holds of one owner holds of each
pub each_owner : (P : NodeId → Type 0) (a : Arena) → IsSound a → (n o : NodeId) → IsOwner a n o → P o → (p : NodeId) → IsOwner a n p → P p
each_owner P a sound n o owner holds p is = subst P (owner_same a sound n o p owner is) holds

-- who has an own page is its owner
pub itself_owner : (a : Arena) → IsSound a → IsWellShaped (forest_of a) → (n : NodeId) → HasOwnPage a n → IsOwner a n n
itself_owner a sound shaped n own = record { held = own.node; name = sym (itself_owns a sound shaped n own.node (some_state (own_of a n) own.own_page)) }
  where
    some_state : (x : OwnState) → is_absent x ≡ false → is_none (page_of x) ≡ false
    some_state Absent e = absurd (cc e)
    some_state Zero e = refl
    some_state (Resident d) e = refl
    some_state (Slot s) e = refl
    some_state OnSegment e = refl

pub zero_is : (x : OwnState) → is_zero x ≡ true → x ≡ Zero
zero_is Absent e = absurd (cc e)
zero_is Zero e = refl
zero_is (Resident d) e = absurd (cc e)
zero_is (Slot s) e = absurd (cc e)
zero_is OnSegment e = absurd (cc e)

pub resident_is : (x : OwnState) → is_at_hand x ≡ true → is_zero x ≡ false → is_resident x ≡ true
resident_is Absent a z = absurd (cc a)
resident_is Zero a z = absurd (cc z)
resident_is (Resident d) a z = refl
resident_is (Slot s) a z = absurd (cc a)
resident_is OnSegment a z = absurd (cc a)

has_page : (x : OwnState) → IsSome (page_of x) → is_absent x ≡ false
has_page Absent e = absurd (cc e)
has_page Zero e = refl
has_page (Resident d) e = refl
has_page (Slot s) e = refl
has_page OnSegment e = refl

pub owner_page : (a : Arena) (o : NodeId) → HasNode a o → IsSome (page_of (own_of a o)) → HasOwnPage a o
owner_page a o held some = record { node = held; own_page = has_page (own_of a o) some }

module _ (w : World) (sound : IsSound w.caches) (shaped : IsWellShaped (forest_of w.caches)) (n o : NodeId) (there : HasNode w.caches n) (owner : IsOwner w.caches n o) where
  -- a page of zeros
  pub found_zero : own_of w.caches o ≡ Zero → value_of (store_forest w) (name_of w.caches n) ≡ Some (found_page w None)
  found_zero e = value_at w sound shaped n o there owner
      ∙ ap (page_by (option_map (λ _. zero_page w) w.told) (option_map (λ _. frame_page w o) w.told) (λ k. option_and_then (λ h. slot_of h k) w.told) (home_page w o)) e

  -- a page in a frame, which was brought in
  pub found_frame : (new : World) → Still w new → (f : ℕ) → f < length new.map → node_of new.map f ≡ Some o → value_of (store_forest new) (name_of w.caches n) ≡ Some (option_map (λ _. bytes_of new.frames f) new.told)
  found_frame new still f within node =
      let like = still_like w.caches new.caches still.stays.caches in
      ap (value_of (store_forest new)) (sym (like.name n))
      ∙ value_at new (still_caches_sound w new still sound) (still_shaped w new still sound shaped) n o (like.held n ∙ there) (still_owner w new still sound n o owner)
      ∙ doubled_page new f f o still.stays.right within node refl
