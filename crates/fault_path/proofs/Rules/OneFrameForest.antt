-- From the gathered frames to the rules of the forest.
use Rattle.std.proofs.Common.{◌≡◌, ℕ, ◌+◌, true, false, List, length, set, Option, Some, None, is_some, refl, sym, ap, ◌∙◌, subst}
use Rattle.vm_ids.specs.declared.numbers.NodeId.{NodeId}
use Rattle.vm_ids.specs.Forest.Nodes.{node}
use Rattle.vm_ids.specs.Forest.Changes.{count_copy}
use Rattle.vm_ids.specs.Forest.Reading.{value_of}
use Rattle.vm_ids.specs.Forest.Rules.{gets, hand_stubs, heir, heir_gets, own}
use Rattle.vm_ids.specs.Forest.Shape.{IsWellShaped}
use Rattle.vm_ids.specs.Forest.Values.IsValue.{itself}
use Rattle.vm_ids.proofs.Forest.Owning.{heir_gets-shaped, own-shaped}
use Rattle.vm_ids.proofs.Forest.Reading.{value-IsValue}
use Rattle.vm_ids.proofs.Places.{back}
use Rattle.frame_pool.specs.Pool.{is_pinned}
use Rattle.local_cache.specs.declared.own_state.OwnState.TheVariants.{Absent}
use Rattle.local_cache.specs.Arena.{Arena, HasNode}
use Rattle.local_cache.specs.Own.{own_of}
use Rattle.local_cache.specs.Reading.{forest_of, name_of}
use Rattle.local_cache.specs.Sound.{IsSound}
use Rattle.local_cache.proofs.Changes.SameNodes.{like_then}
use Rattle.residency.specs.StoreForest.{store_forest}
use Rattle.residency.specs.World.{IsTaken, Still, World, own_page}
use Rattle.residency.proofs.Forests.StillForest.{still_caches_sound, still_copies, still_forest, still_like, still_made, still_room}
use Rattle.fault_path.specs.Faults.{IsOwner, Kept}
use Rattle.fault_path.specs.Gathering.{HasPageOf, IsGathered}
use Rattle.fault_path.specs.Giving.{IsHanded, IsOwned}
use Rattle.fault_path.proofs.Rules.OwningRules.{handed_on, owned}
use Rattle.fault_path.proofs.Frames.SettledFrame.{homed}
use Rattle.fault_path.proofs.Calls.Kept.{caches_shaped, still_absent, still_owner, still_shaped, store_heir, store_node, store_page, store_shaped, value_at}
use Rattle.fault_path.proofs.Frames.OneFrame.{GivesFrame, handed_forest, handed_gives, owned_forest, owned_gives}

-- a frame was gathered and became a node's
pub given_kept : (old w v : World) (f : ℕ) (n : NodeId) → IsGathered f old w → GivesFrame w v f n → IsWellShaped (forest_of v.caches) → Kept old v
given_kept old w v f n gathered gives shaped = record {
  right = gives.right;
  sound = gives.sound;
  shaped = shaped;
  pinned = λ g p.
      let first = gathered.still.pinned g p in
      let second = gives.pinned g (λ e. absurd (let t : is_pinned old.frames g ≡ false = ap (is_pinned old.frames) e ∙ gathered.loose in cc)) first.pinned in
      record { pinned = second.pinned; bytes = second.bytes ∙ first.bytes; node = second.node ∙ first.node };
  pins = gives.pins ∙ ap (λ ps. set ps f false) gathered.pinned ∙ back old.frames.pinned f gathered.loose;
  nodes = like_then old.caches w.caches v.caches (still_like old.caches w.caches gathered.still.stays.caches) gives.like;
  made = gives.made ∙ still_made old.caches w.caches gathered.still.stays.caches;
  room = gives.room ∙ still_room old.caches w.caches gathered.still.stays.caches;
  frames = ap (λ hs. length hs) gives.held ∙ gathered.still.stays.frames;
  page = gives.page ∙ gathered.still.stays.page;
  page_bytes = gives.page_bytes ∙ gathered.still.stays.page_bytes;
  slots = ap (λ xs. length xs) gives.slots ∙ gathered.still.stays.slots;
}

module _ (old w : World) (f : ℕ) (still : Still old w) (taken : IsTaken w f) (sound : IsSound old.caches) (shaped : IsWellShaped (forest_of old.caches)) where
  pub sound_w : IsSound w.caches
  sound_w = still_caches_sound old w still sound

  pub there_w : (n : NodeId) → HasNode old.caches n → HasNode w.caches n
  there_w n there = let like = still_like old.caches w.caches still.stays.caches in like.held n ∙ there

  pub name_w : (n : NodeId) → name_of w.caches n ≡ name_of old.caches n
  name_w n = let like = still_like old.caches w.caches still.stays.caches in like.name n

  -- own
  module _ (n o : NodeId) (there : HasNode old.caches n) (absent : own_of old.caches n ≡ Absent) (owner : IsOwner old.caches n o) (page : HasPageOf w f o) (b : Arena) (is : IsOwned w.caches b n) where
    pub own_gives : GivesFrame w (homed w f n b) f n
    own_gives = owned_gives w f n still.stays.right taken sound_w (there_w n there) (still_absent old w still sound n absent) b is

    own_value : own_page (homed w f n b) n ≡ value_of (store_forest w) (name_of w.caches n)
    own_value = own_gives.here ∙ sym page ∙ sym (value_at w sound_w (still_shaped old w still sound shaped) n o (there_w n there) (still_owner old w still sound n o owner))

    pub own_forest : store_forest (homed w f n b) ≡ own (store_forest old) (name_of old.caches n)
    own_forest = owned_forest w f n still.stays.right taken sound_w (there_w n there) (still_absent old w still sound n absent) b is
        ∙ owned (store_forest w) (name_of w.caches n) _ own_value ∙ ap (λ g. own g (name_of w.caches n)) (still_forest old w still) ∙ ap (own (store_forest old)) (name_w n)

    pub own_shaped : IsWellShaped (forest_of b)
    own_shaped = caches_shaped (homed w f n b) own_gives.sound (subst IsWellShaped (sym own_forest) (own-shaped (store_forest old) (store_shaped old sound shaped) (name_of old.caches n) (store_node old sound n there)))

    pub own_kept : IsGathered f old w → Kept old (homed w f n b)
    own_kept gathered = given_kept old w (homed w f n b) f n gathered own_gives own_shaped

    pub own_copies : b.copies ≡ old.caches.copies + 1
    own_copies = own_gives.copies ∙ ap (λ k. k + 1) (still_copies old.caches w.caches still.stays.caches)

  -- heir_gets
  module _ (n h : NodeId) (there : HasNode old.caches n) (some : is_some (own_page old n) ≡ true) (held : HasNode old.caches h) (heir_is : heir (forest_of old.caches) (name_of old.caches n) ≡ Some (name_of old.caches h)) (absent : own_of old.caches h ≡ Absent) (page : HasPageOf w f n) (b : Arena) (is : IsHanded w.caches b n h) where
    pub hand_gives : GivesFrame w (homed w f h b) f h
    hand_gives = handed_gives w f h still.stays.right taken sound_w (there_w h held) (still_absent old w still sound h absent) b n is

    own_value_of : (o : Option (Option (List ℕ))) → own_page old n ≡ o → is_some o ≡ true → value_of (store_forest old) (name_of old.caches n) ≡ own_page old n
    own_value_of None e t = absurd (cc t)
    own_value_of (Some p) e t =
        let is_own : (node (store_forest old) (name_of old.caches n)).own ≡ Some p = store_page old sound n there ∙ e in
        let linked = store_shaped old sound shaped in
        value-IsValue (store_forest old) linked.linked (itself is_own) ∙ sym e

    hand_value : own_page (homed w f h b) h ≡ value_of (store_forest old) (name_of old.caches n)
    hand_value = hand_gives.here ∙ sym page ∙ still.stays.pages n ∙ sym (own_value_of (own_page old n) refl some)

    pub hand_forest : store_forest (homed w f h b) ≡ heir_gets (store_forest old) (name_of old.caches n)
    hand_forest = handed_forest w f h still.stays.right taken sound_w (there_w h held) (still_absent old w still sound h absent) b n is
        ∙ ap (λ g. count_copy (hand_stubs (gets g (name_of w.caches h) (own_page (homed w f h b) h)) (name_of w.caches n) (name_of w.caches h))) (still_forest old w still)
        ∙ ap (λ x. count_copy (hand_stubs (gets (store_forest old) x (own_page (homed w f h b) h)) (name_of w.caches n) x)) (name_w h)
        ∙ ap (λ x. count_copy (hand_stubs (gets (store_forest old) (name_of old.caches h) (own_page (homed w f h b) h)) x (name_of old.caches h))) (name_w n)
        ∙ ap (λ v. count_copy (hand_stubs (gets (store_forest old) (name_of old.caches h) v) (name_of old.caches n) (name_of old.caches h))) hand_value
        ∙ handed_on (store_forest old) (name_of old.caches n) (name_of old.caches h) (store_heir old sound (name_of old.caches n) ∙ heir_is)

    hand_shaped : (o : Option (Option (List ℕ))) → own_page old n ≡ o → is_some o ≡ true → IsWellShaped (heir_gets (store_forest old) (name_of old.caches n))
    hand_shaped None e t = absurd (cc t)
    hand_shaped (Some p) e t = heir_gets-shaped (store_forest old) (store_shaped old sound shaped) (name_of old.caches n) p (store_page old sound n there ∙ e)

    pub handed_shaped : IsWellShaped (forest_of b)
    handed_shaped = caches_shaped (homed w f h b) hand_gives.sound (subst IsWellShaped (sym hand_forest) (hand_shaped (own_page old n) refl some))

    pub hand_kept : IsGathered f old w → Kept old (homed w f h b)
    hand_kept gathered = given_kept old w (homed w f h b) f h gathered hand_gives handed_shaped

    pub hand_copies : b.copies ≡ old.caches.copies + 1
    hand_copies = hand_gives.copies ∙ ap (λ k. k + 1) (still_copies old.caches w.caches still.stays.caches)
