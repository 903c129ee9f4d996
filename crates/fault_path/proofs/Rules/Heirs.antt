-- What the calls on an heir ask after frames were gathered.
use Rattle.std.proofs.Common.{◌≡◌, true, false, Some, None, is_some, refl, sym, ap, ◌∙◌}
use Rattle.vm_ids.specs.declared.node_name.NodeName.{NodeName}
use Rattle.vm_ids.specs.declared.numbers.NodeId.{NodeId}
use Rattle.vm_ids.specs.Forest.PageMap.{bare, no_page}
use Rattle.vm_ids.specs.Forest.Rules.{heir, heir_gets}
use Rattle.vm_ids.proofs.Forest.PageMap.{heir-map}
use Rattle.vm_ids.proofs.Forest.Values.{heir_hangs}
use Rattle.vm_ids.proofs.Places.{bit}
use Rattle.global_map.specs.Pairs.{bound_times}
use Rattle.local_cache.specs.declared.own_state.OwnState.{OwnState}
use Rattle.local_cache.specs.declared.own_state.OwnState.TheVariants.{Absent, Zero, Resident, Slot, OnSegment}
use Rattle.local_cache.specs.Arena.{Arena, HasNode}
use Rattle.local_cache.specs.Own.{is_absent, is_resident, own_of}
use Rattle.local_cache.specs.Reading.{forest_of, name_of, page_of}
use Rattle.local_cache.specs.Sound.{IsSound}
use Rattle.local_cache.proofs.Forest.Reading.{node-forest_of}
use Rattle.residency.specs.StoreForest.{store_forest}
use Rattle.residency.specs.World.{IsStoreRight, Still, World, own_page}
use Rattle.residency.proofs.Forests.StillForest.{still_bare, still_like, still_tells}
use Rattle.residency.proofs.Worlds.Telling.{tells}
use Rattle.fault_path.specs.Faults.{IsHeirOf}
use Rattle.fault_path.proofs.Rules.OwningRules.{without_heir}
use Rattle.fault_path.proofs.Calls.Kept.{store_heir}

absent_page : (x : OwnState) → page_of x ≡ None → x ≡ Absent
absent_page Absent e = refl
absent_page Zero e = absurd (cc e)
absent_page (Resident d) e = absurd (cc e)
absent_page (Slot s) e = absurd (cc e)
absent_page OnSegment e = absurd (cc e)

some_page : (x : OwnState) → is_absent x ≡ false → is_some (page_of x) ≡ true
some_page Absent e = absurd (cc e)
some_page Zero e = refl
some_page (Resident d) e = refl
some_page (Slot s) e = refl
some_page OnSegment e = refl

-- an heir has no own page
pub heir_absent : (a : Arena) → IsSound a → (x : NodeName) (h : NodeId) → HasNode a h → heir (forest_of a) x ≡ Some (name_of a h) → own_of a h ≡ Absent
heir_absent a sound x h held is = absent_page (own_of a h) (sym (ap (λ k. k.own) (node-forest_of a sound.kept.named h held)) ∙ (heir_hangs (forest_of a) sound.linked x (name_of a h) is).0)

-- who has no own page is bound to no frame
pub unbound : (w : World) → IsStoreRight w → (n : NodeId) → own_of w.caches n ≡ Absent → bound_times w.map n.0 ≡ 0
unbound w right n absent = right.tied.placed.bound n ∙ ap (λ (x : OwnState). bit (is_resident x)) absent

pub has_own : (w : World) (n : NodeId) → is_absent (own_of w.caches n) ≡ false → is_some (own_page w n) ≡ true
has_own w n e = tells w n ∙ some_page (own_of w.caches n) e

pub no_heir : (w : World) → IsSound w.caches → (x : NodeName) → heir (forest_of w.caches) x ≡ None → store_forest w ≡ heir_gets (store_forest w) x
no_heir w sound x none = without_heir (store_forest w) x (store_heir w sound x ∙ none)

module _ (old new : World) (still : Still old new) (sound : IsSound old.caches) where
  bare_is : bare (forest_of old.caches) ≡ bare (forest_of new.caches)
  bare_is = still_bare old.caches new.caches still.stays.caches sound.kept.named (still_tells old new still)

  pub same_heir : (x : NodeName) → heir (forest_of new.caches) x ≡ heir (forest_of old.caches) x
  same_heir x = sym (heir-map no_page (forest_of new.caches) x) ∙ ap (λ f. heir f x) (sym bare_is) ∙ heir-map no_page (forest_of old.caches) x

  pub still_heir : (n h : NodeId) → IsHeirOf old.caches n h → IsHeirOf new.caches n h
  still_heir n h is =
      let like = still_like old.caches new.caches still.stays.caches in
      record {
        held = like.held h ∙ is.held;
        name = ap (heir (forest_of new.caches)) (like.name n) ∙ same_heir (name_of old.caches n) ∙ is.name ∙ ap Some (sym (like.name h));
      }
