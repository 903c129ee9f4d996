-- What a call keeps where every page is still, and what a node reads in a store.
use Rattle.std.proofs.Common.{◌≡◌, true, refl, sym, ap, ◌∙◌}
use Rattle.vm_ids.specs.declared.node_name.NodeName.{NodeName}
use Rattle.vm_ids.specs.declared.numbers.NodeId.{NodeId}
use Rattle.vm_ids.specs.Forest.Nodes.{IsNode, node}
use Rattle.vm_ids.specs.Forest.PageMap.{bare, no_page}
use Rattle.vm_ids.specs.Forest.Reading.{owner_of, value_of}
use Rattle.vm_ids.specs.Forest.Rules.{heir}
use Rattle.vm_ids.specs.Forest.Shape.{IsWellShaped}
use Rattle.vm_ids.proofs.Forest.BareShape.{bare-shaped}
use Rattle.vm_ids.proofs.Forest.Laws.Reading.{owners_own_values}
use Rattle.vm_ids.proofs.Forest.PageMap.{heir-map, owner_of-map}
use Rattle.local_cache.specs.declared.own_state.OwnState.{OwnState}
use Rattle.local_cache.specs.declared.own_state.OwnState.TheVariants.{Absent, Zero, Resident, Slot, OnSegment}
use Rattle.local_cache.specs.Arena.{HasNode}
use Rattle.local_cache.specs.Own.{is_absent, own_of}
use Rattle.local_cache.specs.Reading.{forest_of, name_of}
use Rattle.local_cache.specs.Sound.{IsSound}
use Rattle.local_cache.proofs.Forest.Reading.{IsNode-forest_by}
use Rattle.local_cache.proofs.Forest.ReadingBy.{bare-of, page-at}
use Rattle.residency.specs.StoreForest.{store_forest}
use Rattle.residency.specs.World.{Still, World, own_page}
use Rattle.residency.proofs.Worlds.After.{absent_stays}
use Rattle.residency.proofs.Forests.StillForest.{still_bare, still_caches_sound, still_like, still_made, still_room, still_tells}
use Rattle.residency.proofs.Worlds.Telling.{tells}
use Rattle.fault_path.specs.Faults.{IsOwner, Kept}

pub absent_is : (x : OwnState) → is_absent x ≡ true → x ≡ Absent
absent_is Absent e = refl
absent_is Zero e = absurd (cc e)
absent_is (Resident d) e = absurd (cc e)
absent_is (Slot s) e = absurd (cc e)
absent_is OnSegment e = absurd (cc e)

-- without its pages the forest of a store is that of the own states
pub store_bare : (w : World) → IsSound w.caches → bare (store_forest w) ≡ bare (forest_of w.caches)
unfolding store_forest
store_bare w sound = bare-of (own_page w) w.caches sound.kept.named (tells w)

pub store_shaped : (w : World) → IsSound w.caches → IsWellShaped (forest_of w.caches) → IsWellShaped (store_forest w)
store_shaped w sound shaped = bare-shaped (forest_of w.caches) (store_forest w) (sym (store_bare w sound)) shaped

pub caches_shaped : (w : World) → IsSound w.caches → IsWellShaped (store_forest w) → IsWellShaped (forest_of w.caches)
caches_shaped w sound shaped = bare-shaped (store_forest w) (forest_of w.caches) (store_bare w sound) shaped

pub store_heir : (w : World) → IsSound w.caches → (x : NodeName) → heir (store_forest w) x ≡ heir (forest_of w.caches) x
store_heir w sound x = sym (heir-map no_page (store_forest w) x) ∙ ap (λ f. heir f x) (store_bare w sound) ∙ heir-map no_page (forest_of w.caches) x

pub store_node : (w : World) → IsSound w.caches → (n : NodeId) → HasNode w.caches n → IsNode (store_forest w) (name_of w.caches n)
unfolding store_forest
store_node w sound n there = IsNode-forest_by w.caches (own_page w) sound.kept.named n there

pub store_page : (w : World) → IsSound w.caches → (n : NodeId) → HasNode w.caches n → (node (store_forest w) (name_of w.caches n)).own ≡ own_page w n
unfolding store_forest
store_page w sound n there = page-at (own_page w) w.caches sound.kept.named n there

-- a node reads the own page of its owner
pub value_at : (w : World) → IsSound w.caches → IsWellShaped (forest_of w.caches) → (n o : NodeId) → HasNode w.caches n → IsOwner w.caches n o → value_of (store_forest w) (name_of w.caches n) ≡ own_page w o
value_at w sound shaped n o there owner =
    let x : NodeName = name_of w.caches n in
    sym (owners_own_values (store_forest w) (store_shaped w sound shaped) x (store_node w sound n there))
    ∙ ap (λ y. (node (store_forest w) y).own) (sym (owner_of-map no_page (store_forest w) x) ∙ ap (λ f. owner_of f x) (store_bare w sound) ∙ owner_of-map no_page (forest_of w.caches) x ∙ sym owner.name)
    ∙ store_page w sound o owner.held

module _ (old new : World) (still : Still old new) (sound : IsSound old.caches) where
  pub still_shaped : IsWellShaped (forest_of old.caches) → IsWellShaped (forest_of new.caches)
  still_shaped shaped = bare-shaped (forest_of old.caches) (forest_of new.caches) (still_bare old.caches new.caches still.stays.caches sound.kept.named (still_tells old new still)) shaped

  pub still_kept : IsWellShaped (forest_of old.caches) → new.frames.pinned ≡ old.frames.pinned → Kept old new
  still_kept shaped pins = record {
    right = still.stays.right;
    sound = still_caches_sound old new still sound;
    shaped = still_shaped shaped;
    pinned = still.pinned;
    pins = pins;
    nodes = still_like old.caches new.caches still.stays.caches;
    made = still_made old.caches new.caches still.stays.caches;
    room = still_room old.caches new.caches still.stays.caches;
    frames = still.stays.frames;
    page = still.stays.page;
    page_bytes = still.stays.page_bytes;
    slots = still.stays.slots;
  }

  pub still_absent : (n : NodeId) → own_of old.caches n ≡ Absent → own_of new.caches n ≡ Absent
  still_absent n e = absent_is (own_of new.caches n) (absent_stays old new still n ∙ ap is_absent e)

  pub still_owner : (n o : NodeId) → IsOwner old.caches n o → IsOwner new.caches n o
  still_owner n o owner =
      let like = still_like old.caches new.caches still.stays.caches in
      let bare_is = still_bare old.caches new.caches still.stays.caches sound.kept.named (still_tells old new still) in
      record {
        held = like.held o ∙ owner.held;
        name = like.name o ∙ owner.name ∙ sym (owner_of-map no_page (forest_of old.caches) (name_of old.caches n)) ∙ ap (λ f. owner_of f (name_of old.caches n)) bare_is
            ∙ owner_of-map no_page (forest_of new.caches) (name_of old.caches n) ∙ ap (owner_of (forest_of new.caches)) (sym (like.name n));
      }
