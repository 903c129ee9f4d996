-- A forest that is ready for a write, where there is no heir.
use Rattle.std.proofs.Common.{◌≡◌, ℕ, true, Some, None, is_some, option_map, sym, ap, ◌∙◌}
use Rattle.vm_ids.specs.declared.numbers.NodeId.{NodeId}
use Rattle.vm_ids.specs.declared.node_name.NodeName.{NodeName}
use Rattle.vm_ids.specs.Forest.Changes.{edit, put, with_own}
use Rattle.vm_ids.specs.Forest.Nodes.{Forest, is_live, node}
use Rattle.vm_ids.specs.Forest.Rules.{heir, heir_gets, own, owned, write}
use Rattle.vm_ids.specs.Forest.Shape.{IsWellShaped}
use Rattle.vm_ids.proofs.Forest.Laws.Owning.{heir_gets_leaves_no_heir}
use Rattle.vm_ids.proofs.Forest.Writing.{owned-Owned}
use Rattle.local_cache.specs.declared.own_state.OwnState.TheVariants.{Absent}
use Rattle.local_cache.specs.Arena.{HasNode}
use Rattle.local_cache.specs.Own.{own_of}
use Rattle.local_cache.specs.Reading.{forest_of, name_of, page_of}
use Rattle.local_cache.proofs.Forest.Reading.{node-forest_of}
use Rattle.residency.specs.Seeing.{IsAlone}
use Rattle.local_cache.specs.Sound.{IsSound}
use Rattle.residency.specs.StoreForest.{store_forest}
use Rattle.residency.specs.World.{HasOwnPage, World}
use Rattle.fault_path.specs.Answers.{IsFramed}
use Rattle.fault_path.specs.Faults.{Kept, readied}
use Rattle.fault_path.proofs.Rules.OwningRules.{without_heir}
use Rattle.fault_path.proofs.Rules.Heirs.{has_own, no_heir}
use Rattle.fault_path.proofs.Calls.Kept.{store_heir, store_node, store_page, store_shaped}
use Rattle.fault_path.proofs.Frames.TwoFrames.{absent_none, heir-own, readied_bare, readied_own}

module _ (w : World) (sound : IsSound w.caches) (shaped : IsWellShaped (forest_of w.caches)) (n : NodeId) (there : HasNode w.caches n) where
  pub own_ready : own_of w.caches n ≡ Absent → heir (forest_of w.caches) (name_of w.caches n) ≡ None → own (store_forest w) (name_of w.caches n) ≡ readied (store_forest w) (name_of w.caches n)
  own_ready absent none =
      let k = store_shaped w sound shaped in
      without_heir (own (store_forest w) (name_of w.caches n)) (name_of w.caches n) (heir-own (store_forest w) k.linked (name_of w.caches n) ∙ store_heir w sound (name_of w.caches n) ∙ none)
      ∙ readied_bare (store_forest w) (name_of w.caches n) (store_page w sound n there ∙ absent_none w n absent)

  some_own : HasOwnPage w.caches n → is_some (node (store_forest w) (name_of w.caches n)).own ≡ true
  some_own own = ap is_some (store_page w sound n there) ∙ has_own w n own.own_page

  pub kept_ready : HasOwnPage w.caches n → heir (forest_of w.caches) (name_of w.caches n) ≡ None → store_forest w ≡ readied (store_forest w) (name_of w.caches n)
  kept_ready own none = no_heir w sound (name_of w.caches n) none ∙ readied_own (store_forest w) (name_of w.caches n) (some_own own)

  pub handed_ready : HasOwnPage w.caches n → heir_gets (store_forest w) (name_of w.caches n) ≡ readied (store_forest w) (name_of w.caches n)
  handed_ready own = readied_own (store_forest w) (name_of w.caches n) (some_own own)

-- a node that is ready for a write has its page to itself
pub ready_alone : (old new : World) → IsSound old.caches → IsWellShaped (forest_of old.caches) → Kept old new → (n : NodeId) → HasNode old.caches n → is_live (name_of old.caches n) ≡ true → (f : ℕ) → IsFramed readied n f old new → IsAlone new.caches (name_of new.caches n)
ready_alone old new sound shaped kept n there live f framed =
    let x : NodeName = name_of old.caches n in
    let own = owned-Owned (store_forest old) (store_shaped old sound shaped) x (store_node old sound n there) in
    let none : heir (readied (store_forest old) x) x ≡ None = heir_gets_leaves_no_heir (owned (store_forest old) x) own.shaped x own.page live own.own_is in
    record {
      owned = ap (λ k. is_some k.own) (node-forest_of new.caches kept.sound.kept.named n (kept.nodes.held n ∙ there)) ∙ ap (λ o. is_some (page_of o)) framed.resident;
      last = ap (heir (forest_of new.caches)) (kept.nodes.name n) ∙ sym (store_heir new kept.sound x) ∙ ap (λ g. heir g x) framed.forest ∙ none;
    }
