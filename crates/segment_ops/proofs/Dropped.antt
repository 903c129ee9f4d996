-- Which nodes may come to frames while pages of a range are pushed, given up and saved.
use Rattle.std.proofs.Common.{◌≡◌, ℕ, Bool, true, false, Option, Some, None, is_some, refl, sym, ap, ◌∙◌, subst, inl, inr}
use Rattle.vm_ids.specs.Held.{Held}
use Rattle.vm_ids.specs.declared.command.Extent.{Extent}
use Rattle.vm_ids.specs.declared.node_name.NodeName.{NodeName}
use Rattle.vm_ids.specs.declared.numbers.NodeId.{NodeId}
use Rattle.vm_ids.specs.Forest.Nodes.{node}
use Rattle.vm_ids.specs.Forest.PageMap.{no_page}
use Rattle.vm_ids.specs.Forest.Reading.{owner_of}
use Rattle.vm_ids.specs.Forest.Rules.{heir, heir_gets}
use Rattle.vm_ids.specs.Forest.Saving.{is_unsaved}
use Rattle.vm_ids.specs.Forest.Shape.{IsWellShaped}
use Rattle.vm_ids.proofs.Forest.PageMap.{owner_of-map}
use Rattle.local_cache.specs.Arena.{Arena, HasNode}
use Rattle.local_cache.specs.Changes.{Like}
use Rattle.local_cache.specs.Own.{is_absent, own_of}
use Rattle.local_cache.specs.Reading.{forest_of, name_of}
use Rattle.local_cache.specs.Sound.{IsSound}
use Rattle.local_cache.proofs.Nodes.OwnStates.{held_or_absent, id_cases}
use Rattle.residency.specs.declared.store.Store.{Store}
use Rattle.residency.specs.StoreForest.{store_forest}
use Rattle.residency.specs.Translating.{Drops, TablesAfter}
use Rattle.residency.specs.World.{IsStoreRight, OthersStay, OthersStayBut, Still, World, own_page, world}
use Rattle.residency.proofs.Forests.StillForest.{still_bare, still_like, still_tells}
use Rattle.fault_path.specs.Faults.{IsOwner}
use Rattle.fault_path.specs.Translating.{MayCome, Nobody}
use Rattle.fault_path.proofs.Calls.Kept.{absent_is, store_page}
use Rattle.fault_path.proofs.Frames.TwoFrames.{absent_none}
use Rattle.fault_path.proofs.Rules.Heirs.{has_own}
use Rattle.segment_ops.specs.Translating.{IsNodeIn, IsSavedOrAbsent}
use Rattle.residency.proofs.Translations.Kept.{drops_more, still_drops, stays_drops}
use Rattle.segment_ops.proofs.Saves.{unowned_before}

-- The page of node n is pushed, whose owner o may come to a frame.
module _ (told now : Option Held) (size then : Option ℕ) (a b : Arena) (s t : Store) (n o : NodeId) (owner : IsOwner a n o) (right : IsStoreRight (world told size a s)) (still : Still (world told size a s) (world now then b t)) (tables : TablesAfter s t) where
  pub owner_drops : (meanwhile : Option Held) (bytes : Option ℕ) (c : Arena) → OthersStayBut o (world told size a s) (world meanwhile bytes c t) → Drops (IsOwner a n) a s b t
  owner_drops meanwhile bytes c others = stays_drops told now size then a b s t right.tied still.stays tables (IsOwner a n) (λ f m at. elim (id_cases m o) [
    | inl e ↦ inr (subst (IsOwner a n) (sym e) owner)
    | inr d ↦ inl (sym (others.frames f (ap is_some at) (λ e. d (let same : Some m ≡ Some o = sym at ∙ e in cc same))).node ∙ at)
  ])

  pub failed_drops : OthersStay (world told size a s) (world now then b t) → Drops (IsOwner a n) a s b t
  failed_drops others = drops_more Nobody (IsOwner a n) a b s t (λ m none. absurd none) (still_drops told now size then a b s t right.tied still.stays tables others)

-- who owns a page now owned it before, where every page is still
pub owner_before : (old new : World) → Still old new → IsSound old.caches → (n o : NodeId) → IsOwner new.caches n o → IsOwner old.caches n o
owner_before old new still sound n o owner =
    let like = still_like old.caches new.caches still.stays.caches in
    let bare_is = still_bare old.caches new.caches still.stays.caches sound.kept.named (still_tells old new still) in
    record {
      held = sym (like.held o) ∙ owner.held;
      name = sym (like.name o) ∙ owner.name ∙ ap (owner_of (forest_of new.caches)) (like.name n) ∙ sym (owner_of-map no_page (forest_of new.caches) (name_of old.caches n))
          ∙ sym (ap (λ f. owner_of f (name_of old.caches n)) bare_is) ∙ owner_of-map no_page (forest_of old.caches) (name_of old.caches n);
    }

-- the node of a page of the range is saved, and its heir had no own page
pub saved_or_absent : (a w : Arena) (range : Extent) (n : NodeId) → IsNodeIn a range n → ((m : NodeId) → is_absent (own_of w m) ≡ true → is_absent (own_of a m) ≡ true) → (m : NodeId) → MayCome w n m → IsSavedOrAbsent a range m
saved_or_absent a w range n is absent m come = elim come [
  | inl e ↦ inl (subst (IsNodeIn a range) (sym e) is)
  | inr k ↦ inr (absent m k)
]

-- the page of x was saved, and whoever has no own page had none before
module _ (w v : World) (sound : IsSound w.caches) (sound_v : IsSound v.caches) (shaped : IsWellShaped (store_forest w)) (like : Like w.caches v.caches) (x h : NodeName) (is : is_unsaved (store_forest w) x ≡ true) (is_heir : heir (store_forest w) x ≡ Some h)
    (after : store_forest v ≡ heir_gets (store_forest w) x) where
  by_own : (b : Bool) (n : NodeId) → HasNode w.caches n → is_absent (own_of w.caches n) ≡ b → own_page w n ≡ None → b ≡ true
  by_own true n held e none = refl
  by_own false n held e none = absurd (let some = has_own w n e in let gone : is_some (own_page w n) ≡ false = ap is_some none in cc (some, gone))

  pub absent_before : (n : NodeId) → is_absent (own_of v.caches n) ≡ true → is_absent (own_of w.caches n) ≡ true
  absent_before n absent = elim (held_or_absent w.caches n) [
    | inr e ↦ ap is_absent e
    | inl held ↦ (
        let bare : (node (store_forest v) (name_of v.caches n)).own ≡ None = store_page v sound_v n (like.held n ∙ held) ∙ absent_none v n (absent_is (own_of v.caches n) absent) in
        let now : (node (heir_gets (store_forest w) x) (name_of w.caches n)).own ≡ None = ap (λ f. (node f (name_of w.caches n)).own) (sym after) ∙ ap (λ y. (node (store_forest v) y).own) (sym (like.name n)) ∙ bare in
        let before = unowned_before (store_forest w) shaped x h is is_heir (name_of w.caches n) now in
        by_own (is_absent (own_of w.caches n)) n held refl (sym (store_page w sound n held) ∙ before))
  ]
