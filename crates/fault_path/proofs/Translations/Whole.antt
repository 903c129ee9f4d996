-- Which translations a call drops that gathers frames, follows a rule of the page forest, and
-- forgets where two pages were.
use Rattle.std.proofs.Common.{◌≡◌, ◌⊎◌, ℕ, true, false, Option, Some, is_some, option_map, refl, sym, ap, ◌∙◌, inl, inr}
use Rattle.std.proofs.lemmas.Bool.{false≢true}
use Rattle.vm_ids.specs.declared.numbers.NodeId.{NodeId}
use Rattle.vm_ids.specs.Held.{Held}
use Rattle.vm_ids.specs.Forest.Nodes.{node}
use Rattle.vm_ids.specs.Forest.Rules.{heir_gets, own}
use Rattle.vm_ids.specs.Forest.Shape.{IsWellShaped}
use Rattle.global_map.specs.Pairs.{node_of}
use Rattle.local_cache.specs.declared.own_state.OwnState.{OwnState}
use Rattle.local_cache.specs.declared.own_state.OwnState.TheVariants.{Absent, Zero, Resident, Slot, OnSegment}
use Rattle.local_cache.specs.Arena.{Arena, HasNode, with_own}
use Rattle.local_cache.specs.Changes.{Like}
use Rattle.local_cache.specs.Own.{is_absent, own_of}
use Rattle.local_cache.specs.Reading.{forest_of, name_of, page_of}
use Rattle.local_cache.specs.Sound.{IsSound}
use Rattle.residency.specs.declared.store.Store.{Store}
use Rattle.residency.specs.StoreForest.{store_forest}
use Rattle.residency.specs.Translating.{Drops}
use Rattle.residency.specs.World.{IsStoreRight, Still, World, world}
use Rattle.residency.proofs.Forests.StillForest.{still_caches_sound, still_forest, still_like}
use Rattle.residency.proofs.Translations.Kept.{drops_trans, kept_drops}
use Rattle.residency.proofs.Translations.Lost.{tables_same}
use Rattle.residency.proofs.Translations.Owners.{owners, owners_page}
use Rattle.residency.proofs.Worlds.After.{absent_stays}
use Rattle.residency.proofs.Worlds.Telling.{tells}
use Rattle.fault_path.specs.Answers.{IsForestRight}
use Rattle.fault_path.specs.Faults.{Follows, IsOwner, Kept}
use Rattle.fault_path.specs.Translating.{MayCome, without_homes}
use Rattle.fault_path.proofs.Calls.Kept.{still_owner, still_shaped}
use Rattle.fault_path.proofs.OnePage.DirtyPage.{dirtied}
use Rattle.fault_path.proofs.Rules.KeptOwners.{Passes, passes_both, passes_heir, passes_own}
use Rattle.fault_path.proofs.Translations.Given.{given_drops}

like_from : (a b c : Arena) → Like a b → Like a c → Like b c
like_from a b c p q = record {
  held = λ n. q.held n ∙ sym (p.held n);
  name = λ n. q.name n ∙ sym (p.name n);
  caches = q.caches ∙ sym p.caches;
}

own_number : (n : NodeId) (s : OwnState) → is_absent s ≡ false → option_map (λ _. n) (page_of s) ≡ Some n
own_number n Absent e = absurd (false≢true (sym e))
own_number n Zero e = refl
own_number n (Resident d) e = refl
own_number n (Slot s) e = refl
own_number n OnSegment e = refl

module _ {told told' told'' : Option Held} {size size' size'' : Option ℕ} (a b c : Arena) (s t u : Store) (right : IsForestRight (world told size a s)) (still : Still (world told size a s) (world told' size' b t)) (kept : Kept (world told size a s) (world told'' size'' c u))
    (n o : NodeId) (there : HasNode a n) (owner : IsOwner a n o) (gathered : Drops (λ m. m ≡ o) a s b t) (stays : (f : ℕ) (p : NodeId) → node_of t.map f ≡ Some p → node_of u.map f ≡ Some p)
    (comes : (f : ℕ) (p : NodeId) → node_of u.map f ≡ Some p → (node_of t.map f ≡ Some p) ⊎ MayCome a o p) (second : MayCome a o n) (tables : u.tables ≡ t.tables) where
  abbrev old : World
  old = world told size a s

  abbrev w : World
  w = world told' size' b t

  abbrev v : World
  v = world told'' size'' c u

  sound_w : IsSound b
  sound_w = still_caches_sound old w still right.sound

  like_w : Like a b
  like_w = still_like a b still.stays.caches

  like_v : Like b c
  like_v = like_from a b c like_w kept.nodes

  shaped_w : IsWellShaped (forest_of b)
  shaped_w = still_shaped old w still right.sound right.shaped

  there_w : HasNode b n
  there_w = like_w.held n ∙ there

  owner_w : IsOwner b n o
  owner_w = still_owner old w still right.sound n o owner

  whole : Passes b c o → Drops (MayCome a o) a s c (without_homes o n u)
  whole passes = drops_trans (λ m. m ≡ o) (MayCome a o) (MayCome a o) a b c s t (without_homes o n u) (λ m e. inl e) (λ m e. e) gathered
      (given_drops (MayCome a o) b c t u o n still.stays.right.tied.placed kept.right.tied.placed passes stays comes (inl refl) second tables)

  pub own_drops : Follows own (name_of a n) old v → Drops (MayCome a o) a s c (without_homes o n u)
  own_drops follows = whole (passes_own w v sound_w shaped_w kept.sound like_v n o there_w owner_w
      (follows ∙ ap (λ f. own f (name_of a n)) (sym (still_forest old w still)) ∙ ap (own (store_forest w)) (sym (like_w.name n))))

  pub both_drops : store_forest v ≡ heir_gets (own (store_forest old) (name_of a n)) (name_of a n) → Drops (MayCome a o) a s c (without_homes o n u)
  both_drops follows = whole (passes_both w v sound_w shaped_w kept.sound like_v n o there_w owner_w
      (follows ∙ ap (λ f. heir_gets (own f (name_of a n)) (name_of a n)) (sym (still_forest old w still)) ∙ ap (λ x. heir_gets (own (store_forest w) x) x) (sym (like_w.name n))))

  pub heir_drops : is_absent (own_of a o) ≡ false → n ≡ o → Follows heir_gets (name_of a n) old v → Drops (MayCome a o) a s c (without_homes o n u)
  heir_drops own_page is follows = whole (passes_heir w v sound_w shaped_w kept.sound like_v n o there_w owner_w
      (ap (λ m. (node (owners b) (name_of b m)).own) is ∙ owners_page b sound_w.kept.named o owner_w.held ∙ own_number o (own_of b o) (absent_stays old w still o ∙ own_page))
      (follows ∙ ap (λ f. heir_gets f (name_of a n)) (sym (still_forest old w still)) ∙ ap (heir_gets (store_forest w)) (sym (like_w.name n))))

-- a page becomes dirty
pub dirtied_drops : (came : NodeId → Type 0) (told : Option Held) (size : Option ℕ) (a : Arena) (s : Store) (o m n : NodeId) → IsStoreRight (world told size a s) → Still (world told size a s) (dirtied (world told size a s) n)
    → Drops came a (without_homes o m s) (with_own a n (Resident true)) (without_homes o m s)
dirtied_drops came told size a s o m n right still =
    kept_drops a (with_own a n (Resident true)) (without_homes o m s) (without_homes o m s) came right.tied.placed still.stays.right.tied.placed still.stays.caches
    (λ k. sym (tells (dirtied (world told size a s) n) k) ∙ ap is_some (still.stays.pages k) ∙ tells (world told size a s) k)
    (tables_same (without_homes o m s) (without_homes o m s) refl refl) (λ f p at. inl at)

-- who may come once pages moved might have come before
pub may_before : (old new : World) → Still old new → (o p : NodeId) → MayCome new.caches o p → MayCome old.caches o p
may_before old new still o p may = elim may [
  | inl e ↦ inl e
  | inr absent ↦ inr (sym (absent_stays old new still p) ∙ absent)
]
