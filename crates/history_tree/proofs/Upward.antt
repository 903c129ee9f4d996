-- The way up from a node, read off the caches.
use Rattle.std.proofs.Common.{◌≡◌, ◌<◌, [], ◌∷◌, length, Bool, true, false, Option, Some, None, IsSome, is_none, refl, sym, ap, ◌∙◌, subst, arith}
use Rattle.std.proofs.lemmas.Bool.{false≢true}
use Rattle.vm_ids.specs.Forest.Nodes.{node, parent, parent_of}
use Rattle.vm_ids.specs.Forest.Shape.{IsWellShaped}
use Rattle.vm_ids.specs.Forest.Reading.{path_of, names_above, owner_of}
use Rattle.vm_ids.proofs.Forest.Laws.Reading.{owners_own_themselves, owners_are_inherited}
use Rattle.vm_ids.proofs.Forest.Owning.{has_value}
use Rattle.vm_ids.proofs.Forest.Paths.{path-step}
use Rattle.vm_ids.specs.declared.numbers.NodeId.{NodeId}
use Rattle.local_cache.specs.declared.own_state.OwnState.{OwnState}
use Rattle.local_cache.specs.Arena.{Arena, cell, HasNode}
use Rattle.local_cache.specs.Reading.{name_of, page_of, forest_of, hang_by}
use Rattle.local_cache.specs.Sound.{IsSound}
use Rattle.local_cache.proofs.Changes.SameNodes.{parent_by}
use Rattle.local_cache.proofs.Forest.Reading.{node-forest_of, IsNode-forest_of}

none_by : {A : Type 0} (o : Option A) → is_none o ≡ true → o ≡ None
none_by None e = refl
none_by (Some v) e = absurd (false≢true e)

some_by : {A : Type 0} (o : Option A) → is_none o ≡ false → (v : A) × (o ≡ Some v)
some_by None e = absurd (false≢true (sym e))
some_by (Some v) e = (v, refl)

module _ (a : Arena) (sound : IsSound a) (shaped : IsWellShaped (forest_of a)) (n : NodeId) (h : HasNode a n) where
  own_is : (node (forest_of a) (name_of a n)).own ≡ page_of (cell a n).own
  own_is = ap (λ m. m.own) (node-forest_of a sound.kept.named n h)

  step : path_of (forest_of a) (name_of a n) ≡ name_of a n ∷ names_above (node (forest_of a) (name_of a n)).own (parent (forest_of a) (name_of a n)) (path_of (forest_of a))
  step = path-step (forest_of a) shaped.linked {x = name_of a n} (has_value (forest_of a) shaped (name_of a n) (IsNode-forest_of a sound.kept.named n h)).1

  up_is : (p : NodeId) → (cell a n).links.parent ≡ Some p → parent (forest_of a) (name_of a n) ≡ Some (name_of a p)
  up_is p e = ap (λ m. parent_of m.hang) (node-forest_of a sound.kept.named n h) ∙ ap (λ o. parent_of (hang_by a o (cell a n).links.by_stub)) e ∙ parent_by a p (cell a n).links.by_stub

  pub path_up : (p : NodeId) → is_none (page_of (cell a n).own) ≡ true → (cell a n).links.parent ≡ Some p → path_of (forest_of a) (name_of a n) ≡ name_of a n ∷ path_of (forest_of a) (name_of a p)
  path_up p bare up = step ∙ ap (λ o. name_of a n ∷ names_above o (parent (forest_of a) (name_of a n)) (path_of (forest_of a))) (own_is ∙ none_by _ bare)
      ∙ ap (λ o. name_of a n ∷ names_above {P = OwnState} None o (path_of (forest_of a))) (up_is p up)

  pub path_end : is_none (page_of (cell a n).own) ≡ false → path_of (forest_of a) (name_of a n) ≡ name_of a n ∷ []
  path_end full = let v = some_by _ full in step ∙ ap (λ o. name_of a n ∷ names_above o (parent (forest_of a) (name_of a n)) (path_of (forest_of a))) (own_is ∙ v.1)

  pub itself_owns : is_none (page_of (cell a n).own) ≡ false → owner_of (forest_of a) (name_of a n) ≡ name_of a n
  itself_owns full = let v = some_by _ full in owners_own_themselves (forest_of a) shaped (name_of a n) v.0 (own_is ∙ v.1)

  -- a node without an own page has a parent
  pub has_parent : is_none (page_of (cell a n).own) ≡ true → IsSome (cell a n).links.parent
  has_parent bare =
      let some = shaped.inherits (name_of a n) (IsNode-forest_of a sound.kept.named n h) (own_is ∙ none_by _ bare) in
      by_link (cell a n).links.parent (cell a n).links.by_stub (subst IsSome (ap (λ m. parent_of m.hang) (node-forest_of a sound.kept.named n h)) some)
    where
      by_link : (up : Option NodeId) (t : Bool) → IsSome (parent_of (hang_by a up t)) → IsSome up
      by_link None t some = some
      by_link (Some p) t some = refl

module _ (a : Arena) (sound : IsSound a) (shaped : IsWellShaped (forest_of a)) (n : NodeId) (h : HasNode a n) (p : NodeId) (bare : is_none (page_of (cell a n).own) ≡ true) (up : (cell a n).links.parent ≡ Some p) where
  pub held_up : HasNode a p
  held_up = sound.kept.parents n p h up

  pub same_owner : owner_of (forest_of a) (name_of a n) ≡ owner_of (forest_of a) (name_of a p)
  same_owner = owners_are_inherited (forest_of a) shaped (name_of a n) (name_of a p) (own_is a sound shaped n h ∙ none_by _ bare) (up_is a sound shaped n h p up)

  pub shorter : length (path_of (forest_of a) (name_of a p)) < length (path_of (forest_of a) (name_of a n))
  shorter = omega (arith, ap length (path_up a sound shaped n h p bare up))
