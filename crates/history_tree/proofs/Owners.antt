-- The owner that is found on the way up by parents is that of the forest.
use Rattle.std.proofs.Common.{◌≡◌, ℕ, zero, suc, ◌<◌, ◌≤◌, length, Bool, true, false, Option, Some, None, IsSome, is_none, refl, sym, ap, subst, ◌∙◌, arith}
use Rattle.std.specs.Prelude.{option_and_then}
use Rattle.std.proofs.lemmas.List.{length-map}
use Rattle.std.specs.FinMap.{len-entries}
use Rattle.std.specs.FinMap as ids
use Rattle.std.proofs.lemmas.Bool.{false≢true}
use Rattle.vm_ids.specs.declared.numbers.NodeId.{NodeId}
use Rattle.vm_ids.specs.declared.node_name.NodeName.{NodeName}
use Rattle.vm_ids.specs.Forest.NameMap.{len}
use Rattle.vm_ids.specs.Forest.Nodes.{Forest}
use Rattle.vm_ids.specs.Forest.Reading.{owner_of, path_of}
use Rattle.vm_ids.specs.Forest.Shape.{IsWellShaped}
use Rattle.vm_ids.proofs.Forest.Paths.{path-le}
use Rattle.local_cache.specs.declared.own_state.OwnState.{OwnState}
use Rattle.local_cache.specs.declared.own_state.OwnState.TheVariants.{Absent, Zero, Resident, Slot, OnSegment}
use Rattle.local_cache.specs.Arena.{Arena, HasNode, cell}
use Rattle.local_cache.specs.OnCells.{IsOwnerOf, up}
use Rattle.local_cache.specs.Own.{is_absent}
use Rattle.local_cache.specs.Reading.{forest_of, name_of, page_of}
use Rattle.local_cache.specs.Sound.{IsSound}
use Rattle.local_cache.proofs.Nodes.Count.{forest_len, keys_states}
use Rattle.history_tree.proofs.Upward.{has_parent, held_up, itself_owns, path_end, same_owner, shorter}

-- Own states

absent_none : (s : OwnState) → is_none (page_of s) ≡ is_absent s
absent_none Absent = refl
absent_none Zero = refl
absent_none (Resident dirty) = refl
absent_none (Slot k) = refl
absent_none OnSegment = refl

pub page_there : (s : OwnState) → is_absent s ≡ false → IsSome (page_of s)
page_there Absent e = absurd (false≢true (sym e))
page_there Zero e = refl
page_there (Resident dirty) e = refl
page_there (Slot k) e = refl
page_there OnSegment e = refl

-- The way up

up_one : (a : Arena) (n p : NodeId) → (cell a n).links.parent ≡ Some p → (k : ℕ) → up a (suc k) n ≡ up a k p
up_one a n p e zero = e
up_one a n p e (suc k) = ap (option_and_then (λ m. (cell a m).links.parent)) (up_one a n p e k)

before_last : (a : Arena) (o : Option NodeId) (m : NodeId) → option_and_then (λ n. (cell a n).links.parent) o ≡ Some m
    → (n : NodeId) × (o ≡ Some n) × ((cell a n).links.parent ≡ Some m)
before_last a None m e = absurd (cc e)
before_last a (Some n) m e = (n, refl, e)

-- an owner so many steps up
record Reached (a : Arena) (n owner : NodeId) (steps : ℕ) : Type 0 where
  reached : up a steps n ≡ Some owner
  owns : is_absent (cell a owner).own ≡ false
  first : (k : ℕ) (m : NodeId) → k < steps → up a k n ≡ Some m → is_absent (cell a m).own ≡ true
  held : (k : ℕ) (m : NodeId) → k ≤ steps → up a k n ≡ Some m → HasNode a m

at_once : (a : Arena) (n : NodeId) → HasNode a n → is_absent (cell a n).own ≡ false → Reached a n n 0
at_once a n h owns = record {
  reached = refl;
  owns = owns;
  first = λ k m less e. (let bad : ⊥ = omega (arith, less) in absurd bad);
  held = λ k m less e. (let zero_is : k ≡ 0 = omega (arith, less) in
      let same : Some n ≡ Some m = sym (ap (λ j. up a j n) zero_is) ∙ e in
      let is : n ≡ m = cc same in subst (HasNode a) is h);
}

module _ (a : Arena) (n p owner : NodeId) (steps : ℕ) (h : HasNode a n) (bare : is_absent (cell a n).own ≡ true) (parent : (cell a n).links.parent ≡ Some p) (r : Reached a p owner steps) where
  first_of : (k : ℕ) (m : NodeId) → k < suc steps → up a k n ≡ Some m → is_absent (cell a m).own ≡ true
  first_of zero m less e = let same : n ≡ m = cc e in subst (λ q. is_absent (cell a q).own ≡ true) same bare
  first_of (suc k) m less e = r.first k m (omega (arith, less)) (sym (up_one a n p parent k) ∙ e)

  held_of : (k : ℕ) (m : NodeId) → k ≤ suc steps → up a k n ≡ Some m → HasNode a m
  held_of zero m less e = let same : n ≡ m = cc e in subst (HasNode a) same h
  held_of (suc k) m less e = r.held k m (omega (arith, less)) (sym (up_one a n p parent k) ∙ e)

  one_more : Reached a n owner (suc steps)
  one_more = record { reached = up_one a n p parent steps ∙ r.reached; owns = r.owns; first = first_of; held = held_of }

-- a path is no longer than there are nodes
path_short : {P : Type 0} (f : Forest P) (x : NodeName) → length (path_of f x) ≤ len f.nodes
unfolding path_of
path_short f x = path-le (len f.nodes) f x

module _ (a : Arena) (sound : IsSound a) (shaped : IsWellShaped (forest_of a)) where
  abbrev left : NodeId → ℕ
  left n = length (path_of (forest_of a) (name_of a n))

  -- an owner, in fewer steps than the path has names
  abbrev Found : NodeId → Type 0
  Found n = (owner : NodeId) × (steps : ℕ) × (steps < left n) × Reached a n owner steps

  found : (n : NodeId) → HasNode a n → (b : Bool) → is_absent (cell a n).own ≡ b → ((p : NodeId) → HasNode a p → left p < left n → Found p) → Found n
  found n h false e up =
      let path = ap length (path_end a sound shaped n h (absent_none (cell a n).own ∙ e)) in
      (n, 0, omega (arith, path), at_once a n h e)
  found n h true e up =
      let bare = absent_none (cell a n).own ∙ e in
      let p = some_of (cell a n).links.parent (has_parent a sound shaped n h bare) in
      let less = shorter a sound shaped n h p.0 bare p.1 in
      let r = up p.0 (held_up a sound shaped n h p.0 bare p.1) less in
      (r.0, suc r.1, omega (arith, less, r.2), one_more a n p.0 r.0 r.1 h e p.1 r.3)
    where
      some_of : (o : Option NodeId) → IsSome o → (p : NodeId) × (o ≡ Some p)
      some_of None some = absurd (cc some)
      some_of (Some p) some = (p, refl)

  owner_within : (most : ℕ) (n : NodeId) → HasNode a n → left n ≤ most → Found n
  owner_within zero n h short = found n h (is_absent (cell a n).own) refl (λ p hp less. (let bad : ⊥ = omega (arith, less, short) in absurd bad))
  owner_within (suc most) n h short = found n h (is_absent (cell a n).own) refl (λ p hp less. owner_within most p hp (omega (arith, less, short)))

  pub owner_there : (n : NodeId) → HasNode a n → (owner : NodeId) × IsOwnerOf a n owner
  owner_there n h =
      let r = owner_within (left n) n h (omega arith) in
      let most = path_short (forest_of a) (name_of a n) in
      let ids_len : length (ids.keys a.cells) ≡ ids.len a.cells = length-map (ids.entries a.cells) (λ e. e.0) ∙ sym (len-entries a.cells) in (
        r.0,
        record {
          steps = r.1;
          few = omega (arith, r.2, most, forest_len a, keys_states a, ids_len);
          reached = r.3.reached;
          owns = r.3.owns;
          first = r.3.first;
          held = r.3.held;
        },
      )

  -- and it owns the node
  module _ (n owner : NodeId) (h : HasNode a n) (is : IsOwnerOf a n owner) where
    way : (k : ℕ) (m : NodeId) → k ≤ is.steps → up a k n ≡ Some m → owner_of (forest_of a) (name_of a n) ≡ owner_of (forest_of a) (name_of a m)
    way zero m less e = let same : n ≡ m = cc e in ap (λ q. owner_of (forest_of a) (name_of a q)) same
    way (suc k) m less e =
        let b = before_last a (up a k n) m e in
        let bare = absent_none (cell a b.0).own ∙ is.first k b.0 (omega (arith, less)) b.1 in
        way k b.0 (omega (arith, less)) b.1 ∙ same_owner a sound shaped b.0 (is.held k b.0 (omega (arith, less)) b.1) m bare b.2

    pub owner_held : HasNode a owner
    owner_held = is.held is.steps owner (omega arith) is.reached

    pub owner_named : name_of a owner ≡ owner_of (forest_of a) (name_of a n)
    owner_named =
        sym (itself_owns a sound shaped owner owner_held (absent_none (cell a owner).own ∙ is.owns))
        ∙ sym (way is.steps owner (omega arith) is.reached)
