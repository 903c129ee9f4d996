-- The frames of the own pages of some nodes are those in which the map has these.
use Rattle.std.proofs.Common.{◌≡◌, ℕ, ◌<◌, ◌||◌, Bool, true, false, List, [], ◌∷◌, length, Option, Some, None, IsTrue, refl, sym, ap, ◌∙◌, subst, inl, inr, ◌⊎◌}
use Rattle.std.specs.List.{list_any}
use Rattle.std.specs.Prelude.{MatchOption, option_and_then, ◌↔◌}
use Rattle.std.proofs.lemmas.Bool.{cases_Bool, cases_lt, false≢true}
use Rattle.std.proofs.lemmas.List.{get_or_past}
use Rattle.vm_ids.specs.declared.node_name.NodeName.{NodeName}
use Rattle.vm_ids.specs.declared.numbers.NodeId.{NodeId}
use Rattle.vm_ids.specs.Forest.NameLists.{◌∈◌}
use Rattle.vm_ids.proofs.Places.{bit}
use Rattle.global_map.specs.Pairs.{frame_of, node_of}
use Rattle.local_cache.specs.Arena.{Arena, HasNode}
use Rattle.local_cache.specs.Own.{is_resident, own_of}
use Rattle.local_cache.specs.Reading.{name_of}
use Rattle.local_cache.specs.Sound.{IsSound}
use Rattle.residency.specs.declared.store.Store.{Store}
use Rattle.residency.specs.World.{world}
use Rattle.page_tables.proofs.EntryPlaces.{equal_from}
use Rattle.page_commands.specs.Steps.{IsStoreTied}
use Rattle.page_commands.specs.Translating.{is_frame, is_owned, own_in}
use Rattle.page_commands.proofs.FreedFrames.Freed.{stands}
use Rattle.page_commands.proofs.StaleTranslations.Left.{not_at}
use Rattle.page_commands.proofs.TiedStores.Tied.{home}
use Rattle.page_commands.proofs.StaleTranslations.Seen.{in_frame, in_none, own_at, own_is}

is_that : (o : Option ℕ) (f : ℕ) → is_frame o f ≡ true → o ≡ Some f
is_that None f e = absurd (false≢true e)
is_that (Some g) f e = ap (λ (n : ℕ). Some n) (sym (equal_from f g e))

-- a frame that is that of one of these pages
some_at : (at : NodeName → Option ℕ) (names : List NodeName) (f : ℕ) → list_any (λ x. is_frame (at x) f) names ≡ true → (x : NodeName) × (x ∈ names) × (at x ≡ Some f)
some_at at [] f e = absurd (false≢true e)
some_at at (y ∷ ys) f e = elim (cases_Bool (is_frame (at y) f)) [
  | inl here ↦ (y, inl refl, is_that (at y) f here)
  | inr not_here ↦ (let r = some_at at ys f (sym (ap (λ (b : Bool). b || list_any (λ x. is_frame (at x) f) ys) not_here) ∙ e) in (r.0, inr r.1, r.2))
]

below_by : (map : List (Option NodeId)) (f : ℕ) (n : NodeId) → node_of map f ≡ Some n → f < length map
below_by map f n at = elim (cases_lt f (length map)) [
  | inl b ↦ b
  | inr b ↦ (let none : None ≡ Some n = sym (get_or_past map f None b) ∙ at in absurd (cc none))
]

module _ (s : Store) (a : Arena) (tied : IsStoreTied s a) where
  -- a node that the map has in a frame is there
  pub held_there : (f : ℕ) (n : NodeId) → node_of s.map f ≡ Some n → HasNode a n
  held_there f n at = (home (world None None a s) f n tied (below_by s.map f n at) at).there

module _ (s : Store) (a : Arena) (tied : IsStoreTied s a) (sound : IsSound a) where
  -- the map has a node in the frame of its own page
  bound_there : (n : NodeId) → HasNode a n → (f : ℕ) → own_in a s.map (name_of a n) ≡ Some f → node_of s.map f ≡ Some n
  bound_there n h f is =
      let own = ap (option_and_then (λ frame. frame)) (own_at a s.map sound n h) in
      elim (cases_Bool (is_resident (own_of a n))) [
        | inl in_one ↦ (
            let at = stands s.map n (tied.placed.bound n ∙ ap bit in_one) in
            let frame : Some (frame_of s.map n.0) ≡ Some f = sym (own ∙ in_frame (own_of a n) (frame_of s.map n.0) in_one) ∙ is in
            let same : frame_of s.map n.0 ≡ f = cc frame in
            ap (node_of s.map) (sym same) ∙ at.1)
        | inr in_no ↦ (let none : None ≡ Some f = sym (own ∙ in_none (own_of a n) (frame_of s.map n.0) in_no) ∙ is in absurd (cc none))
      ]

  module _ (names : List NodeName) (there : (x : NodeName) → x ∈ names → (n : NodeId) × HasNode a n × (name_of a n ≡ x)) where
    -- whether the node in a frame has one of the names
    pub owned_is : (f : ℕ) (picked : Bool) → MatchOption (node_of s.map f) (picked ≡ false) (λ n. IsTrue picked ↔ (name_of a n ∈ names)) → picked ≡ is_owned a s.map names f
    owned_is f picked is = by (node_of s.map f) refl is (cases_Bool (is_owned a s.map names f))
      where
        Says : Option NodeId → Type 0
        Says o = MatchOption o (picked ≡ false) (λ n. IsTrue picked ↔ (name_of a n ∈ names))

        by : (o : Option NodeId) → node_of s.map f ≡ o → Says o → (is_owned a s.map names f ≡ true) ⊎ (is_owned a s.map names f ≡ false) → picked ≡ is_owned a s.map names f
        by o at m (inl owned) =
            let r = some_at (own_in a s.map) names f owned in
            let n = there r.0 r.1 in
            let here = bound_there n.0 n.1 f (ap (own_in a s.map) n.2 ∙ r.2) in
            (subst Says (sym at ∙ here) m).1 (subst (λ x. x ∈ names) (sym n.2) r.1) ∙ sym owned
        by None at m (inr other) = m ∙ sym other
        by (Some n) at m (inr other) = elim (cases_Bool picked) [
          | inr not_so ↦ not_so ∙ sym other
          | inl is_so ↦ (
              let own = own_is s a tied sound n (held_there s a tied f n at) (name_of a n) refl (Some (record { 0 = f })) (below_by s.map f n at, at) in
              absurd (not_at (own_in a s.map) names f other (name_of a n) (m.0 is_so) own))
        ]
