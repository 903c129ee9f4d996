-- The frame in which a page is seen is that of the node that owns it.
use Rattle.std.proofs.Common.{◌≡◌, ℕ, ◌<◌, Bool, true, false, List, length, Option, Some, None, IsSome, is_some, refl, sym, ap, ◌∙◌, arith}
use Rattle.std.specs.Prelude.{option_and_then, option_map, MatchOption}
use Rattle.std.proofs.lemmas.Bool.{false≢true}
use Rattle.vm_ids.specs.declared.node_name.NodeName.{NodeName}
use Rattle.vm_ids.specs.declared.numbers.FrameId.{FrameId}
use Rattle.vm_ids.specs.declared.numbers.NodeId.{NodeId}
use Rattle.vm_ids.specs.Forest.Nodes.{IsNode, node}
use Rattle.vm_ids.specs.Forest.PageMap.{bare, no_page}
use Rattle.vm_ids.specs.Forest.Reading.{owner_of, value_of}
use Rattle.vm_ids.specs.Forest.Shape.{IsConsistent}
use Rattle.vm_ids.proofs.Forest.BareThin.{bare-IsNode, bare-consistent}
use Rattle.vm_ids.proofs.Forest.Laws.Reading.{owners_own_values}
use Rattle.vm_ids.proofs.Forest.PageMap.{is_some-map, own-map, owner_of-map}
use Rattle.vm_ids.proofs.Forest.Reading.{value-IsValue}
use Rattle.vm_ids.specs.Forest.Values.IsValue.{itself}
use Rattle.vm_ids.proofs.Places.{bit}
use Rattle.global_map.specs.Pairs.{bound_times, frame_of, node_of}
use Rattle.local_cache.specs.declared.own_state.OwnState.{OwnState}
use Rattle.local_cache.specs.declared.own_state.OwnState.TheVariants.{Absent, Zero, Resident, Slot, OnSegment}
use Rattle.local_cache.specs.Arena.{Arena, HasNode}
use Rattle.local_cache.specs.Own.{is_resident, own_of}
use Rattle.local_cache.specs.Reading.{forest_of, name_of, page_of}
use Rattle.local_cache.specs.Sound.{IsSound}
use Rattle.local_cache.proofs.NewCache.FoundPages.{some_of}
use Rattle.local_cache.proofs.Forest.Reading.{IsNode-forest_of}
use Rattle.local_cache.proofs.Forest.ReadingBy.{bare-of, page-at}
use Rattle.residency.specs.declared.store.Store.{Store}
use Rattle.residency.specs.Seeing.{IsAlone, frame_forest, own_frame, seen_in}
use Rattle.residency.specs.World.{page_by, world}
use Rattle.page_commands.specs.Steps.{IsStoreTied}
use Rattle.page_commands.specs.Translating.{own_in}
use Rattle.page_commands.proofs.TiedStores.Tied.{home}

has_page : {P : Type 0} (z f : P) (s : ℕ → P) (g : P) (x : OwnState) → is_some (page_by z f s g x) ≡ is_some (page_of x)
has_page z f s g Absent = refl
has_page z f s g Zero = refl
has_page z f s g (Resident d) = refl
has_page z f s g (Slot k) = refl
has_page z f s g OnSegment = refl

-- Without its pages the forest of frames is that of the own states
module _ (a : Arena) (map : List (Option NodeId)) (sound : IsSound a) where
  frames_bare : bare (forest_of a) ≡ bare (frame_forest a map)
  unfolding frame_forest
  frames_bare = sym (bare-of (own_frame a map) a sound.kept.named (λ n. has_page None (Some (frame_of map n.0)) (λ slot. None) None (own_of a n)))

  pub own_at : (n : NodeId) → HasNode a n → (node (frame_forest a map) (name_of a n)).own ≡ own_frame a map n
  unfolding frame_forest
  own_at n h = page-at (own_frame a map) a sound.kept.named n h

  owner_same : (x : NodeName) → owner_of (frame_forest a map) x ≡ owner_of (forest_of a) x
  owner_same x = sym (owner_of-map no_page (frame_forest a map) x) ∙ ap (λ f. owner_of f x) (sym frames_bare) ∙ owner_of-map no_page (forest_of a) x

  -- the page of a node is that of its owner
  value_at : IsConsistent (forest_of a) → (n o : NodeId) → HasNode a n → HasNode a o → name_of a o ≡ owner_of (forest_of a) (name_of a n)
      → value_of (frame_forest a map) (name_of a n) ≡ own_frame a map o
  value_at consistent n o h k is =
      let f = frame_forest a map in
      let there : IsNode f (name_of a n) = sym (bare-IsNode (forest_of a) f frames_bare (name_of a n)) ∙ IsNode-forest_of a sound.kept.named n h in
      sym (owners_own_values f (bare-consistent (forest_of a) f frames_bare consistent).shaped (name_of a n) there)
      ∙ ap (λ x. (node f x).own) (owner_same (name_of a n) ∙ sym is)
      ∙ own_at o k

  -- a node that owns its page is seen in the frame of its own page
  pub owned_seen : IsConsistent (forest_of a) → (x : NodeName) → IsSome (node (frame_forest a map) x).own → seen_in a map x ≡ own_in a map x
  owned_seen consistent x has =
      let f = frame_forest a map in
      let own = some_of (node f x).own has in
      ap (option_and_then (λ frame. frame)) (value-IsValue f (bare-consistent (forest_of a) f frames_bare consistent).shaped.linked (itself own.1) ∙ sym own.1)

-- and so is a node that has its page to itself
module _ (a : Arena) (map : List (Option NodeId)) (sound : IsSound a) (consistent : IsConsistent (forest_of a)) (x : NodeName) (alone : IsAlone a x) where
  has_own : IsSome (node (frame_forest a map) x).own
  has_own =
      let f = frame_forest a map in
      sym (is_some-map no_page (node f x).own)
      ∙ ap is_some (sym (own-map no_page f x) ∙ ap (λ g. (node g x).own) (sym (frames_bare a map sound)) ∙ own-map no_page (forest_of a) x)
      ∙ is_some-map no_page (node (forest_of a) x).own ∙ alone.owned

  pub alone_own : seen_in a map x ≡ own_in a map x
  alone_own = owned_seen a map sound consistent x has_own

-- what the map says of the frame of a node
abbrev pub IsFound : List (Option NodeId) → NodeId → Option FrameId → Type 0
IsFound map n found = MatchOption found (bound_times map n.0 ≡ 0) (λ frame. (frame.0 < length map) × (node_of map frame.0 ≡ Some n))

abbrev pub number_of : Option FrameId → Option ℕ
number_of found = option_map (λ (f : FrameId). f.0) found

pub in_frame : (s : OwnState) (f : ℕ) → is_resident s ≡ true → option_and_then (λ frame. frame) (page_by None (Some f) (λ slot. None) None s) ≡ Some f
in_frame Absent f h = absurd (false≢true h)
in_frame Zero f h = absurd (false≢true h)
in_frame (Resident d) f h = refl
in_frame (Slot k) f h = absurd (false≢true h)
in_frame OnSegment f h = absurd (false≢true h)

pub in_none : (s : OwnState) (f : ℕ) → is_resident s ≡ false → option_and_then (λ frame. frame) (page_by None (Some f) (λ slot. None) None s) ≡ None
in_none Absent f h = refl
in_none Zero f h = refl
in_none (Resident d) f h = absurd (false≢true (sym h))
in_none (Slot k) f h = refl
in_none OnSegment f h = refl

not_bound : (b : Bool) → bit b ≡ 0 → b ≡ false
not_bound true e = absurd (omega (arith, e))
not_bound false e = refl

module _ (s : Store) (a : Arena) (tied : IsStoreTied s a) where
  -- the frame of a node's own page is the one that the map has for it
  own_found : (n : NodeId) (found : Option FrameId) → IsFound s.map n found → option_and_then (λ frame. frame) (own_frame a s.map n) ≡ number_of found
  own_found n None is = in_none (own_of a n) (frame_of s.map n.0) (not_bound (is_resident (own_of a n)) (sym (tied.placed.bound n) ∙ is))
  own_found n (Some f) is =
      let at = home (world None None a s) f.0 n tied is.0 is.1 in
      in_frame (own_of a n) (frame_of s.map n.0) at.resident ∙ ap Some at.place

  module _ (sound : IsSound a) where
    pub own_is : (n : NodeId) → HasNode a n → (x : NodeName) → name_of a n ≡ x → (found : Option FrameId) → IsFound s.map n found → own_in a s.map x ≡ number_of found
    own_is n h x named found is =
        ap (λ y. own_in a s.map y) (sym named) ∙ ap (option_and_then (λ frame. frame)) (own_at a s.map sound n h) ∙ own_found n found is

    pub seen_is : IsConsistent (forest_of a) → (n : NodeId) → HasNode a n → (x : NodeName) → name_of a n ≡ x
        → (o : NodeId) → HasNode a o → name_of a o ≡ owner_of (forest_of a) (name_of a n)
        → (found : Option FrameId) → IsFound s.map o found → seen_in a s.map x ≡ number_of found
    seen_is consistent n h x named o k owner found is =
        ap (λ y. seen_in a s.map y) (sym named) ∙ ap (option_and_then (λ frame. frame)) (value_at a s.map sound consistent n o h k owner) ∙ own_found o found is
