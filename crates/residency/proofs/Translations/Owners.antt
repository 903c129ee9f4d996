-- The node that owns the page of a name, by its number, and the frame in which that page is seen.
use Rattle.std.proofs.Common.{◌≡◌, ◌≢◌, ◌⊎◌, ℕ, ◌<◌, ◌≤◌, Bool, true, false, cond, List, [], ◌∷◌, length, map, Option, Some, None, option_map, unwrap_or, refl, sym, ap, ◌∙◌, subst, inl, inr, arith}
use Rattle.std.specs.Prelude.{option_and_then}
use Rattle.std.specs.Ordering.{eq_by_cmp}
use Rattle.std.specs.FinMap as ids
use Rattle.std.specs.FinMap.Entries.{find}
use Rattle.std.proofs.lemmas.Bool.{cases_lt, false≢true}
use Rattle.std.proofs.lemmas.List.{get_or_past}
use Rattle.std.proofs.lemmas.List.Sums.{passes_at_first}
use Rattle.vm_ids.specs.declared.node_name.NodeName.{NodeName}
use Rattle.vm_ids.specs.declared.numbers.NodeId.{NodeId}
use Rattle.vm_ids.specs.Forest.Names.{name_cmp}
use Rattle.vm_ids.specs.Forest.NameMap as names
use Rattle.vm_ids.specs.Forest.Nodes.{Forest, IsNode, childless, node}
use Rattle.vm_ids.specs.Forest.Nodes.Hang.{Root}
use Rattle.vm_ids.specs.Forest.PageMap.{bare, map_node, map_pages, no_page}
use Rattle.vm_ids.specs.Forest.Reading.{owner_of, value_of}
use Rattle.vm_ids.specs.Forest.Shape.{IsWellShaped}
use Rattle.vm_ids.proofs.Forest.BareShape.{bare-shaped}
use Rattle.vm_ids.proofs.Forest.Laws.Reading.{owners_own_values}
use Rattle.vm_ids.proofs.Forest.Owning.{has_value}
use Rattle.vm_ids.proofs.Forest.Reading.{value-IsValue}
use Rattle.vm_ids.proofs.Forest.NameMap.{get-from_entries}
use Rattle.vm_ids.proofs.Forest.PageMap.{copies-map, get-map, is_some-map, made-map, owner_of-map, same_forest, value_of-map}
use Rattle.vm_ids.proofs.Places.{bit, bit-le, bit_from, bit_true, count_some, only_place, same_number, some_place}
use Rattle.frame_pool.specs.Pool.{Frames}
use Rattle.global_map.specs.Pairs.{bound_times, frame_of, is_node, node_of}
use Rattle.global_map.proofs.Places.{the_node}
use Rattle.local_cache.specs.declared.own_state.OwnState.{OwnState}
use Rattle.local_cache.specs.declared.own_state.OwnState.TheVariants.{Absent, Zero, Resident, Slot, OnSegment}
use Rattle.local_cache.specs.Arena.{Arena, HasNode}
use Rattle.local_cache.specs.Own.{is_resident, own_of}
use Rattle.local_cache.specs.Reading.{AreNamesApart, at_key, forest_of, name_of, page_of}
use Rattle.local_cache.specs.ReadingBy.{forest_by, node_with, state_page}
use Rattle.local_cache.proofs.Forest.Reading.{IsNode-forest_by, get-forest_by_none, held_or_not}
use Rattle.local_cache.proofs.Forest.ReadingBy.{bare-of, page-at}
use Rattle.residency.specs.Seeing.{frame_forest, seen_in}
use Rattle.residency.specs.World.{ArePlaced, page_by}

-- what is found among these names goes with what each stands for
found_mapped : {X Y : Type 0} (h : X → Y) (a : Arena) (read : NodeId → X) (ks : List ℕ) (x : NodeName)
    → option_map h (find name_cmp x (map (λ k. (name_of a (at_key k), read (at_key k))) ks)) ≡ find name_cmp x (map (λ k. (name_of a (at_key k), h (read (at_key k)))) ks)
found_mapped h a read [] x = refl
found_mapped {X} {Y} h a read (k ∷ ks) x = go (eq_by_cmp name_cmp x (name_of a (at_key k))) _ _ (found_mapped h a read ks x)
  where
    go : (b : Bool) (o : Option X) (p : Option Y) → option_map h o ≡ p → option_map h (cond b (Some (read (at_key k))) o) ≡ cond b (Some (h (read (at_key k)))) p
    go true o p e = refl
    go false o p e = e

module _ {P Q : Type 0} (h : P → Q) (page : NodeId → Option P) (a : Arena) where
  get_mapped : (x : NodeName) → names.get (map_pages h (forest_by page a)).nodes x ≡ names.get (forest_by (λ n. option_map h (page n)) a).nodes x
  unfolding forest_by
  get_mapped x = get-map h (forest_by page a) x
      ∙ ap (option_map (map_node h)) (get-from_entries _ x)
      ∙ found_mapped (map_node h) a (λ n. node_with a n (page n)) (ids.keys a.cells) x
      ∙ sym (get-from_entries _ x)

  made_mapped : (map_pages h (forest_by page a)).made ≡ (forest_by (λ n. option_map h (page n)) a).made
  unfolding forest_by
  made_mapped = made-map h (forest_by page a)

  copies_mapped : (map_pages h (forest_by page a)).copies ≡ (forest_by (λ n. option_map h (page n)) a).copies
  unfolding forest_by
  copies_mapped = copies-map h (forest_by page a)

  -- other pages at the same nodes are other pages of the forest
  pub by-map : map_pages h (forest_by page a) ≡ forest_by (λ n. option_map h (page n)) a
  by-map = same_forest _ _ get_mapped made_mapped copies_mapped

-- the page forest in which each node's own page is its number
abbrev pub number_page : Arena → NodeId → Option NodeId
number_page a n = option_map (λ _. n) (state_page a n)

unfoldable pub owners : Arena → Forest NodeId
owners a = forest_by (number_page a) a

-- the frame of a page in this state
abbrev pub place : OwnState → ℕ → Option ℕ
place Absent f = None
place Zero f = None
place (Resident dirty) f = Some f
place (Slot s) f = None
place OnSegment f = None

placed_page : {X : Type 0} (f : ℕ) (n : X) (s : OwnState) (g : X → Option ℕ) → g n ≡ place s f → page_by None (Some f) (λ slot. None) None s ≡ option_map g (option_map (λ _. n) (page_of s))
placed_page f n Absent g e = refl
placed_page f n Zero g e = ap (λ (o : Option ℕ). Some o) (sym e)
placed_page f n (Resident dirty) g e = ap (λ (o : Option ℕ). Some o) (sym e)
placed_page f n (Slot s) g e = ap (λ (o : Option ℕ). Some o) (sym e)
placed_page f n OnSegment g e = ap (λ (o : Option ℕ). Some o) (sym e)

module _ (a : Arena) (map : List (Option NodeId)) where
  abbrev frame_at : NodeId → Option ℕ
  frame_at n = place (own_of a n) (frame_of map n.0)

  frames_mapped : frame_forest a map ≡ map_pages frame_at (owners a)
  unfolding frame_forest owners
  frames_mapped = (λ i. forest_by (λ n. placed_page (frame_of map n.0) n (own_of a n) frame_at refl i) a) ∙ sym (by-map frame_at (number_page a) a)

  flat : (o : Option NodeId) → option_and_then (λ frame. frame) (option_map frame_at o) ≡ option_and_then frame_at o
  flat None = refl
  flat (Some n) = refl

  seen_by : (x : NodeName) → seen_in a map x ≡ option_and_then frame_at (value_of (owners a) x)
  seen_by x = ap (λ f. option_and_then (λ frame. frame) (value_of f x)) frames_mapped ∙ ap (option_and_then (λ frame. frame)) (value_of-map frame_at (owners a) x) ∙ flat (value_of (owners a) x)

resident_place : (s : OwnState) (f g : ℕ) → place s f ≡ Some g → (is_resident s ≡ true) × (f ≡ g)
resident_place Absent f g e = absurd (cc e)
resident_place Zero f g e = absurd (cc e)
resident_place (Resident dirty) f g e = (refl, cc e)
resident_place (Slot s) f g e = absurd (cc e)
resident_place OnSegment f g e = absurd (cc e)

place_resident : (s : OwnState) (f : ℕ) → is_resident s ≡ true → place s f ≡ Some f
place_resident Absent f h = absurd (false≢true h)
place_resident Zero f h = absurd (false≢true h)
place_resident (Resident dirty) f h = refl
place_resident (Slot s) f h = absurd (false≢true h)
place_resident OnSegment f h = absurd (false≢true h)

node_below : (map : List (Option NodeId)) (f : ℕ) (n : NodeId) → node_of map f ≡ Some n → f < length map
node_below map f n at = elim (cases_lt f (length map)) [
  | inl h ↦ h
  | inr h ↦ absurd (let none : node_of map f ≡ None = get_or_past map f None h in cc)
]

-- the node that owns the page of x is at frame f
pub record IsOwnedAt (a : Arena) (map : List (Option NodeId)) (x : NodeName) (f : ℕ) : Type 0 where
  pub owner : NodeId
  pub owns : value_of (owners a) x ≡ Some owner
  pub at : node_of map f ≡ Some owner

module _ (a : Arena) (frames : Frames) (slots : List Bool) (map : List (Option NodeId)) (placed : ArePlaced a frames slots map) where
  -- a resident node is at its frame
  at_frame : (n : NodeId) → is_resident (own_of a n) ≡ true → node_of map (frame_of map n.0) ≡ Some n
  at_frame n resident =
      let some : 1 ≤ bound_times map n.0 = omega (arith, placed.bound n, bit_true (is_resident (own_of a n)) resident) in
      the_node (node_of map (frame_of map n.0)) n (passes_at_first (is_node n.0) map None (some_place (is_node n.0) map some))

  -- and a node at a frame is resident, and the frame is its own
  frame_is : (n : NodeId) (f : ℕ) → node_of map f ≡ Some n → (is_resident (own_of a n) ≡ true) × (frame_of map n.0 ≡ f)
  frame_is n f at =
      let here : is_node n.0 (node_of map f) ≡ true = ap (is_node n.0) at ∙ same_number n.0 in
      let within : f < length map = node_below map f n at in
      let some : 1 ≤ bound_times map n.0 = count_some (is_node n.0) map f None within here in
      let times : bound_times map n.0 ≡ bit (is_resident (own_of a n)) = placed.bound n in
      let once : bound_times map n.0 ≡ 1 = omega (arith, bit-le (is_resident (own_of a n))) in
      (bit_from (is_resident (own_of a n)) (omega arith), only_place (is_node n.0) map f None once within here)

  -- a page that is seen in a frame is that of the node at the frame
  pub seen_owner : (x : NodeName) (f : ℕ) → seen_in a map x ≡ Some f → IsOwnedAt a map x f
  seen_owner x f seen = go (value_of (owners a) x) refl (sym (seen_by a map x) ∙ seen)
    where
      go : (o : Option NodeId) → value_of (owners a) x ≡ o → option_and_then (frame_at a map) o ≡ Some f → IsOwnedAt a map x f
      go None owns e = absurd (cc e)
      go (Some n) owns e =
          let p = resident_place (own_of a n) (frame_of map n.0) f e in
          record { owner = n; owns = owns; at = ap (node_of map) (sym p.1) ∙ at_frame n p.0 }

  pub owner_seen : (x : NodeName) (f : ℕ) → IsOwnedAt a map x f → seen_in a map x ≡ Some f
  owner_seen x f o =
      let p = frame_is o.owner f o.at in
      seen_by a map x ∙ ap (option_and_then (frame_at a map)) o.owns ∙ place_resident (own_of a o.owner) (frame_of map o.owner.0) p.0 ∙ ap (λ (g : ℕ). Some g) p.1

number_is : {X : Type 0} (n p : NodeId) (o : Option X) → option_map (λ _. n) o ≡ Some p → (n ≡ p) × (option_map (λ _. n) o ≡ Some n)
number_is n p None e = absurd (cc e)
number_is n p (Some v) e = (cc e, refl)

module _ (a : Arena) (named : AreNamesApart a) where
  -- without its pages that forest is the one of the own states
  pub owners_bare : bare (owners a) ≡ bare (forest_of a)
  unfolding owners
  owners_bare = bare-of (number_page a) a named (λ n. is_some-map (λ _. n) (state_page a n))

  pub owners_page : (n : NodeId) → HasNode a n → (node (owners a) (name_of a n)).own ≡ number_page a n
  unfolding owners
  owners_page n there = page-at (number_page a) a named n there

  pub owners_node : (n : NodeId) → HasNode a n → IsNode (owners a) (name_of a n)
  unfolding owners
  owners_node n there = IsNode-forest_by a (number_page a) named n there

  pub owners_shaped : IsWellShaped (forest_of a) → IsWellShaped (owners a)
  owners_shaped shaped = bare-shaped (forest_of a) (owners a) (sym owners_bare) shaped

  none_there : (x : NodeName) → ((n : NodeId) → HasNode a n → name_of a n ≢ x) → (node (owners a) x).own ≡ None
  unfolding owners node
  none_there x none = ap (λ o. (unwrap_or o (childless None Root)).own) (get-forest_by_none a (number_page a) x none)

  -- an own page is that of the node that has the name
  pub owner_named : (x : NodeName) (p : NodeId) → (node (owners a) x).own ≡ Some p → HasNode a p × (name_of a p ≡ x)
  owner_named x p e = go (held_or_not a x)
    where
      go : ((n : NodeId) × HasNode a n × (name_of a n ≡ x)) ⊎ ((n : NodeId) → HasNode a n → name_of a n ≢ x) → HasNode a p × (name_of a p ≡ x)
      go (inl f) =
          let page : number_page a f.0 ≡ Some p = sym (owners_page f.0 f.1) ∙ ap (λ y. (node (owners a) y).own) f.2 ∙ e in
          let is : f.0 ≡ p = (number_is f.0 p (state_page a f.0) page).0 in
          (subst (HasNode a) is f.1, ap (name_of a) (sym is) ∙ f.2)
      go (inr none) = absurd (let no : Some p ≡ None = sym e ∙ none_there x none in cc no)

  -- the owner of a node owns its page
  pub owner_value : IsWellShaped (forest_of a) → (n o : NodeId) → HasNode a n → HasNode a o → name_of a o ≡ owner_of (forest_of a) (name_of a n) → value_of (owners a) (name_of a n) ≡ Some o
  owner_value shaped n o here there is =
      let x : NodeName = name_of a n in
      let f : Forest NodeId = owners a in
      let v = has_value f (owners_shaped shaped) x (owners_node n here) in
      let value : value_of f x ≡ Some v.0 = value-IsValue f (owners_shaped shaped).linked v.1 in
      let owner : owner_of f x ≡ name_of a o = sym (owner_of-map no_page f x) ∙ ap (λ g. owner_of g x) owners_bare ∙ owner_of-map no_page (forest_of a) x ∙ sym is in
      let page : number_page a o ≡ value_of f x = sym (owners_page o there) ∙ ap (λ y. (node f y).own) (sym owner) ∙ owners_own_values f (owners_shaped shaped) x (owners_node n here) in
      sym page ∙ (number_is o v.0 (state_page a o) (page ∙ value)).1
