-- Which pages are at hand, from one moment to a later one: none that wasn't, where pages only leave
-- their frames, and where a page is written whose owner was at hand.
use Rattle.local_cache.proofs.Nodes.OwnStates.{id_cases}
use Rattle.std.proofs.Common.{◌≡◌, ◌⊎◌, Bool, true, false, Option, Some, None, is_none, is_some, refl, sym, ap, subst, ◌∙◌, inl, inr, ◌≢◌}
use Rattle.std.specs.Option.{IsSome, option_map_or}
use Rattle.std.proofs.lemmas.Bool.{false≢true}
use Rattle.vm_ids.specs.declared.node_name.NodeName.{NodeName}
use Rattle.vm_ids.specs.declared.numbers.NodeId.{NodeId}
use Rattle.vm_ids.specs.Forest.Nodes.{Forest, IsNode, node, parent, parent_of}
use Rattle.vm_ids.specs.Forest.PageMap.{bare, no_page}
use Rattle.vm_ids.specs.Forest.Reading.{owner_of, value_of}
use Rattle.vm_ids.specs.Forest.Rules.{gets, heir_gets, own}
use Rattle.vm_ids.specs.Forest.Shape.{IsLinked, IsWellShaped}
use Rattle.vm_ids.specs.Forest.Values.{IsValue}
use Rattle.vm_ids.specs.Forest.Values.IsValue.{itself, above}
use Rattle.vm_ids.proofs.Forest.Laws.Owning.{heir_gets_keeps_values, own_keeps_values}
use Rattle.vm_ids.proofs.Forest.Laws.Reading.{owners_own_values, nodes_have_values}
use Rattle.vm_ids.proofs.Forest.Owning.{own-shaped}
use Rattle.vm_ids.proofs.Forest.BareShape.{bare-linked}
use Rattle.vm_ids.proofs.Forest.Columns.{gets-own}
use Rattle.vm_ids.proofs.Forest.Values.{node-count_copy}
use Rattle.vm_ids.proofs.Forest.PageMap.{hang-map, heir_gets-map, is_some-map, own-map, own-rule-map}
use Rattle.vm_ids.proofs.Forest.Reading.{IsValue-value, value-IsValue}
use Rattle.local_cache.specs.declared.home.Home.{Home}
use Rattle.local_cache.specs.declared.own_state.OwnState.{OwnState}
use Rattle.local_cache.specs.declared.own_state.OwnState.TheVariants.{Absent, Zero, Resident, Slot, OnSegment}
use Rattle.local_cache.specs.Arena.{Arena, HasNode}
use Rattle.local_cache.specs.Home.{home_of}
use Rattle.local_cache.specs.Own.{is_absent, own_of}
use Rattle.local_cache.specs.Reading.{forest_of, name_of, page_of}
use Rattle.local_cache.specs.Sound.{IsSound}
use Rattle.local_cache.proofs.Forest.Reading.{IsNode-forest_of, forest_of-IsNode, node-forest_of}
use Rattle.residency.specs.StoreForest.{store_forest}
use Rattle.residency.specs.World.{OthersStay, Still, World, is_out}
use Rattle.residency.proofs.Forests.StillForest.{still_bare, still_caches_sound, still_like, still_tells}
use Rattle.residency.proofs.Worlds.After.{absent_stays}
use Rattle.fault_path.specs.Coming.{IsOfWrite, OnlyCome}
use Rattle.fault_path.specs.Faults.{IsOwner, Kept, is_at_hand, readied}
use Rattle.fault_path.proofs.Calls.Kept.{absent_is, store_bare, store_page}
use Rattle.fault_path.proofs.Frames.TwoFrames.{absent_none, readied_bare, readied_own}
use Rattle.history_tree.proofs.Upward.{itself_owns}
use Rattle.fault_path.proofs.Rules.Heirs.{has_own, heir_absent}
use Rattle.fault_path.proofs.Rules.KeptOwners.{heir_page_from, own_page_from}
use Rattle.pvm_core.proofs.Accesses.Loading.{own_node}
use Rattle.pvm_core.specs.Access.{is_page_at_hand}

none_or_some : {A : Type 0} (o : Option A) → (o ≡ None) ⊎ ((v : A) × (o ≡ Some v))
none_or_some None = inl refl
none_or_some (Some v) = inr (v, refl)

-- One forest after another, with the same nodes and links

module _ (f g : Forest OwnState) (same : bare g ≡ bare f) where
  some_same : (y : NodeName) → is_some (node g y).own ≡ is_some (node f y).own
  some_same y = sym (is_some-map no_page (node g y).own) ∙ ap is_some (sym (own-map no_page g y)) ∙ ap (λ k. is_some (node k y).own) same ∙ ap is_some (own-map no_page f y) ∙ is_some-map no_page (node f y).own

  parent_same : (y : NodeName) → parent f y ≡ parent g y
  parent_same y = sym (ap parent_of (sym (hang-map no_page g y)) ∙ ap (λ k. parent k y) same ∙ ap parent_of (hang-map no_page f y))

  none_same : (y : NodeName) → (node g y).own ≡ None → (node f y).own ≡ None
  none_same y none = elim (none_or_some (node f y).own) [
    | inl e ↦ e
    | inr k ↦ absurd (false≢true (sym (ap is_some none) ∙ some_same y ∙ ap is_some k.1))
  ]

  module _ (linked : IsLinked f) (pages : (y : NodeName) (s : OwnState) → (node g y).own ≡ Some s → is_at_hand s ≡ true → (t : OwnState) × ((node f y).own ≡ Some t) × (is_at_hand t ≡ true)) where
    value_before : {y : NodeName} {s : OwnState} → IsValue g y s → is_at_hand s ≡ true → (t : OwnState) × IsValue f y t × (is_at_hand t ≡ true)
    value_before {y} {s} (itself e) hand = (let p = pages y s e hand in (p.0, itself p.1, p.2))
    value_before {y} (above {p = p} none up r) hand = (let q = value_before r hand in (q.0, above (none_same y none) (parent_same y ∙ up) q.1, q.2))

    -- what is read at hand now was read at hand
    pub hand_before : (x : NodeName) → option_map_or is_at_hand (value_of g x) false ≡ true → option_map_or is_at_hand (value_of f x) false ≡ true
    hand_before x e = go (value_of g x) refl e
      where
        go : (o : Option OwnState) → value_of g x ≡ o → option_map_or is_at_hand o false ≡ true → option_map_or is_at_hand (value_of f x) false ≡ true
        go None is e = absurd (false≢true e)
        go (Some s) is e = (let q = value_before (IsValue-value g x s is) e in ap (λ (o : Option OwnState). option_map_or is_at_hand o false) (value-IsValue f linked q.1) ∙ q.2)

-- a state that is at hand isn't out
hand_in : (home : Option Home) (s : OwnState) → is_at_hand s ≡ true → is_out home s ≡ false
hand_in home Absent e = absurd (cc e)
hand_in None Zero e = refl
hand_in (Some h) Zero e = refl
hand_in None (Resident d) e = refl
hand_in (Some h) (Resident d) e = refl
hand_in home (Slot k) e = absurd (cc e)
hand_in home OnSegment e = absurd (cc e)

state_told : (x s : OwnState) → page_of x ≡ Some s → x ≡ s
state_told Absent s e = absurd (cc e)
state_told Zero s e = cc e
state_told (Resident d) s e = cc e
state_told (Slot k) s e = cc e
state_told OnSegment s e = cc e

told_state : (s : OwnState) → is_absent s ≡ false → page_of s ≡ Some s
told_state Absent e = absurd (cc e)
told_state Zero e = refl
told_state (Resident d) e = refl
told_state (Slot k) e = refl
told_state OnSegment e = refl

told_some : (x s : OwnState) → page_of x ≡ Some s → is_absent s ≡ false
told_some x s e = go s (ap page_of (sym (state_told x s e)) ∙ e)
  where
    go : (s : OwnState) → page_of s ≡ Some s → is_absent s ≡ false
    go Absent e = absurd (cc e)
    go Zero e = refl
    go (Resident d) e = refl
    go (Slot k) e = refl
    go OnSegment e = refl

hand_some : (s : OwnState) → is_at_hand s ≡ true → is_absent s ≡ false
hand_some Absent e = absurd (cc e)
hand_some Zero e = refl
hand_some (Resident d) e = refl
hand_some (Slot k) e = refl
hand_some OnSegment e = refl

-- the node of a name, by its own state
own_told : (a : Arena) → IsSound a → (y : NodeName) (s : OwnState) → (node (forest_of a) y).own ≡ Some s → (n : NodeId) × HasNode a n × (name_of a n ≡ y) × (own_of a n ≡ s)
own_told a sound y s e =
    let at = forest_of-IsNode a y (own_node (forest_of a) y (ap is_some e)) in
    (at.0, at.1, at.2, state_told (own_of a at.0) s (sym (ap (λ k. k.own) (node-forest_of a sound.kept.named at.0 at.1)) ∙ ap (λ z. (node (forest_of a) z).own) at.2 ∙ e))

-- and its own state, by the node
page_there : (a : Arena) → IsSound a → (n : NodeId) → HasNode a n → (y : NodeName) → name_of a n ≡ y → (node (forest_of a) y).own ≡ page_of (own_of a n)
page_there a sound n held y named = ap (λ z. (node (forest_of a) z).own) (sym named) ∙ ap (λ k. k.own) (node-forest_of a sound.kept.named n held)

own_here : {P : Type 0} (f : Forest P) (x : NodeName) → (node (own f x) x).own ≡ value_of f x
unfolding own
own_here f x = ap (λ n. n.own) (node-count_copy (gets f x (value_of f x)) x) ∙ gets-own f x (value_of f x)

-- the own state of the owner is what its node reads
pub owner_read : (a : Arena) → IsSound a → IsWellShaped (forest_of a) → (n o : NodeId) → HasNode a n → IsOwner a n o → value_of (forest_of a) (name_of a n) ≡ page_of (own_of a o)
owner_read a sound shaped n o held owner =
    sym (owners_own_values (forest_of a) shaped (name_of a n) (IsNode-forest_of a sound.kept.named n held))
    ∙ ap (λ y. (node (forest_of a) y).own) (sym owner.name) ∙ page_there a sound o owner.held (name_of a o) refl

-- and the owner has an own page
pub owner_some : (a : Arena) → IsSound a → IsWellShaped (forest_of a) → (n o : NodeId) → HasNode a n → IsOwner a n o → IsSome (page_of (own_of a o))
owner_some a sound shaped n o held owner = subst IsSome (owner_read a sound shaped n o held owner) ((nodes_have_values (forest_of a) shaped (name_of a n)).0 (IsNode-forest_of a sound.kept.named n held))

hand_told : (s : OwnState) → option_map_or is_at_hand (page_of s) false ≡ is_at_hand s
hand_told Absent = refl
hand_told Zero = refl
hand_told (Resident d) = refl
hand_told (Slot k) = refl
hand_told OnSegment = refl

-- so a page is at hand where its owner's is
pub owner_hand : (a : Arena) → IsSound a → IsWellShaped (forest_of a) → (n o : NodeId) → HasNode a n → IsOwner a n o → is_page_at_hand a (name_of a n) ≡ is_at_hand (own_of a o)
owner_hand a sound shaped n o held owner = ap (λ (u : Option OwnState). option_map_or is_at_hand u false) (owner_read a sound shaped n o held owner) ∙ hand_told (own_of a o)

-- a node with an own page is its owner
same_owner : (a : Arena) → IsSound a → IsWellShaped (forest_of a) → (n o m : NodeId) → IsOwner a n o → HasNode a m → m ≡ n → is_absent (own_of a m) ≡ false → m ≡ o
same_owner a sound shaped n o m owner held is some =
    sound.kept.named.apart m o held owner.held (sym (itself_owns a sound shaped m held (ap is_none (told_state (own_of a m) some))) ∙ ap (λ (k : NodeId). owner_of (forest_of a) (name_of a k)) is ∙ sym owner.name)

-- Where each node has the page that it had

module _ (w v : World) (still : Still w v) (sound : IsSound w.caches) (shaped : IsWellShaped (forest_of w.caches)) where
  module _ (states : (n : NodeId) → HasNode w.caches n → is_at_hand (own_of v.caches n) ≡ true → is_at_hand (own_of w.caches n) ≡ true) where
    still_hand : (x : NodeName) → is_page_at_hand v.caches x ≡ true → is_page_at_hand w.caches x ≡ true
    still_hand = hand_before (forest_of w.caches) (forest_of v.caches) (sym (still_bare w.caches v.caches still.stays.caches sound.kept.named (still_tells w v still))) sound.linked (λ y s e hand.
        let k = own_told v.caches (still_caches_sound w v still sound) y s e in
        let like = still_like w.caches v.caches still.stays.caches in
        let held : HasNode w.caches k.0 = sym (like.held k.0) ∙ k.1 in
        let was = states k.0 held (ap is_at_hand k.3 ∙ hand) in
        (own_of w.caches k.0, page_there w.caches sound k.0 held y (sym (like.name k.0) ∙ k.2) ∙ told_state (own_of w.caches k.0) (hand_some (own_of w.caches k.0) was), was))

  -- pages leave their frames alone
  pub failed_hand : OthersStay w v → (x : NodeName) → is_page_at_hand v.caches x ≡ true → is_page_at_hand w.caches x ≡ true
  failed_hand others = still_hand (λ n held now. (let stays = others.states n in ap is_at_hand (sym (stays.here (hand_in (home_of w.caches n) (own_of v.caches n) now))) ∙ now))

  -- or a page in a frame becomes dirty
  pub dirtied_hand : (k : NodeId) → is_at_hand (own_of w.caches k) ≡ true → ((m : NodeId) → m ≢ k → own_of v.caches m ≡ own_of w.caches m) → (x : NodeName) → is_page_at_hand v.caches x ≡ true → is_page_at_hand w.caches x ≡ true
  dirtied_hand k hand others = still_hand (λ n held now. elim (id_cases n k) [
    | inl e ↦ ap (λ (m : NodeId). is_at_hand (own_of w.caches m)) e ∙ hand
    | inr d ↦ ap is_at_hand (sym (others n d)) ∙ now
  ])

  -- or a page wasn't readied whose owner is at hand
  module _ (n o : NodeId) (owner : IsOwner w.caches n o) (hand : is_at_hand (own_of w.caches o) ≡ true) where
    pub missed_hand : OnlyCome (IsOfWrite w.caches n o) w v → (x : NodeName) → is_page_at_hand v.caches x ≡ true → is_page_at_hand w.caches x ≡ true
    missed_hand come = still_hand (λ m held now. elim (come.states m) [
      | inl stays ↦ ap is_at_hand (sym (stays.here (hand_in (home_of w.caches m) (own_of v.caches m) now))) ∙ now
      | inr may ↦ elim may [
        | inl is ↦ (
            let some : is_absent (own_of w.caches m) ≡ false = sym (absent_stays w v still m) ∙ hand_some (own_of v.caches m) now in
            ap (λ (k : NodeId). is_at_hand (own_of w.caches k)) (same_owner w.caches sound shaped n o m owner held is some) ∙ hand)
        | inr rest ↦ elim rest [
          | inl is ↦ absurd (false≢true (sym (hand_some (own_of v.caches m) now) ∙ absent_stays w v still m ∙ ap is_absent (heir_absent w.caches sound (name_of w.caches n) m held is)))
          | inr away ↦ absurd (false≢true (sym away.1 ∙ hand))
        ]
      ]
    ])

-- Where a page was readied whose owner was at hand

module _ (w v : World) (kept : Kept w v) (sound : IsSound w.caches) (shaped : IsWellShaped (forest_of w.caches)) (n o : NodeId) (there : HasNode w.caches n) (owner : IsOwner w.caches n o) (hand : is_at_hand (own_of w.caches o) ≡ true) (come : OnlyCome (IsOfWrite w.caches n o) w v) where
  abbrev f : Forest OwnState
  f = forest_of w.caches

  abbrev x : NodeName
  x = name_of w.caches n

  abbrev page : OwnState
  page = own_of w.caches o

  f_bare : bare (forest_of w.caches) ≡ bare (store_forest w)
  f_bare = sym (store_bare w sound)

  owner_is : value_of (forest_of w.caches) (name_of w.caches n) ≡ Some (own_of w.caches o)
  owner_is = owner_read w.caches sound shaped n o there owner ∙ told_state (own_of w.caches o) (hand_some (own_of w.caches o) hand)

  -- the own state of a node whose page stays, as its forest tells it
  stayed : (t s : OwnState) (m : NodeId) → HasNode w.caches m → own_of w.caches m ≡ t → is_absent t ≡ false → own_of v.caches m ≡ s → is_at_hand s ≡ true → is_at_hand t ≡ true
  stayed t s m held was some now at = elim (come.states m) [
    | inl stays ↦ ap is_at_hand (sym was ∙ sym (stays.here (hand_in (home_of w.caches m) (own_of v.caches m) (ap is_at_hand now ∙ at))) ∙ now) ∙ at
    | inr may ↦ elim may [
      | inl is ↦ ap is_at_hand (sym was) ∙ ap (λ (k : NodeId). is_at_hand (own_of w.caches k)) (same_owner w.caches sound shaped n o m owner held is (ap is_absent was ∙ some)) ∙ hand
      | inr rest ↦ elim rest [
        | inl is ↦ absurd (false≢true (sym (ap is_absent was ∙ some) ∙ ap is_absent (heir_absent w.caches sound (name_of w.caches n) m held is)))
        | inr away ↦ absurd (false≢true (sym away.1 ∙ hand))
      ]
    ]
  ]

  -- a forest of own states that changed by the same rule
  by_rule : (g : Forest OwnState) → bare g ≡ bare (forest_of v.caches) → ((y : NodeName) → value_of g y ≡ value_of (forest_of w.caches) y) → ((y : NodeName) (t : OwnState) → (node g y).own ≡ Some t → ((node (forest_of w.caches) y).own ≡ Some t) ⊎ (t ≡ own_of w.caches o))
      → (y : NodeName) → is_page_at_hand v.caches y ≡ true → is_page_at_hand w.caches y ≡ true
  by_rule g same values from y e = ap (λ (u : Option OwnState). option_map_or is_at_hand u false) (sym (values y)) ∙ hand_before g (forest_of v.caches) (sym same) (bare-linked (forest_of v.caches) g (sym same) kept.sound.linked) pages y e
    where
      pages : (y : NodeName) (s : OwnState) → (node (forest_of v.caches) y).own ≡ Some s → is_at_hand s ≡ true → (t : OwnState) × ((node g y).own ≡ Some t) × (is_at_hand t ≡ true)
      pages y s e at = elim (none_or_some (node g y).own) [
        | inl none ↦ absurd (false≢true (sym (ap is_some none) ∙ sym (some_same g (forest_of v.caches) (sym same) y) ∙ ap is_some e))
        | inr k ↦ elim (from y k.0 k.1) [
          | inr is ↦ (k.0, k.1, ap is_at_hand is ∙ hand)
          | inl old ↦ (
              let j = own_told v.caches kept.sound y s e in
              let held : HasNode w.caches j.0 = sym (kept.nodes.held j.0) ∙ j.1 in
              let is : page_of (own_of w.caches j.0) ≡ Some k.0 = sym (page_there w.caches sound j.0 held y (sym (kept.nodes.name j.0) ∙ j.2)) ∙ old in
              (k.0, k.1, stayed k.0 s j.0 held (state_told (own_of w.caches j.0) k.0 is) (told_some (own_of w.caches j.0) k.0 is) j.3 at))
        ]
      ]

  pub written_hand : store_forest v ≡ readied (store_forest w) (name_of w.caches n) → (y : NodeName) → is_page_at_hand v.caches y ≡ true → is_page_at_hand w.caches y ≡ true
  written_hand follows = go (is_absent (own_of w.caches n)) refl
    where
      x_there : IsNode (forest_of w.caches) (name_of w.caches n)
      x_there = IsNode-forest_of w.caches sound.kept.named n there

      go : (b : Bool) → is_absent (own_of w.caches n) ≡ b → (y : NodeName) → is_page_at_hand v.caches y ≡ true → is_page_at_hand w.caches y ≡ true
      go true e =
          let bare_page = store_page w sound n there ∙ absent_none w n (absent_is (own_of w.caches n) e) in
          let g : Forest OwnState = own f x in
          let g_shaped = own-shaped f shaped x x_there in
          let is_own : (node g x).own ≡ Some page = own_here f x ∙ owner_is in
          by_rule (heir_gets g x)
          (heir_gets-map no_page g x ∙ ap (λ k. heir_gets k x) (own-rule-map no_page f x ∙ ap (λ k. own k x) f_bare ∙ sym (own-rule-map no_page (store_forest w) x))
          ∙ sym (heir_gets-map no_page (own (store_forest w) x) x) ∙ ap bare (readied_bare (store_forest w) x bare_page ∙ sym follows) ∙ store_bare v kept.sound)
          (λ y. heir_gets_keeps_values g g_shaped x page is_own y ∙ own_keeps_values f shaped x x_there y)
          (λ y t is. elim (heir_page_from g g_shaped.linked x page is_own y t is) [
            | inr new ↦ inr (sym new)
            | inl old ↦ elim (own_page_from f x y t old) [
              | inl first ↦ inl first
              | inr second ↦ inr (let same : Some t ≡ Some page = sym second ∙ owner_is in cc same)
            ]
          ])
      go false e =
          let own_page = ap is_some (store_page w sound n there) ∙ has_own w n e in
          let same : n ≡ o = same_owner w.caches sound shaped n o n owner there refl e in
          let is_own : (node f x).own ≡ Some page = page_there w.caches sound n there x refl ∙ ap (λ (k : NodeId). page_of (own_of w.caches k)) same ∙ told_state page (hand_some page hand) in
          by_rule (heir_gets f x)
          (heir_gets-map no_page f x ∙ ap (λ k. heir_gets k x) f_bare ∙ sym (heir_gets-map no_page (store_forest w) x) ∙ ap bare (readied_own (store_forest w) x own_page ∙ sym follows) ∙ store_bare v kept.sound)
          (heir_gets_keeps_values f shaped x page is_own)
          (λ y t is. elim (heir_page_from f shaped.linked x page is_own y t is) [
            | inl old ↦ inl old
            | inr new ↦ inr (sym new)
          ])
