-- What the forest of the caches has at a name, and when it is a given forest.
use Rattle.std.proofs.Common.{◌≡◌, ◌≢◌, ◌⊎◌, ℕ, Bool, true, false, cond, ◌||◌, List, [], ◌∷◌, map, Option, Some, None, is_some, unwrap_or, refl, sym, ap, ◌∙◌, subst, inl, inr}
use Rattle.std.proofs.lemmas.Bool.{cases_eq, false≢true}
use Rattle.std.specs.List.{list_any}
use Rattle.std.specs.Ordering.{nat_cmp, eq_by_cmp}
use Rattle.std.specs.FinMap as ids
use Rattle.std.specs.FinMap.{contains_key-keys}
use Rattle.std.specs.FinMap.Entries.{find}
use Rattle.vm_ids.specs.declared.node_name.NodeName.{NodeName}
use Rattle.vm_ids.specs.Forest.Names.{same, name_cmp}
use Rattle.vm_ids.proofs.Forest.Names.{name_cases, same_itself, same_apart}
use Rattle.vm_ids.specs.Forest.NameMap as names
use Rattle.vm_ids.specs.Forest.NameMap.{NameMap}
use Rattle.vm_ids.proofs.Forest.NameMap.{get-from_entries, same_map}
use Rattle.vm_ids.specs.Forest.Nodes.{Forest, Node, node, IsNode, childless}
use Rattle.vm_ids.specs.Forest.Nodes.Hang.{Root}
use Rattle.vm_ids.specs.declared.numbers.NodeId.{NodeId}
use Rattle.local_cache.specs.declared.own_state.OwnState.{OwnState}
use Rattle.local_cache.specs.Arena.{Arena, HasNode}
use Rattle.local_cache.specs.Reading.{name_of, node_of, at_key, forest_of, AreNamesApart}
use Rattle.local_cache.specs.ReadingBy.{forest_by, node_with, state_page}
use Rattle.local_cache.proofs.Nodes.Numbers.{tied, apart}

-- k is one of the keys
abbrev HasKey : List ℕ → ℕ → Type 0
HasKey ks k = list_any (eq_by_cmp nat_cmp k) ks ≡ true

has_front : (k : ℕ) (ks : List ℕ) → HasKey (k ∷ ks) k
has_front k ks = ap (λ b. b || list_any (eq_by_cmp nat_cmp k) ks) (tied k k refl)

has_back : (k m : ℕ) (ks : List ℕ) → HasKey ks m → HasKey (k ∷ ks) m
has_back k m ks h = or_true (eq_by_cmp nat_cmp m k) _ h
  where
    or_true : (b c : Bool) → c ≡ true → (b || c) ≡ true
    or_true true c e = refl
    or_true false c e = e

has_rest : (k m : ℕ) (ks : List ℕ) → HasKey (k ∷ ks) m → m ≢ k → HasKey ks m
has_rest k m ks h ne = sym (ap (λ b. b || list_any (eq_by_cmp nat_cmp m) ks) (apart m k ne)) ∙ h

module _ (a : Arena) where
  module _ {X : Type 0} (read : NodeId → X) where
    abbrev entries_of : List ℕ → List (NodeName × X)
    entries_of ks = map (λ k. (name_of a (at_key k), read (at_key k))) ks

    found : (ks : List ℕ) (n : ℕ) → HasKey ks n → ((m : ℕ) → HasKey ks m → name_of a (at_key m) ≡ name_of a (at_key n) → m ≡ n)
        → find name_cmp (name_of a (at_key n)) (map (λ k. (name_of a (at_key k), read (at_key k))) ks) ≡ Some (read (at_key n))
    unfolding same
    found [] n h once = absurd (false≢true h)
    found (k ∷ ks) n h once =
        elim (name_cases (name_of a (at_key n)) (name_of a (at_key k))) [
          | inl e ↦
              let k_is : k ≡ n = once k (has_front k ks) (sym e) in
              ap (λ b. cond b (Some (read (at_key k))) (find name_cmp (name_of a (at_key n)) (entries_of ks))) (ap (same (name_of a (at_key n))) (sym e) ∙ same_itself (name_of a (at_key n)))
              ∙ ap (λ j. Some (read (at_key j))) k_is
          | inr ne ↦
              ap (λ b. cond b (Some (read (at_key k))) (find name_cmp (name_of a (at_key n)) (entries_of ks))) (same_apart (name_of a (at_key n)) (name_of a (at_key k)) ne)
              ∙ found ks n (has_rest k n ks h (λ e. ne (ap (λ j. name_of a (at_key j)) e))) (λ m g. once m (has_back k m ks g))
        ]

    not_found : (ks : List ℕ) (x : NodeName) → ((m : ℕ) → HasKey ks m → name_of a (at_key m) ≢ x)
        → find name_cmp x (map (λ k. (name_of a (at_key k), read (at_key k))) ks) ≡ None
    unfolding same
    not_found [] x none = refl
    not_found (k ∷ ks) x none =
        ap (λ b. cond b (Some (read (at_key k))) (find name_cmp x (entries_of ks))) (same_apart x (name_of a (at_key k)) (λ e. none k (has_front k ks) (sym e)))
        ∙ not_found ks x (λ m g. none m (has_back k m ks g))

  named_or_not : (ks : List ℕ) (x : NodeName) → ((m : ℕ) × HasKey ks m × (name_of a (at_key m) ≡ x)) ⊎ ((m : ℕ) → HasKey ks m → name_of a (at_key m) ≢ x)
  named_or_not [] x = inr (λ m h e. false≢true h)
  named_or_not (k ∷ ks) x =
      elim (name_cases (name_of a (at_key k)) x) [
        | inl e ↦ inl (k, has_front k ks, e)
        | inr ne ↦ elim (named_or_not ks x) [
          | inl found ↦ inl (found.0, has_back k found.0 ks found.1, found.2)
          | inr none ↦ inr (λ m h. elim (cases_eq m k) [
            | inl e ↦ λ g. ne (ap (λ j. name_of a (at_key j)) (sym e) ∙ g)
            | inr apart ↦ none m (has_rest k m ks h apart)
          ])
        ]
      ]

  key_of : (n : NodeId) → HasNode a n → HasKey (ids.keys a.cells) n.0
  key_of n h = sym (contains_key-keys a.cells n.0) ∙ h

  held : (k : ℕ) → HasKey (ids.keys a.cells) k → HasNode a (at_key k)
  held k h = contains_key-keys a.cells k ∙ h

  module _ {P : Type 0} (page : NodeId → Option P) where
    pub get-forest_by : AreNamesApart a → (n : NodeId) → HasNode a n → names.get (forest_by page a).nodes (name_of a n) ≡ Some (node_with a n (page n))
    unfolding forest_by
    get-forest_by named n h = get-from_entries _ (name_of a n) ∙ found (λ m. node_with a m (page m)) (ids.keys a.cells) n.0 (key_of n h) (λ m g e. ap (λ n. n.0) (named.apart (at_key m) n (held m g) h e))

    pub get-forest_by_none : (x : NodeName) → ((n : NodeId) → HasNode a n → name_of a n ≢ x) → names.get (forest_by page a).nodes x ≡ None
    unfolding forest_by
    get-forest_by_none x none = get-from_entries _ x ∙ not_found (λ m. node_with a m (page m)) (ids.keys a.cells) x (λ m g. none (at_key m) (held m g))

    pub node-forest_by : AreNamesApart a → (n : NodeId) → HasNode a n → node (forest_by page a) (name_of a n) ≡ node_with a n (page n)
    unfolding node
    node-forest_by named n h = ap (λ o. unwrap_or o (childless None Root)) (get-forest_by named n h)

    pub IsNode-forest_by : AreNamesApart a → (n : NodeId) → HasNode a n → IsNode (forest_by page a) (name_of a n)
    IsNode-forest_by named n h = ap is_some (get-forest_by named n h)

  -- the forest of own states is one such forest
  pub forest_of-by : forest_of a ≡ forest_by (state_page a) a
  unfolding forest_of forest_by
  forest_of-by = refl

  pub get-forest_of : AreNamesApart a → (n : NodeId) → HasNode a n → names.get (forest_of a).nodes (name_of a n) ≡ Some (node_of a n)
  get-forest_of named n h = ap (λ f. names.get f.nodes (name_of a n)) forest_of-by ∙ get-forest_by (state_page a) named n h

  pub get-forest_of_none : (x : NodeName) → ((n : NodeId) → HasNode a n → name_of a n ≢ x) → names.get (forest_of a).nodes x ≡ None
  get-forest_of_none x none = ap (λ f. names.get f.nodes x) forest_of-by ∙ get-forest_by_none (state_page a) x none

  -- each name is that of a held node, or of none
  pub held_or_not : (x : NodeName) → ((n : NodeId) × HasNode a n × (name_of a n ≡ x)) ⊎ ((n : NodeId) → HasNode a n → name_of a n ≢ x)
  held_or_not x = elim (named_or_not (ids.keys a.cells) x) [
    | inl f ↦ inl (at_key f.0, held f.0 f.1, f.2)
    | inr none ↦ inr (λ n h. none n.0 (key_of n h))
  ]

  pub node-forest_of : AreNamesApart a → (n : NodeId) → HasNode a n → node (forest_of a) (name_of a n) ≡ node_of a n
  unfolding node
  node-forest_of named n h = ap (λ o. unwrap_or o (childless None Root)) (get-forest_of named n h)

  pub IsNode-forest_of : AreNamesApart a → (n : NodeId) → HasNode a n → IsNode (forest_of a) (name_of a n)
  IsNode-forest_of named n h = ap is_some (get-forest_of named n h)

  pub forest_of-IsNode : (x : NodeName) → IsNode (forest_of a) x → (n : NodeId) × HasNode a n × (name_of a n ≡ x)
  forest_of-IsNode x is = elim (held_or_not x) [ inl f ↦ f | inr none ↦ absurd (false≢true (sym (ap is_some (get-forest_of_none x none)) ∙ is)) ]

  -- the forest that is read is g, where g has the held nodes and no other
  pub reads_as : AreNamesApart a → (g : Forest OwnState) → a.made ≡ g.made → a.copies ≡ g.copies
      → ((n : NodeId) → HasNode a n → IsNode g (name_of a n) × (node g (name_of a n) ≡ node_of a n))
      → ((x : NodeName) → IsNode g x → (n : NodeId) × HasNode a n × (name_of a n ≡ x))
      → forest_of a ≡ g
  unfolding forest_of node
  reads_as named g made copies there only =
      let same_nodes : (forest_of a).nodes ≡ g.nodes = same_map (forest_of a).nodes g.nodes (λ x. alike x (held_or_not x)) in
      λ i. record { nodes = same_nodes i; made = made i; copies = copies i }
    where
      whole : (x : NodeName) (v : Node OwnState) → IsNode g x → node g x ≡ v → names.get g.nodes x ≡ Some v
      whole x v is e = by_option (names.get g.nodes x) v is e
        where
          by_option : (o : Option (Node OwnState)) (v : Node OwnState) → is_some o ≡ true → unwrap_or o (childless None Root) ≡ v → o ≡ Some v
          by_option (Some w) v is e = ap Some e
          by_option None v is e = absurd (false≢true is)

      nothing : (o : Option (Node OwnState)) → (is_some o ≡ true → ⊥) → o ≡ None
      nothing (Some w) h = absurd (h refl)
      nothing None h = refl

      alike : (x : NodeName) → ((n : NodeId) × HasNode a n × (name_of a n ≡ x)) ⊎ ((n : NodeId) → HasNode a n → name_of a n ≢ x) → names.get (forest_of a).nodes x ≡ names.get g.nodes x
      alike x (inl f) = subst (λ y. names.get (forest_of a).nodes y ≡ names.get g.nodes y) f.2 (get-forest_of named f.0 f.1 ∙ sym (whole (name_of a f.0) (node_of a f.0) (there f.0 f.1).0 (there f.0 f.1).1))
      alike x (inr none) = get-forest_of_none x none ∙ sym (nothing (names.get g.nodes x) (λ is. let f = only x is in none f.0 f.1 f.2))
