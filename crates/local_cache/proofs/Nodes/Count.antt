-- There are as many nodes of the forest as own states: each node of the arena has its name, and no
-- two of them one.
use Rattle.std.proofs.Common.{◌≡◌, ℕ, ◌+◌, ◌≤◌, Bool, true, false, cond, ◌&&◌, List, [], ◌∷◌, length, map, Some, None, is_some, refl, sym, ap, ◌∙◌, subst, inl, inr, arith}
use Rattle.std.specs.Prelude.{T}
use Rattle.std.proofs.lemmas.Bool.{false≢true}
use Rattle.std.proofs.lemmas.List.{length-map}
use Rattle.std.specs.declared.cmp.Ordering.{Ordering}
use Rattle.std.specs.declared.cmp.Ordering.TheVariants.{Less, Equal, Greater}
use Rattle.std.specs.Ordering.{eq_by_cmp, is_eq, is_lt, nat_cmp}
use Rattle.std.specs.FinMap.{entries, entries_sorted, get-entries}
use Rattle.std.specs.FinMap as ids
use Rattle.std.specs.FinMap.Entries.{below_all, find as look_up, is_sorted}
use Rattle.vm_ids.specs.declared.node_name.NodeName.{NodeName}
use Rattle.vm_ids.specs.declared.numbers.NodeId.{NodeId}
use Rattle.vm_ids.specs.Forest.NameLists.{◌∈◌, Once}
use Rattle.vm_ids.specs.Forest.NameMap.{contains_key, empty, from_entries, keys, len}
use Rattle.vm_ids.specs.Forest.Nodes.{Node}
use Rattle.vm_ids.proofs.Forest.Agreeing.{subset_le}
use Rattle.vm_ids.proofs.Forest.Bound.{IsNode-key}
use Rattle.vm_ids.proofs.Forest.NameMap.{len-insert}
use Rattle.local_cache.specs.declared.own_state.OwnState.{OwnState}
use Rattle.local_cache.specs.Arena.{Arena, Cell, HasNode}
use Rattle.local_cache.specs.Own.{own_states}
use Rattle.local_cache.specs.Reading.{AreNamesApart, at_key, forest_of, name_of, node_of}
use Rattle.local_cache.proofs.Forest.Reading.{IsNode-forest_of}
use Rattle.local_cache.proofs.Nodes.Numbers.{tied}

-- There are no more nodes of the forest than own states

one_more : (b : Bool) (n k : ℕ) → n ≤ k → cond b n (n + 1) ≤ k + 1
one_more true n k e = omega (arith, e)
one_more false n k e = omega (arith, e)

entries_len : {X : Type 0} (es : List (NodeName × X)) → len (from_entries es) ≤ length es
unfolding from_entries empty
entries_len [] = omega arith
entries_len (e ∷ es) = omega (arith, len-insert (from_entries es) e.0 e.1, one_more (contains_key (from_entries es) e.0) (len (from_entries es)) (length es) (entries_len es))

pub keys_states : (a : Arena) → length (own_states a) ≡ length (ids.keys a.cells)
keys_states a = length-map (ids.values a.cells) (λ c. c.own) ∙ length-map (ids.entries a.cells) (λ e. e.1) ∙ sym (length-map (ids.entries a.cells) (λ e. e.0))

-- there are no more names than nodes
pub forest_len : (a : Arena) → len (forest_of a).nodes ≤ length (own_states a)
unfolding forest_of
forest_len a =
    let most = entries_len (map (λ k. (name_of a (at_key k), node_of a (at_key k))) (ids.keys a.cells)) in
    let many = length-map {B = NodeName × Node OwnState} (ids.keys a.cells) (λ k. (name_of a (at_key k), node_of a (at_key k))) in
    omega (arith, most, many, keys_states a)

-- And no fewer

and_left : (a b : Bool) → T (a && b) → T a
and_left true b h = tt
and_left false b h = h

and_right : (a b : Bool) → T (a && b) → T b
and_right true b h = h
and_right false b h = absurd h

lower_apart : (o : Ordering) → T (is_lt o) → is_eq o ≡ false
lower_apart Less h = refl
lower_apart Equal h = absurd h
lower_apart Greater h = absurd h

-- a key below all others is none of them
not_below : (k : ℕ) (es : List (ℕ × Cell)) → T (below_all nat_cmp k es) → look_up nat_cmp k es ≡ None
not_below k [] h = refl
not_below k (e ∷ es) h = ap (λ b. cond b (Some e.1) (look_up nat_cmp k es)) (lower_apart (nat_cmp k e.0) (and_left _ _ h)) ∙ not_below k es (and_right _ _ h)

module _ (a : Arena) (named : AreNamesApart a) where
  abbrev names : List (ℕ × Cell) → List NodeName
  names es = map (λ (e : ℕ × Cell). name_of a (at_key e.0)) es

  abbrev AllHeld : List (ℕ × Cell) → Type 0
  AllHeld es = (k : ℕ) → is_some (look_up nat_cmp k es) ≡ true → HasNode a (at_key k)

  at_front : (e : ℕ × Cell) (es : List (ℕ × Cell)) → is_some (look_up nat_cmp e.0 (e ∷ es)) ≡ true
  at_front e es = ap (λ b. is_some (cond b (Some e.1) (look_up nat_cmp e.0 es))) (tied e.0 e.0 refl)

  behind : (e : ℕ × Cell) (es : List (ℕ × Cell)) (k : ℕ) → is_some (look_up nat_cmp k es) ≡ true → is_some (look_up nat_cmp k (e ∷ es)) ≡ true
  behind e es k h = go (eq_by_cmp nat_cmp k e.0)
    where
      go : (b : Bool) → is_some (cond b (Some e.1) (look_up nat_cmp k es)) ≡ true
      go true = refl
      go false = h

  -- where a name comes from
  named_at : (es : List (ℕ × Cell)) (x : NodeName) → x ∈ names es → (k : ℕ) × (is_some (look_up nat_cmp k es) ≡ true) × (x ≡ name_of a (at_key k))
  named_at [] x i = absurd i
  named_at (e ∷ es) x (inl q) = (e.0, at_front e es, q)
  named_at (e ∷ es) x (inr i) = let f = named_at es x i in (f.0, behind e es f.0 f.1, f.2)

  Once-names : (es : List (ℕ × Cell)) → T (is_sorted nat_cmp es) → AllHeld es → Once (names es)
  Once-names [] sorted held = tt
  Once-names (e ∷ es) sorted held = (
    λ i.
        let f = named_at es (name_of a (at_key e.0)) i in
        let same : at_key e.0 ≡ at_key f.0 = named.apart (at_key e.0) (at_key f.0) (held e.0 (at_front e es)) (held f.0 (behind e es f.0 f.1)) f.2 in
        let key : e.0 ≡ f.0 = ap (λ (n : NodeId). n.0) same in
        false≢true (sym (ap is_some (not_below e.0 es (and_left _ _ sorted))) ∙ ap (λ k. is_some (look_up nat_cmp k es)) key ∙ f.1),
    Once-names es (and_right _ _ sorted) (λ k h. held k (behind e es k h)),
  )

  all_held : AllHeld (entries a.cells)
  all_held k h = ap is_some (get-entries a.cells k) ∙ h

  -- there are no more nodes than names
  pub states_most : length (own_states a) ≤ len (forest_of a).nodes
  states_most =
      let most = subset_le (names (entries a.cells)) (keys (forest_of a).nodes) (Once-names (entries a.cells) (entries_sorted a.cells) all_held)
      (λ x i. (let f = named_at (entries a.cells) x i in subst (λ y. y ∈ keys (forest_of a).nodes) (sym f.2) (IsNode-key (forest_of a) (name_of a (at_key f.0)) (IsNode-forest_of a named (at_key f.0) (all_held f.0 f.1))))) in
      omega (arith, most, length-map (entries a.cells) (λ (e : ℕ × Cell). name_of a (at_key e.0)), length-map (map (λ (e : ℕ × Cell). e.1) (entries a.cells)) (λ (c : Cell). c.own), length-map (entries a.cells) (λ (e : ℕ × Cell). e.1), length-map (forest_of a).nodes.list (λ e. e.0))
