-- A working node comes between a source and its history, and d becomes its second child.
use Rattle.std.proofs.Common.{◌≡◌, ℕ, ◌+◌, ◌*◌, ◌<◌, ◌≤◌, List, [], ◌∷◌, length, ◌≢◌, true, cond, ◌⊎◌, Option, Some, None, is_some, refl, sym, ap, subst, ◌∙◌, inl, inr, arith, unwrap_or}
use Rattle.vm_ids.specs.declared.node_name.NodeName.{NodeName}
use Rattle.vm_ids.specs.Forest.Names.{same}
use Rattle.vm_ids.proofs.Forest.Names.{name_cases, same_itself, same_apart}
use Rattle.vm_ids.specs.Forest.NameLists.{◌∈◌, Once}
use Rattle.vm_ids.specs.Forest.NameMap.{get}
use Rattle.vm_ids.specs.Forest.Nodes.{Node, Forest, node, parent, parent_of, childless, IsNode, most_tree_children}
use Rattle.vm_ids.specs.Forest.Shape.{IsLinked, IsRanked}
use Rattle.vm_ids.specs.Forest.Changes.{set_tree, count_working}
use Rattle.vm_ids.specs.Forest.Values.{IsValue}
use Rattle.vm_ids.specs.Forest.Nodes.Hang.{Root, TreeOf, StubOf}
use Rattle.vm_ids.proofs.Forest.NodesAfter.{node-put, node-put_other, keeps, hang_all-keeps, hang_all-in, hang_all-out}
use Rattle.vm_ids.proofs.Forest.Fitting.{parent_cases}
use Rattle.vm_ids.proofs.Forest.Values.{values_from}
use Rattle.vm_ids.specs.Forest.Values.IsValue.{itself, above}

module _ {P : Type 0} where
  pub node-none : (f : Forest P) (x : NodeName) → (IsNode f x → ⊥) → node f x ≡ childless None Root
  unfolding node
  node-none f x is = go (get f.nodes x) is
    where
      go : (o : Option (Node P)) → (is_some o ≡ true → ⊥) → unwrap_or o (childless None Root) ≡ childless None Root
      go None is = refl
      go (Some n) is = absurd (is refl)

  pub node-count_working : (f : Forest P) (y : NodeName) → node (count_working f) y ≡ node f y
  unfolding node
  node-count_working f y = refl

  pub set_tree-own : (f : Forest P) (p : NodeName) (xs : List NodeName) (y : NodeName) → (node (set_tree f p xs) y).own ≡ (node f y).own
  unfolding set_tree
  set_tree-own f p xs y = hang_all-keeps (λ n. n.own) (λ n h. refl) _ xs _ y ∙ keeps (λ n. n.own) f p _ refl y

  pub set_tree-stubs : (f : Forest P) (p : NodeName) (xs : List NodeName) (y : NodeName) → (node (set_tree f p xs) y).stubs ≡ (node f y).stubs
  unfolding set_tree
  set_tree-stubs f p xs y = hang_all-keeps (λ n. n.stubs) (λ n h. refl) _ xs _ y ∙ keeps (λ n. n.stubs) f p _ refl y

  pub set_tree-tree : (f : Forest P) (p : NodeName) (xs : List NodeName) → (node (set_tree f p xs) p).tree ≡ xs
  unfolding set_tree
  set_tree-tree f p xs = hang_all-keeps (λ n. n.tree) (λ n h. refl) _ xs _ p ∙ ap (λ n. n.tree) (node-put f p _)

  pub set_tree-tree_other : (f : Forest P) (p : NodeName) (xs : List NodeName) (y : NodeName) → y ≢ p → (node (set_tree f p xs) y).tree ≡ (node f y).tree
  unfolding set_tree
  set_tree-tree_other f p xs y apart = hang_all-keeps (λ n. n.tree) (λ n h. refl) _ xs _ y ∙ ap (λ n. n.tree) (node-put_other f p y _ apart)

  pub set_tree-hang : (f : Forest P) (p : NodeName) (xs : List NodeName) (y : NodeName) → y ∈ xs → (node (set_tree f p xs) y).hang ≡ TreeOf p
  unfolding set_tree
  set_tree-hang f p xs y i = hang_all-in _ xs _ y i

  pub set_tree-hang_other : (f : Forest P) (p : NodeName) (xs : List NodeName) (y : NodeName) → (y ∈ xs → ⊥) → (node (set_tree f p xs) y).hang ≡ (node f y).hang
  unfolding set_tree
  set_tree-hang_other f p xs y out = hang_all-out _ xs _ y out ∙ keeps (λ n. n.hang) f p _ refl y

-- w comes between s, with the only tree child h, and h; and d becomes the second child of w
module _ {P : Type 0} (f : Forest P) (linked : IsLinked f) (d s h w : NodeName)
    (bare_d : node f d ≡ childless None Root) (bare_w : node f w ≡ childless None Root)
    (d_s : d ≢ s) (w_s : w ≢ s) (w_d : w ≢ d) (tree_is : (node f s).tree ≡ h ∷ []) (two : most_tree_children w ≡ 2) (one : most_tree_children s ≡ 1) where
  h_hangs : (node f h).hang ≡ TreeOf s
  h_hangs = (linked.tree_links h s).0 (subst (λ xs. h ∈ xs) (sym tree_is) (inl refl))

  -- a name that is bare is not h, s, or above anything
  not_h : (x : NodeName) → node f x ≡ childless None Root → x ≢ h
  not_h x bare e = let m = ap (λ z. (node f z).hang) e in let r = ap (λ n. n.hang) bare in cc h_hangs

  above_none : (x y : NodeName) → node f x ≡ childless None Root → parent f y ≡ Some x → ⊥
  above_none x y bare up = elim (parent_cases f linked y x up) [
    | inl t ↦ subst (λ n. y ∈ n.tree) bare ((linked.tree_links y x).1 t)
    | inr t ↦ subst (λ n. y ∈ n.stubs) bare ((linked.stub_links y x).1 t)
  ]

  unfoldable pub linked_in : Forest P
  linked_in = set_tree (set_tree f s (w ∷ [])) w (h ∷ d ∷ [])

  own_is : (y : NodeName) → (node linked_in y).own ≡ (node f y).own
  unfolding linked_in
  own_is y = set_tree-own _ w _ y ∙ set_tree-own f s _ y

  stubs_is : (y : NodeName) → (node linked_in y).stubs ≡ (node f y).stubs
  unfolding linked_in
  stubs_is y = set_tree-stubs _ w _ y ∙ set_tree-stubs f s _ y

  -- how y hangs
  data Place (y : NodeName) : Type 0 where
    is_w : y ≡ w → (node linked_in y).hang ≡ TreeOf s → Place y
    is_h : y ≡ h → (node linked_in y).hang ≡ TreeOf w → Place y
    is_d : y ≡ d → (node linked_in y).hang ≡ TreeOf w → Place y
    other : y ≢ w → y ≢ h → y ≢ d → (node linked_in y).hang ≡ (node f y).hang → Place y

  place : (y : NodeName) → Place y
  unfolding linked_in
  place y = elim (name_cases y h) [
    | inl e ↦ is_h e (set_tree-hang _ w _ y (inl e))
    | inr a ↦ elim (name_cases y d) [
      | inl e ↦ is_d e (set_tree-hang _ w _ y (inr (inl e)))
      | inr b ↦
          let out : y ∈ (h ∷ d ∷ []) → ⊥ = λ i. elim i [ inl e ↦ a e | inr j ↦ elim j [ inl e ↦ b e | inr k ↦ k ] ] in
          elim (name_cases y w) [
            | inl e ↦ is_w e (set_tree-hang_other _ w _ y out ∙ set_tree-hang f s _ y (inl e))
            | inr c ↦ other c a b (set_tree-hang_other _ w _ y out ∙ set_tree-hang_other f s _ y (λ i. elim i [ inl e ↦ c e | inr k ↦ k ]))
          ]
    ]
  ]

  tree_w : (node linked_in w).tree ≡ h ∷ d ∷ []
  unfolding linked_in
  tree_w = set_tree-tree _ w _

  tree_s : (node linked_in s).tree ≡ w ∷ []
  unfolding linked_in
  tree_s = set_tree-tree_other _ w _ s (λ e. w_s (sym e)) ∙ set_tree-tree f s _

  tree_other : (y : NodeName) → y ≢ w → y ≢ s → (node linked_in y).tree ≡ (node f y).tree
  unfolding linked_in
  tree_other y a b = set_tree-tree_other _ w _ y a ∙ set_tree-tree_other f s _ y b

  raised : NodeName → ℕ
  raised y = cond (same w y) (2 * linked.order.0 s + 1) (cond (same d y) (2 * linked.order.0 s + 2) (2 * linked.order.0 y))

  raised_w : raised w ≡ 2 * linked.order.0 s + 1
  unfolding raised
  raised_w = rw (same_itself w)

  raised_d : raised d ≡ 2 * linked.order.0 s + 2
  unfolding raised
  raised_d = rw (same_apart w d w_d, same_itself d)

  raised_other : (y : NodeName) → y ≢ w → y ≢ d → raised y ≡ 2 * linked.order.0 y
  unfolding raised
  raised_other y a b = rw (same_apart w y (λ e. a (sym e)), same_apart d y (λ e. b (sym e)))

  hang_w : (node linked_in w).hang ≡ TreeOf s
  unfolding linked_in
  hang_w = set_tree-hang_other _ w _ w (λ i. elim i [ inl e ↦ not_h w bare_w e | inr j ↦ elim j [ inl e ↦ w_d e | inr k ↦ k ] ]) ∙ set_tree-hang f s _ w (inl refl)

  hang_h : (node linked_in h).hang ≡ TreeOf w
  unfolding linked_in
  hang_h = set_tree-hang _ w _ h (inl refl)

  hang_d : (node linked_in d).hang ≡ TreeOf w
  unfolding linked_in
  hang_d = set_tree-hang _ w _ d (inr (inl refl))

  raised_s : raised s ≡ 2 * linked.order.0 s
  raised_s = raised_other s (λ e. w_s (sym e)) (λ e. d_s (sym e))

  is_ranked : IsRanked linked_in raised
  is_ranked y p up = go (place y)
    where
      go : Place y → raised p < raised y
      go (is_w e t) =
          let p_is : p ≡ s = cc (up, ap parent_of t) in
          let at_p = ap raised p_is ∙ raised_s in
          let at_y = ap raised e ∙ raised_w in
          omega arith
      go (is_h e t) =
          let p_is : p ≡ w = cc (up, ap parent_of t) in
          let at_p = ap raised p_is ∙ raised_w in
          let at_y = ap raised e ∙ raised_other h (λ q. not_h w bare_w (sym q)) (λ q. not_h d bare_d (sym q)) in
          let low = linked.order.1 h s (ap parent_of h_hangs) in
          omega arith
      go (is_d e t) =
          let p_is : p ≡ w = cc (up, ap parent_of t) in
          let at_p = ap raised p_is ∙ raised_w in
          let at_y = ap raised e ∙ raised_d in
          omega arith
      go (other a b c t) =
          let old : parent f y ≡ Some p = ap parent_of (sym t) ∙ up in
          let at_y = raised_other y a c in
          let at_p = raised_other p (λ q. above_none w y bare_w (old ∙ ap Some q)) (λ q. above_none d y bare_d (old ∙ ap Some q)) in
          let low = linked.order.1 y p old in
          omega arith

  few_of : (y : NodeName) → length (node linked_in y).tree ≤ most_tree_children y
  few_of y = elim (name_cases y w) [
    | inl e ↦ subst (λ z. length (node linked_in z).tree ≤ most_tree_children z) (sym e) (rw (tree_w, two) (omega arith))
    | inr a ↦ elim (name_cases y s) [
      | inl e ↦ subst (λ z. length (node linked_in z).tree ≤ most_tree_children z) (sym e) (rw (tree_s, one) (omega arith))
      | inr b ↦ rw (tree_other y a b) (linked.few y)
    ]
  ]

  to_tree : (y p : NodeName) → y ∈ (node linked_in p).tree → (node linked_in y).hang ≡ TreeOf p
  to_tree y p i = elim (name_cases p w) [
    | inl e ↦ elim (subst (λ xs. y ∈ xs) (ap (λ z. (node linked_in z).tree) e ∙ tree_w) i) [
      | inl q ↦ ap (λ z. (node linked_in z).hang) q ∙ hang_h ∙ ap TreeOf (sym e)
      | inr j ↦ elim j [ inl q ↦ ap (λ z. (node linked_in z).hang) q ∙ hang_d ∙ ap TreeOf (sym e) | inr k ↦ absurd k ]
    ]
    | inr a ↦ elim (name_cases p s) [
      | inl e ↦ elim (subst (λ xs. y ∈ xs) (ap (λ z. (node linked_in z).tree) e ∙ tree_s) i) [
        | inl q ↦ ap (λ z. (node linked_in z).hang) q ∙ hang_w ∙ ap TreeOf (sym e)
        | inr k ↦ absurd k
      ]
      | inr b ↦ go b ((linked.tree_links y p).0 (subst (λ xs. y ∈ xs) (tree_other p a b) i)) (place y)
    ]
  ]
    where
      go : p ≢ s → (node f y).hang ≡ TreeOf p → Place y → (node linked_in y).hang ≡ TreeOf p
      go b old (is_w e t) = absurd (cc (old, ap (λ z. (node f z).hang) e, ap (λ n. n.hang) bare_w))
      go b old (is_h e t) = absurd (b (cc (old, ap (λ z. (node f z).hang) e, h_hangs)))
      go b old (is_d e t) = absurd (cc (old, ap (λ z. (node f z).hang) e, ap (λ n. n.hang) bare_d))
      go b old (other a c e t) = t ∙ old

  from_tree : (y p : NodeName) → (node linked_in y).hang ≡ TreeOf p → y ∈ (node linked_in p).tree
  from_tree y p u = go (place y)
    where
      at_w : w ≡ p → y ∈ (h ∷ d ∷ []) → y ∈ (node linked_in p).tree
      at_w q i = subst (λ z. y ∈ (node linked_in z).tree) q (subst (λ xs. y ∈ xs) (sym tree_w) i)

      go : Place y → y ∈ (node linked_in p).tree
      go (is_w e t) =
          let p_is : s ≡ p = cc (u, t) in
          subst (λ z. y ∈ (node linked_in z).tree) p_is (subst (λ xs. y ∈ xs) (sym tree_s) (inl e))
      go (is_h e t) = at_w (cc (u, t)) (inl e)
      go (is_d e t) = at_w (cc (u, t)) (inr (inl e))
      go (other a b c t) =
          let old = sym t ∙ u in
          let not_w : p ≢ w = λ q. above_none w y bare_w (ap parent_of old ∙ ap Some q) in
          let not_s : p ≢ s = λ q. elim (subst (λ xs. y ∈ xs) tree_is ((linked.tree_links y s).1 (old ∙ ap TreeOf q))) [ inl e ↦ b e | inr k ↦ k ] in
          subst (λ xs. y ∈ xs) (sym (tree_other p not_w not_s)) ((linked.tree_links y p).1 old)

  from_stub : (y p : NodeName) → (node linked_in y).hang ≡ StubOf p → (node f y).hang ≡ StubOf p
  from_stub y p u = go (place y)
    where
      go : Place y → (node f y).hang ≡ StubOf p
      go (is_w e t) = absurd (cc (u, t))
      go (is_h e t) = absurd (cc (u, t))
      go (is_d e t) = absurd (cc (u, t))
      go (other a b c t) = sym t ∙ u

  to_stub : (y p : NodeName) → (node f y).hang ≡ StubOf p → (node linked_in y).hang ≡ StubOf p
  to_stub y p old = go (place y)
    where
      go : Place y → (node linked_in y).hang ≡ StubOf p
      go (is_w e t) = absurd (cc (old, ap (λ z. (node f z).hang) e, ap (λ n. n.hang) bare_w))
      go (is_h e t) = absurd (cc (old, ap (λ z. (node f z).hang) e, h_hangs))
      go (is_d e t) = absurd (cc (old, ap (λ z. (node f z).hang) e, ap (λ n. n.hang) bare_d))
      go (other a c e t) = t ∙ old

  once_tree : (y : NodeName) → Once (node linked_in y).tree
  once_tree y = elim (name_cases y w) [
    | inl e ↦ subst Once (sym (ap (λ z. (node linked_in z).tree) e ∙ tree_w)) ((λ i. elim i [ inl q ↦ not_h d bare_d (sym q) | inr k ↦ k ]), ((λ k. k), tt))
    | inr a ↦ elim (name_cases y s) [
      | inl e ↦ subst Once (sym (ap (λ z. (node linked_in z).tree) e ∙ tree_s)) ((λ k. k), tt)
      | inr b ↦ subst Once (sym (tree_other y a b)) (linked.once y).0
    ]
  ]

  pub linked_in-linked : IsLinked linked_in
  linked_in-linked = record {
    order = (raised, is_ranked);
    few = few_of;
    stub_bare = λ y p u. own_is y ∙ linked.stub_bare y p (from_stub y p u);
    tree_links = λ y p. (to_tree y p, from_tree y p);
    stub_links = λ y p. (
      λ i. to_stub y p ((linked.stub_links y p).0 (subst (λ xs. y ∈ xs) (stubs_is p) i)),
      λ u. subst (λ xs. y ∈ xs) (sym (stubs_is p)) ((linked.stub_links y p).1 (from_stub y p u)),
    );
    once = λ y. (once_tree y, subst Once (sym (stubs_is y)) (linked.once y).1);
  }

  -- the values: those that were there, and d and w have that of s
  pub data NewValue (y : NodeName) (v : P) : Type 0 where
    was : IsValue f y v → NewValue y v
    new_w : y ≡ w → IsValue f s v → NewValue y v
    new_d : y ≡ d → IsValue f s v → NewValue y v

  pub linked_in-values : (y : NodeName) (v : P) → NewValue y v → IsValue linked_in y v
  linked_in-values = values_from linked_in raised is_ranked NewValue local
    where
      through : (y p : NodeName) (v : P) → (node f y).own ≡ None → parent f y ≡ Some p → IsValue f p v → Place y → ((node linked_in y).own ≡ Some v) ⊎ (((node linked_in y).own ≡ None) × (q : NodeName) × (parent linked_in y ≡ Some q) × NewValue q v)
      through y p v none up r (is_w e t) = absurd (cc (up, ap (λ z. parent f z) e, ap (λ n. parent_of n.hang) bare_w))
      through y p v none up r (is_h e t) =
          let p_is : p ≡ s = cc (up, ap (λ z. parent f z) e, ap parent_of h_hangs) in
          inr (own_is y ∙ none, w, ap parent_of t, new_w refl (subst (λ z. IsValue f z v) p_is r))
      through y p v none up r (is_d e t) = absurd (cc (up, ap (λ z. parent f z) e, ap (λ n. parent_of n.hang) bare_d))
      through y p v none up r (other a b c t) = inr (own_is y ∙ none, p, ap parent_of t ∙ up, was r)

      local : (y : NodeName) (v : P) → NewValue y v → ((node linked_in y).own ≡ Some v) ⊎ (((node linked_in y).own ≡ None) × (q : NodeName) × (parent linked_in y ≡ Some q) × NewValue q v)
      local y v (was (itself e)) = inl (own_is y ∙ e)
      local y v (was (above {p = p} none up r)) = through y p v none up r (place y)
      local y v (new_w e r) = inr (own_is y ∙ ap (λ z. (node f z).own) e ∙ ap (λ n. n.own) bare_w, s, ap (λ z. parent linked_in z) e ∙ ap parent_of hang_w, was r)
      local y v (new_d e r) = inr (own_is y ∙ ap (λ z. (node f z).own) e ∙ ap (λ n. n.own) bare_d, w, ap (λ z. parent linked_in z) e ∙ ap parent_of hang_d, new_w refl r)
