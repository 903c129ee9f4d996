-- take_place keeps the shape.
use Rattle.std.proofs.Common.{◌≡◌, ℕ, ◌<◌, List, [], ◌∷◌, map, length, ◌≢◌, Bool, true, false, cond, ◌⊎◌, ◌↔◌, None, refl, sym, ap, subst, ◌∙◌, inl, inr, arith}
use Rattle.std.proofs.lemmas.List.{length-map}
use Rattle.vm_ids.specs.declared.node_name.NodeName.{NodeName}
use Rattle.vm_ids.specs.Forest.Names.{same}
use Rattle.vm_ids.proofs.Forest.Names.{name_cases, same_itself, same_apart, same-true}
use Rattle.vm_ids.specs.Forest.NameLists.{◌∈◌, Once, renamed}
use Rattle.vm_ids.specs.Forest.Nodes.{Hang, Node, Forest, node, parent_of}
use Rattle.vm_ids.specs.Forest.Shape.{IsLinked, IsRanked}
use Rattle.vm_ids.specs.Forest.Changes.{put, relist, with_tree, with_stubs}
use Rattle.vm_ids.specs.Forest.Settling.{take_place}
use Rattle.vm_ids.specs.Forest.Nodes.Hang.{Root, TreeOf, StubOf}
use Rattle.vm_ids.proofs.Forest.NodesAfter.{node-put, node-put_other, keeps, relist-keeps}
use Rattle.vm_ids.proofs.Forest.Cutting.{flip}

renamed_itself : (w y : NodeName) → renamed w y w ≡ y
renamed_itself w y = rw (same_itself w)

renamed_other : (w y z : NodeName) → z ≢ w → renamed w y z ≡ z
renamed_other w y z a = rw (same_apart w z (λ e. a (sym e)))

in_map : (w y : NodeName) (xs : List NodeName) (z : NodeName) → z ∈ map (renamed w y) xs → ((z ≡ y) × (w ∈ xs)) ⊎ ((z ∈ xs) × (z ≢ w))
in_map w y [] z i = absurd i
in_map w y (x ∷ xs) z i = elim i [
  | inl e ↦ elim (name_cases x w) [
    | inl q ↦ inl (e ∙ ap (renamed w y) q ∙ renamed_itself w y, inl (sym q))
    | inr a ↦ let is : z ≡ x = e ∙ renamed_other w y x a in inr (inl is, λ q. a (sym is ∙ q))
  ]
  | inr j ↦ elim (in_map w y xs z j) [ inl k ↦ inl (k.0, inr k.1) | inr k ↦ inr (inr k.0, k.1) ]
]

map_in : (w y : NodeName) (xs : List NodeName) (x : NodeName) → x ∈ xs → renamed w y x ∈ map (renamed w y) xs
map_in w y [] x i = i
map_in w y (a ∷ xs) x i = elim i [ inl e ↦ inl (ap (renamed w y) e) | inr j ↦ inr (map_in w y xs x j) ]

Once-map : (w y : NodeName) (xs : List NodeName) → (y ∈ xs → ⊥) → Once xs → Once (map (renamed w y) xs)
Once-map w y [] out once = tt
Once-map w y (x ∷ xs) out once = (λ i. fresh (in_map w y xs (renamed w y x) i), Once-map w y xs (λ j. out (inr j)) once.1)
  where
    fresh : ((renamed w y x ≡ y) × (w ∈ xs)) ⊎ ((renamed w y x ∈ xs) × (renamed w y x ≢ w)) → ⊥
    fresh c = elim (name_cases x w) [
      | inl q ↦ elim c [ inl k ↦ once.0 (subst (λ z. z ∈ xs) (sym q) k.1) | inr k ↦ out (inr (subst (λ z. z ∈ xs) (ap (renamed w y) q ∙ renamed_itself w y) k.0)) ]
      | inr a ↦ elim c [ inl k ↦ out (inl (sym (sym (renamed_other w y x a) ∙ k.0))) | inr k ↦ once.0 (subst (λ z. z ∈ xs) (renamed_other w y x a) k.0) ]
    ]

-- the list of p, where y stands for a node w that hangs by the stub link h
abbrev pub subbed : NodeName → NodeName → Hang → NodeName → List NodeName → List NodeName
subbed w y Root p xs = xs
subbed w y (TreeOf q) p xs = xs
subbed w y (StubOf q) p xs = cond (same q p) (map (renamed w y) xs) xs

module _ (w y : NodeName) (p : NodeName) (xs : List NodeName) where
  in_subbed : (h : Hang) → (w ∈ xs → h ≡ StubOf p) → (z : NodeName) → z ∈ subbed w y h p xs → ((z ≡ y) × (h ≡ StubOf p)) ⊎ ((z ∈ xs) × (z ≢ w))
  in_subbed Root is z i = inr (i, λ e. absurd (let h = is (subst (λ v. v ∈ xs) e i) in cc h))
  in_subbed (TreeOf q) is z i = inr (i, λ e. absurd (let h = is (subst (λ v. v ∈ xs) e i) in cc h))
  in_subbed (StubOf q) is z i = go (same q p) refl i
    where
      go : (b : Bool) → same q p ≡ b → z ∈ cond b (map (renamed w y) xs) xs → ((z ≡ y) × (StubOf q ≡ StubOf p)) ⊎ ((z ∈ xs) × (z ≢ w))
      go true t i = elim (in_map w y xs z i) [ inl k ↦ inl (k.0, ap StubOf (same-true q p t)) | inr k ↦ inr k ]
      go false t i = inr (i, λ e. let p_is : q ≡ p = cc (is (subst (λ v. v ∈ xs) e i)) in absurd (cc (t, same_itself p, ap (λ v. same v p) p_is)))

  subbed_new : (h : Hang) → h ≡ StubOf p → w ∈ xs → y ∈ subbed w y h p xs
  subbed_new Root e i = absurd (cc e)
  subbed_new (TreeOf q) e i = absurd (cc e)
  subbed_new (StubOf q) e i =
      let p_is : q ≡ p = cc e in
      rw (p_is, same_itself p) (subst (λ z. z ∈ map (renamed w y) xs) (renamed_itself w y) (map_in w y xs w i))

  subbed_old : (h : Hang) (z : NodeName) → z ∈ xs → z ≢ w → z ∈ subbed w y h p xs
  subbed_old Root z i a = i
  subbed_old (TreeOf q) z i a = i
  subbed_old (StubOf q) z i a = go (same q p)
    where
      go : (b : Bool) → z ∈ cond b (map (renamed w y) xs) xs
      go true = subst (λ v. v ∈ map (renamed w y) xs) (renamed_other w y z a) (map_in w y xs z i)
      go false = i

  Once-subbed : (h : Hang) → (y ∈ xs → ⊥) → Once xs → Once (subbed w y h p xs)
  Once-subbed Root out once = once
  Once-subbed (TreeOf q) out once = once
  Once-subbed (StubOf q) out once = go (same q p)
    where
      go : (b : Bool) → Once (cond b (map (renamed w y) xs) xs)
      go true = Once-map w y xs out once
      go false = once

  pub length-subbed : (h : Hang) → length (subbed w y h p xs) ≡ length xs
  length-subbed Root = refl
  length-subbed (TreeOf q) = refl
  length-subbed (StubOf q) = go (same q p)
    where
      go : (b : Bool) → length (cond b (map (renamed w y) xs) xs) ≡ length xs
      go true = length-map xs (renamed w y)
      go false = refl

pub subbed_nil : (w y : NodeName) (h : Hang) (p : NodeName) (xs : List NodeName) → xs ≡ [] → subbed w y h p xs ≡ []
subbed_nil w y h p [] e = go h
  where
    go : (h : Hang) → subbed w y h p [] ≡ []
    go Root = refl
    go (TreeOf q) = refl
    go (StubOf q) = same_nil (same q p)
      where
        same_nil : (b : Bool) → cond {A = List NodeName} b [] [] ≡ []
        same_nil true = refl
        same_nil false = refl
subbed_nil w y h p (x ∷ xs) e = absurd (cc e)

module _ {P : Type 0} where
  listed : (col : Node P → List NodeName) (set : List NodeName → Node P → Node P) → ((xs : List NodeName) (n : Node P) → col (set xs n) ≡ xs) → (f : Forest P) (change : List NodeName → List NodeName) (q p : NodeName)
      → col (node (put f q (set (change (col (node f q))) (node f q))) p) ≡ cond (same q p) (change (col (node f p))) (col (node f p))
  listed col set is f change q p = elim (name_cases p q) [
    | inl e ↦ subst (λ z. col (node (put f q (set (change (col (node f q))) (node f q))) z) ≡ cond (same q z) (change (col (node f z))) (col (node f z))) (sym e)
        (rw (same_itself q) (ap col (node-put f q _) ∙ is _ _))
    | inr apart ↦ rw (same_apart q p (λ e. apart (sym e))) (ap col (node-put_other f q p _ apart))
  ]

  relist-stubs : (f : Forest P) (h : Hang) (w y p : NodeName) → (node (relist f h (map (renamed w y))) p).stubs ≡ subbed w y h p (node f p).stubs
  unfolding relist
  relist-stubs f Root w y p = refl
  relist-stubs f (TreeOf q) w y p = keeps (λ n. n.stubs) f q _ refl p
  relist-stubs f (StubOf q) w y p = listed (λ n. n.stubs) with_stubs (λ xs n. refl) f (map (renamed w y)) q p

  relist-tree : (f : Forest P) (h : Hang) (w y p : NodeName) → (node (relist f h (map (renamed w y))) p).tree ≡ subbed w y (flip h) p (node f p).tree
  unfolding relist
  relist-tree f Root w y p = refl
  relist-tree f (TreeOf q) w y p = listed (λ n. n.tree) with_tree (λ xs n. refl) f (map (renamed w y)) q p
  relist-tree f (StubOf q) w y p = keeps (λ n. n.tree) f q _ refl p

module _ {P : Type 0} (f : Forest P) (linked : IsLinked f) (w y : NodeName) (apart : y ≢ w) (root : (node f y).hang ≡ Root) where
  pub taken-own : (z : NodeName) → (node (take_place f w y) z).own ≡ (node f z).own
  unfolding take_place
  taken-own z = keeps (λ n. n.own) _ w _ refl z ∙ keeps (λ n. n.own) _ y _ refl z ∙ relist-keeps (λ n. n.own) (λ n xs. refl) (λ n xs. refl) f _ _ z

  pub taken-tree : (p : NodeName) → (node (take_place f w y) p).tree ≡ subbed w y (flip (node f w).hang) p (node f p).tree
  unfolding take_place
  taken-tree p = keeps (λ n. n.tree) _ w _ refl p ∙ keeps (λ n. n.tree) _ y _ refl p ∙ relist-tree f _ w y p

  pub taken-stubs : (p : NodeName) → (node (take_place f w y) p).stubs ≡ subbed w y (node f w).hang p (node f p).stubs
  unfolding take_place
  taken-stubs p = keeps (λ n. n.stubs) _ w _ refl p ∙ keeps (λ n. n.stubs) _ y _ refl p ∙ relist-stubs f _ w y p

  pub data Place (z : NodeName) : Type 0 where
    at_w : z ≡ w → (node (take_place f w y) z).hang ≡ Root → Place z
    at_y : z ≡ y → (node (take_place f w y) z).hang ≡ (node f w).hang → Place z
    other : z ≢ w → z ≢ y → (node (take_place f w y) z).hang ≡ (node f z).hang → Place z

  pub hang_w : (node (take_place f w y) w).hang ≡ Root
  unfolding take_place
  hang_w = ap (λ n. n.hang) (node-put _ w _)

  pub hang_y : (node (take_place f w y) y).hang ≡ (node f w).hang
  unfolding take_place
  hang_y = ap (λ n. n.hang) (node-put_other _ w y _ apart) ∙ ap (λ n. n.hang) (node-put _ y _)

  pub hang_other : (z : NodeName) → z ≢ w → z ≢ y → (node (take_place f w y) z).hang ≡ (node f z).hang
  unfolding take_place
  hang_other z a b = ap (λ n. n.hang) (node-put_other _ w z _ a) ∙ ap (λ n. n.hang) (node-put_other _ y z _ b) ∙ relist-keeps (λ n. n.hang) (λ n xs. refl) (λ n xs. refl) f _ _ z

  pub place : (z : NodeName) → Place z
  place z = elim (name_cases z w) [
    | inl e ↦ at_w e (ap (λ v. (node (take_place f w y) v).hang) e ∙ hang_w)
    | inr a ↦ elim (name_cases z y) [
      | inl e ↦ at_y e (ap (λ v. (node (take_place f w y) v).hang) e ∙ hang_y)
      | inr b ↦ other a b (hang_other z a b)
    ]
  ]

  pub taken-ranked : (rank : NodeName → ℕ) → IsRanked f rank → rank w < rank y → IsRanked (take_place f w y) rank
  taken-ranked rank ranked low z p up = go (place z)
    where
      go : Place z → rank p < rank z
      go (at_w e t) = absurd (cc (up, ap parent_of t))
      go (at_y e t) = let h = ranked w p (ap parent_of (sym t) ∙ up) in let z_is = ap rank e in omega arith
      go (other a b t) = ranked z p (ap parent_of (sym t) ∙ up)

  -- by a tree link or a stub link, as K says
  module _ (K : NodeName → Hang) (list : NodeName → List NodeName) (new : NodeName → List NodeName) (turn : Hang → Hang)
      (turn_of : (h : Hang) (p : NodeName) → h ≡ K p → turn h ≡ StubOf p) (turn_back : (h : Hang) (p : NodeName) → turn h ≡ StubOf p → h ≡ K p) (not_root : (p : NodeName) → Root ≡ K p → ⊥)
      (new_is : (p : NodeName) → new p ≡ subbed w y (turn (node f w).hang) p (list p)) (links : (z p : NodeName) → (z ∈ list p) ↔ ((node f z).hang ≡ K p)) where
    to_link : (z p : NodeName) → z ∈ new p → (node (take_place f w y) z).hang ≡ K p
    to_link z p i = elim (in_subbed w y p (list p) _ (λ j. turn_of _ p ((links w p).0 j)) z (subst (λ xs. z ∈ xs) (new_is p) i)) [
      | inl k ↦ ap (λ v. (node (take_place f w y) v).hang) k.0 ∙ hang_y ∙ turn_back _ p k.1
      | inr k ↦ go ((links z p).0 k.0) k.1 (place z)
    ]
      where
        go : (node f z).hang ≡ K p → z ≢ w → Place z → (node (take_place f w y) z).hang ≡ K p
        go old a (at_w e t) = absurd (a e)
        go old a (at_y e t) = absurd (not_root p (sym root ∙ ap (λ v. (node f v).hang) (sym e) ∙ old))
        go old a (other _ _ t) = t ∙ old

    from_link : (z p : NodeName) → (node (take_place f w y) z).hang ≡ K p → z ∈ new p
    from_link z p u = subst (λ xs. z ∈ xs) (sym (new_is p)) (go (place z))
      where
        go : Place z → z ∈ subbed w y (turn (node f w).hang) p (list p)
        go (at_w e t) = absurd (not_root p (sym t ∙ u))
        go (at_y e t) = let old = sym t ∙ u in subst (λ v. v ∈ subbed w y (turn (node f w).hang) p (list p)) (sym e) (subbed_new w y p (list p) _ (turn_of _ p old) ((links w p).1 old))
        go (other a b t) = subbed_old w y p (list p) _ z ((links z p).1 (sym t ∙ u)) a

    once_new : (p : NodeName) → Once (list p) → Once (new p)
    once_new p once = subst Once (sym (new_is p)) (Once-subbed w y p (list p) _ (λ i. not_root p (sym root ∙ (links y p).0 i)) once)

  tree_turn : (h : Hang) (p : NodeName) → flip h ≡ StubOf p → h ≡ TreeOf p
  tree_turn Root p e = absurd (cc e)
  tree_turn (TreeOf q) p e = let is : q ≡ p = cc e in ap TreeOf is
  tree_turn (StubOf q) p e = absurd (cc e)

  pub taken-linked : (rank : NodeName → ℕ) → IsRanked f rank → rank w < rank y → ((p : NodeName) → (node f w).hang ≡ StubOf p → (node f y).own ≡ None) → IsLinked (take_place f w y)
  taken-linked rank ranked low bare = record {
    order = (rank, taken-ranked rank ranked low);
    few = λ p. rw (taken-tree p, length-subbed w y p (node f p).tree (flip (node f w).hang)) (linked.few p);
    stub_bare = λ z p u. taken-own z ∙ bare_of z p u (place z);
    tree_links = λ z p. (
      to_link TreeOf (λ p. (node f p).tree) (λ p. (node (take_place f w y) p).tree) flip (λ h p e. ap flip e) tree_turn (λ p e. cc e) taken-tree linked.tree_links z p,
      from_link TreeOf (λ p. (node f p).tree) (λ p. (node (take_place f w y) p).tree) flip (λ h p e. ap flip e) tree_turn (λ p e. cc e) taken-tree linked.tree_links z p,
    );
    stub_links = λ z p. (
      to_link StubOf (λ p. (node f p).stubs) (λ p. (node (take_place f w y) p).stubs) (λ h. h) (λ h p e. e) (λ h p e. e) (λ p e. cc e) taken-stubs linked.stub_links z p,
      from_link StubOf (λ p. (node f p).stubs) (λ p. (node (take_place f w y) p).stubs) (λ h. h) (λ h p e. e) (λ h p e. e) (λ p e. cc e) taken-stubs linked.stub_links z p,
    );
    once = λ p. (
      once_new TreeOf (λ p. (node f p).tree) (λ p. (node (take_place f w y) p).tree) flip (λ h p e. ap flip e) tree_turn (λ p e. cc e) taken-tree linked.tree_links p (linked.once p).0,
      once_new StubOf (λ p. (node f p).stubs) (λ p. (node (take_place f w y) p).stubs) (λ h. h) (λ h p e. e) (λ h p e. e) (λ p e. cc e) taken-stubs linked.stub_links p (linked.once p).1,
    );
  }
    where
      bare_of : (z p : NodeName) → (node (take_place f w y) z).hang ≡ StubOf p → Place z → (node f z).own ≡ None
      bare_of z p u (at_w e t) = absurd (cc (u, t))
      bare_of z p u (at_y e t) = ap (λ v. (node f v).own) e ∙ bare p (sym t ∙ u)
      bare_of z p u (other a b t) = linked.stub_bare z p (sym t ∙ u)
