-- own and heir_gets keep the shape.
use Rattle.std.proofs.Common.{◌≡◌, ℕ, ◌+◌, ◌*◌, ◌<◌, List, ◌≢◌, Bool, true, false, cond, ◌⊎◌, Option, Some, refl, sym, ap, subst, ◌∙◌, inl, inr, arith}
use Rattle.vm_ids.specs.declared.node_name.NodeName.{NodeName}
use Rattle.vm_ids.specs.Forest.Names.{same}
use Rattle.vm_ids.proofs.Forest.Names.{name_cases, same_itself, same_apart}
use Rattle.vm_ids.specs.Forest.NameLists.{◌∈◌, Once, without}
use Rattle.vm_ids.specs.Forest.Nodes.{Hang, Forest, node, parent, parent_of}
use Rattle.vm_ids.specs.Forest.Shape.{IsLinked, IsRanked}
use Rattle.vm_ids.specs.Forest.Rules.{gets, hand_stubs}
use Rattle.vm_ids.specs.Forest.Nodes.Hang.{Root, TreeOf, StubOf}
use Rattle.vm_ids.proofs.Forest.NameLists.{in_append, append_in, in_cases, in_without, without_in, Once-filter, Once-append}
use Rattle.vm_ids.proofs.Forest.Columns.{unstub, left_stubs, gets-own_other, gets-hang, gets-hang_other, gets-tree, gets-stubs, hand_stubs-own, hand_stubs-tree, hand_stubs-hang, hand_stubs-hang_other, hand_stubs-stubs_from, hand_stubs-stubs_to, hand_stubs-stubs_other}

unstub_tree : (h : Hang) (p : NodeName) → unstub h ≡ TreeOf p → h ≡ TreeOf p
unstub_tree Root p e = e
unstub_tree (TreeOf q) p e = e
unstub_tree (StubOf q) p e = absurd (cc e)

unstub_stub : (h : Hang) (p : NodeName) → unstub h ≡ StubOf p → ⊥
unstub_stub Root p e = cc e
unstub_stub (TreeOf q) p e = cc e
unstub_stub (StubOf q) p e = cc e

unstub_parent : (h : Hang) (p : NodeName) → parent_of (unstub h) ≡ Some p → parent_of h ≡ Some p
unstub_parent Root p e = e
unstub_parent (TreeOf q) p e = e
unstub_parent (StubOf q) p e = absurd (cc e)

pub in_left : (x : NodeName) (h : Hang) (p : NodeName) (xs : List NodeName) (y : NodeName) → y ∈ left_stubs x h p xs → (y ∈ xs) × (h ≡ StubOf p → y ≢ x)
in_left x Root p xs y i = (i, λ e. absurd (cc e))
in_left x (TreeOf q) p xs y i = (i, λ e. absurd (cc e))
in_left x (StubOf q) p xs y i = go (same q p) refl i
  where
    go : (b : Bool) → same q p ≡ b → y ∈ cond b (without x xs) xs → (y ∈ xs) × (StubOf q ≡ StubOf p → y ≢ x)
    go true t i = ((in_without x xs y i).0, λ e. (in_without x xs y i).1)
    go false t i = (i, λ e. let p_is : q ≡ p = cc in absurd (cc (t, same_itself p, ap (λ z. same z p) p_is)))

pub left_in : (x : NodeName) (h : Hang) (p : NodeName) (xs : List NodeName) (y : NodeName) → y ∈ xs → y ≢ x → y ∈ left_stubs x h p xs
left_in x Root p xs y i apart = i
left_in x (TreeOf q) p xs y i apart = i
left_in x (StubOf q) p xs y i apart = go (same q p)
  where
    go : (b : Bool) → y ∈ cond b (without x xs) xs
    go true = without_in x xs y i apart
    go false = i

pub left_once : (x : NodeName) (h : Hang) (p : NodeName) (xs : List NodeName) → Once xs → Once (left_stubs x h p xs)
left_once x Root p xs once = once
left_once x (TreeOf q) p xs once = once
left_once x (StubOf q) p xs once = go (same q p)
  where
    go : (b : Bool) → Once (cond b (without x xs) xs)
    go true = Once-filter _ xs once
    go false = once

module _ {P : Type 0} (f : Forest P) (linked : IsLinked f) (x : NodeName) (v : Option P) where
  -- the link of each node but x is kept, and x keeps a tree link
  gets-hang_cases : (y : NodeName) → ((node (gets f x v) y).hang ≡ (node f y).hang) ⊎ ((y ≡ x) × ((node (gets f x v) y).hang ≡ unstub (node f y).hang))
  gets-hang_cases y = elim (name_cases y x) [
    | inl e ↦ inr (e, subst (λ z. (node (gets f x v) z).hang ≡ unstub (node f z).hang) (sym e) (gets-hang f x v))
    | inr apart ↦ inl (gets-hang_other f x y v apart)
  ]

  pub gets-ranked : (rank : NodeName → ℕ) → IsRanked f rank → IsRanked (gets f x v) rank
  gets-ranked rank ranked y p up = elim (gets-hang_cases y) [
    | inl k ↦ ranked y p (ap parent_of (sym k) ∙ up)
    | inr k ↦ ranked y p (unstub_parent _ p (ap parent_of (sym k.1) ∙ up))
  ]

  pub gets-linked : IsLinked (gets f x v)
  gets-linked = record {
    order = (linked.order.0, gets-ranked _ linked.order.1);
    few = λ y. rw (gets-tree f x y v) (linked.few y);
    stub_bare = λ y p h. elim (name_cases y x) [
      | inl e ↦ absurd (unstub_stub _ p (sym (gets-hang f x v) ∙ ap (λ z. (node (gets f x v) z).hang) (sym e) ∙ h))
      | inr apart ↦ gets-own_other f x y v apart ∙ linked.stub_bare y p (sym (gets-hang_other f x y v apart) ∙ h)
    ];
    tree_links = λ y p. (
      λ i. let h = (linked.tree_links y p).0 (subst (λ xs. y ∈ xs) (gets-tree f x p v) i) in
          elim (gets-hang_cases y) [ inl k ↦ k ∙ h | inr k ↦ k.1 ∙ ap unstub h ],
      λ h. subst (λ xs. y ∈ xs) (sym (gets-tree f x p v)) ((linked.tree_links y p).1
          (elim (gets-hang_cases y) [ inl k ↦ sym k ∙ h | inr k ↦ unstub_tree _ p (sym k.1 ∙ h) ])),
    );
    stub_links = λ y p. (
      λ i. let j = in_left x _ p _ y (subst (λ xs. y ∈ xs) (gets-stubs f x p v) i) in
          let h = (linked.stub_links y p).0 j.0 in
          elim (name_cases y x) [
            | inl e ↦ absurd (j.1 (ap (λ z. (node f z).hang) (sym e) ∙ h) e)
            | inr apart ↦ gets-hang_other f x y v apart ∙ h
          ],
      λ h. subst (λ xs. y ∈ xs) (sym (gets-stubs f x p v)) (elim (name_cases y x) [
        | inl e ↦ absurd (unstub_stub _ p (sym (gets-hang f x v) ∙ ap (λ z. (node (gets f x v) z).hang) (sym e) ∙ h))
        | inr apart ↦ left_in x _ p _ y ((linked.stub_links y p).1 (sym (gets-hang_other f x y v apart) ∙ h)) apart
      ]),
    );
    once = λ y. (subst Once (sym (gets-tree f x y v)) (linked.once y).0, subst Once (sym (gets-stubs f x y v)) (left_once x _ y _ (linked.once y).1));
  }

module _ {P : Type 0} (f : Forest P) (linked : IsLinked f) (x h : NodeName) (apart : h ≢ x) where
  -- a node is handed over, or hangs as before
  pub handed_cases : (y : NodeName) → ((y ∈ (node f x).stubs) × ((node f y).hang ≡ StubOf x) × ((node (hand_stubs f x h) y).hang ≡ StubOf h)) ⊎ ((y ∈ (node f x).stubs → ⊥) × ((node (hand_stubs f x h) y).hang ≡ (node f y).hang))
  handed_cases y = elim (in_cases (node f x).stubs y) [
    | inl i ↦ inl (i, (linked.stub_links y x).0 i, hand_stubs-hang f x h y i)
    | inr out ↦ inr (out, hand_stubs-hang_other f x h y out)
  ]

  -- h comes between x and the stubs of x
  lifted : (NodeName → ℕ) → NodeName → ℕ
  lifted rank y = cond (same h y) (2 * rank x + 1) (2 * rank y)

  lifted_h : (rank : NodeName → ℕ) → lifted rank h ≡ 2 * rank x + 1
  unfolding lifted
  lifted_h rank = rw (same_itself h)

  lifted_other : (rank : NodeName → ℕ) (y : NodeName) → y ≢ h → lifted rank y ≡ 2 * rank y
  unfolding lifted
  lifted_other rank y a = rw (same_apart h y (λ e. a (sym e)))

  apart_stub : (y : NodeName) → y ≡ h → (node f y).hang ≡ StubOf x → (node f h).hang ≡ TreeOf x → ⊥
  apart_stub y e s t = let m = ap (λ z. (node f z).hang) e in cc

  apart_root : (y : NodeName) → y ≡ h → (node f y).hang ≡ StubOf x → (node f h).hang ≡ Root → ⊥
  apart_root y e s t = let m = ap (λ z. (node f z).hang) e in cc

  -- the stub lists
  to_link : (y p : NodeName) → y ∈ (node (hand_stubs f x h) p).stubs → (node (hand_stubs f x h) y).hang ≡ StubOf p
  to_link y p i = elim (name_cases p x) [
    | inl e ↦ absurd (subst (λ xs. y ∈ xs) (ap (λ z. (node (hand_stubs f x h) z).stubs) e ∙ hand_stubs-stubs_from f x h) i)
    | inr not_x ↦ elim (name_cases p h) [
      | inl e ↦ elim (in_append _ _ y (subst (λ xs. y ∈ xs) (ap (λ z. (node (hand_stubs f x h) z).stubs) e ∙ hand_stubs-stubs_to f x h apart) i)) [
        | inl j ↦ elim (handed_cases y) [ inl k ↦ k.2 ∙ ap StubOf (sym e) | inr k ↦ k.1 ∙ (linked.stub_links y h).0 j ∙ ap StubOf (sym e) ]
        | inr j ↦ hand_stubs-hang f x h y j ∙ ap StubOf (sym e)
      ]
      | inr not_h ↦
          let old = (linked.stub_links y p).0 (subst (λ xs. y ∈ xs) (hand_stubs-stubs_other f x h p not_x not_h) i) in
          elim (handed_cases y) [ inl k ↦ absurd (not_x (cc (old, k.1))) | inr k ↦ k.1 ∙ old ]
    ]
  ]

  from_link : (y p : NodeName) → (node (hand_stubs f x h) y).hang ≡ StubOf p → y ∈ (node (hand_stubs f x h) p).stubs
  from_link y p e = elim (handed_cases y) [
    | inl k ↦
        let p_is : h ≡ p = cc (e, k.2) in
        subst (λ z. y ∈ (node (hand_stubs f x h) z).stubs) p_is (subst (λ xs. y ∈ xs) (sym (hand_stubs-stubs_to f x h apart)) (append_in _ _ y (inr k.0)))
    | inr k ↦
        let old = (linked.stub_links y p).1 (sym k.1 ∙ e) in
        elim (name_cases p x) [
          | inl q ↦ absurd (k.0 (subst (λ z. y ∈ (node f z).stubs) q old))
          | inr not_x ↦ elim (name_cases p h) [
            | inl q ↦ subst (λ z. y ∈ (node (hand_stubs f x h) z).stubs) (sym q) (subst (λ xs. y ∈ xs) (sym (hand_stubs-stubs_to f x h apart)) (append_in _ _ y (inl (subst (λ z. y ∈ (node f z).stubs) q old))))
            | inr not_h ↦ subst (λ xs. y ∈ xs) (sym (hand_stubs-stubs_other f x h p not_x not_h)) old
          ]
        ]
  ]

  once_handed : (y : NodeName) → Once (node (hand_stubs f x h) y).stubs
  once_handed y = elim (name_cases y x) [
    | inl e ↦ subst Once (sym (ap (λ z. (node (hand_stubs f x h) z).stubs) e ∙ hand_stubs-stubs_from f x h)) tt
    | inr not_x ↦ elim (name_cases y h) [
      | inl e ↦ subst Once (sym (ap (λ z. (node (hand_stubs f x h) z).stubs) e ∙ hand_stubs-stubs_to f x h apart))
          (Once-append _ _ (linked.once h).1 (linked.once x).1 (λ z i j. apart (cc ((linked.stub_links z h).0 i, (linked.stub_links z x).0 j))))
      | inr not_h ↦ subst Once (sym (hand_stubs-stubs_other f x h y not_x not_h)) (linked.once y).1
    ]
  ]

  handed-ranked : (rank : NodeName → ℕ) → IsRanked f rank → rank x < rank h → ((node f h).hang ≡ TreeOf x) ⊎ ((node f h).hang ≡ Root) → IsRanked (hand_stubs f x h) (lifted rank)
  handed-ranked rank ranked below hangs y p up = elim (handed_cases y) [
    | inl k ↦
        let p_is : p ≡ h = cc (up, ap parent_of k.2) in
        let other : y ≢ h = λ e. elim hangs [ inl t ↦ apart_stub y e k.1 t | inr r ↦ apart_root y e k.1 r ] in
        let at_y = lifted_other rank y other in
        let at_p : lifted rank p ≡ 2 * rank x + 1 = ap (lifted rank) p_is ∙ lifted_h rank in
        let low = ranked y x (ap parent_of k.1) in
        omega arith
    | inr k ↦
        let old : parent f y ≡ Some p = ap parent_of (sym k.1) ∙ up in
        let low = ranked y p old in
        elim (name_cases y h) [
          | inl e ↦
              let at_y : lifted rank y ≡ 2 * rank x + 1 = ap (lifted rank) e ∙ lifted_h rank in
              let old_h : parent f h ≡ Some p = ap (λ z. parent f z) (sym e) ∙ old in
              let p_is : p ≡ x = elim hangs [ inl t ↦ cc (old_h, ap parent_of t) | inr r ↦ absurd (cc (old_h, ap parent_of r)) ] in
              let at_p : lifted rank p ≡ 2 * rank x = ap (lifted rank) p_is ∙ lifted_other rank x (λ q. apart (sym q)) in
              omega arith
          | inr other ↦
              let at_y = lifted_other rank y other in
              elim (name_cases p h) [
                | inl e ↦
                    let at_p : lifted rank p ≡ 2 * rank x + 1 = ap (lifted rank) e ∙ lifted_h rank in
                    let same_rank : rank p ≡ rank h = ap rank e in
                    omega arith
                | inr other_p ↦ let at_p = lifted_other rank p other_p in omega arith
              ]
        ]
  ]

  -- Handing stubs over keeps the shape, where some rank rises along the links that come of it.
  pub hand_stubs-by_rank : (rank : NodeName → ℕ) → IsRanked (hand_stubs f x h) rank → IsLinked (hand_stubs f x h)
  hand_stubs-by_rank rank ranked = record {
    order = (rank, ranked);
    few = λ y. rw (hand_stubs-tree f x h y) (linked.few y);
    stub_bare = λ y p e. hand_stubs-own f x h y ∙ elim (handed_cases y) [
      | inl k ↦ linked.stub_bare y x k.1
      | inr k ↦ linked.stub_bare y p (sym k.1 ∙ e)
    ];
    tree_links = λ y p. (
      λ i. let e = (linked.tree_links y p).0 (subst (λ xs. y ∈ xs) (hand_stubs-tree f x h p) i) in
          elim (handed_cases y) [ inl k ↦ absurd (cc (e, k.1)) | inr k ↦ k.1 ∙ e ],
      λ e. subst (λ xs. y ∈ xs) (sym (hand_stubs-tree f x h p)) (elim (handed_cases y) [
        | inl k ↦ absurd (cc (e, k.2))
        | inr k ↦ (linked.tree_links y p).1 (sym k.1 ∙ e)
      ]),
    );
    stub_links = λ y p. (to_link y p, from_link y p);
    once = λ y. (subst Once (sym (hand_stubs-tree f x h y)) (linked.once y).0, once_handed y);
  }

  pub hand_stubs-linked : (rank : NodeName → ℕ) → IsRanked f rank → rank x < rank h → ((node f h).hang ≡ TreeOf x) ⊎ ((node f h).hang ≡ Root) → IsLinked (hand_stubs f x h)
  hand_stubs-linked rank ranked below hangs = hand_stubs-by_rank (lifted rank) (handed-ranked rank ranked below hangs)
