-- link keeps values and shape, and gives the new node the value of its source.
use Rattle.std.proofs.Common.{◌≡◌, ℕ, ◌+◌, ◌≤◌, List, [], ◌∷◌, length, ◌≢◌, true, cond, ◌⊎◌, Some, None, refl, sym, ap, subst, ◌∙◌, inl, inr, arith}
use Rattle.vm_ids.specs.declared.node_name.NodeName.{NodeName}
use Rattle.vm_ids.specs.Forest.Names.{same, Working}
use Rattle.vm_ids.proofs.Forest.Names.{name_cases, same_itself, same_apart}
use Rattle.vm_ids.specs.Forest.NameLists.{◌∈◌, Once}
use Rattle.vm_ids.specs.Forest.Nodes.{Hang, Forest, node, parent, parent_of, childless, IsNode, most_tree_children}
use Rattle.vm_ids.specs.Forest.Shape.{IsLinked, IsRanked, IsCounted}
use Rattle.vm_ids.specs.Forest.Changes.{put, hang_all, set_tree, count_working}
use Rattle.vm_ids.specs.Forest.Rules.{link}
use Rattle.vm_ids.specs.Forest.Values.{IsValue}
use Rattle.vm_ids.specs.Forest.Nodes.Hang.{Root, TreeOf}
use Rattle.vm_ids.proofs.Forest.NodesAfter.{IsNode-put_cases, put-IsNode}
use Rattle.vm_ids.proofs.Forest.Fitting.{parent_cases, IsNode-parent}
use Rattle.vm_ids.proofs.Forest.Values.{values_kept}
use Rattle.vm_ids.specs.Forest.Values.IsValue.{itself, above}
use Rattle.vm_ids.proofs.Forest.LinkingOver.{was, new_w, new_d, linked_in, linked_in-linked, linked_in-values, node-none, set_tree-hang, set_tree-hang_other, set_tree-own, set_tree-stubs, set_tree-tree, set_tree-tree_other}

-- d becomes the only tree child of s
module _ {P : Type 0} (f : Forest P) (linked : IsLinked f) (d s : NodeName)
    (bare_d : node f d ≡ childless None Root) (d_s : d ≢ s) (tree_is : (node f s).tree ≡ []) (one : most_tree_children s ≡ 1) where
  hung : Forest P
  hung = set_tree f s (d ∷ [])

  hung_none : (y : NodeName) → parent f y ≡ Some d → ⊥
  hung_none y up = elim (parent_cases f linked y d up) [
    | inl t ↦ subst (λ n. y ∈ n.tree) bare_d ((linked.tree_links y d).1 t)
    | inr t ↦ subst (λ n. y ∈ n.stubs) bare_d ((linked.stub_links y d).1 t)
  ]

  hung-hang : (y : NodeName) → y ≢ d → (node hung y).hang ≡ (node f y).hang
  unfolding hung
  hung-hang y a = set_tree-hang_other f s _ y (λ i. elim i [ inl e ↦ a e | inr k ↦ k ])

  hung-hang_d : (node hung d).hang ≡ TreeOf s
  unfolding hung
  hung-hang_d = set_tree-hang f s _ d (inl refl)

  hung-hang_of : (y : NodeName) → y ≡ d → (node hung y).hang ≡ TreeOf s
  hung-hang_of y e = ap (λ z. (node hung z).hang) e ∙ hung-hang_d

  old_root : (y : NodeName) → y ≡ d → (node f y).hang ≡ Root
  old_root y e = ap (λ z. (node f z).hang) e ∙ ap (λ n. n.hang) bare_d

  hung-own : (y : NodeName) → (node hung y).own ≡ (node f y).own
  unfolding hung
  hung-own y = set_tree-own f s _ y

  hung-stubs : (y : NodeName) → (node hung y).stubs ≡ (node f y).stubs
  unfolding hung
  hung-stubs y = set_tree-stubs f s _ y

  hung-tree_s : (node hung s).tree ≡ d ∷ []
  unfolding hung
  hung-tree_s = set_tree-tree f s _

  hung-tree : (y : NodeName) → y ≢ s → (node hung y).tree ≡ (node f y).tree
  unfolding hung
  hung-tree y a = set_tree-tree_other f s _ y a

  hung_rank : NodeName → ℕ
  hung_rank y = cond (same d y) (linked.order.0 s + 1) (linked.order.0 y)

  hung_rank_d : hung_rank d ≡ linked.order.0 s + 1
  unfolding hung_rank
  hung_rank_d = rw (same_itself d)

  hung_rank_other : (y : NodeName) → y ≢ d → hung_rank y ≡ linked.order.0 y
  unfolding hung_rank
  hung_rank_other y a = rw (same_apart d y (λ e. a (sym e)))

  hung-ranked : IsRanked hung hung_rank
  hung-ranked y p up = elim (name_cases y d) [
    | inl e ↦
        let p_is : p ≡ s = cc (up, ap parent_of (hung-hang_of y e)) in
        let at_p = ap hung_rank p_is ∙ hung_rank_other s (λ q. d_s (sym q)) in
        let at_y = ap hung_rank e ∙ hung_rank_d in
        omega arith
    | inr a ↦
        let old : parent f y ≡ Some p = ap parent_of (sym (hung-hang y a)) ∙ up in
        let at_y = hung_rank_other y a in
        let at_p = hung_rank_other p (λ q. hung_none y (old ∙ ap Some q)) in
        let low = linked.order.1 y p old in
        omega arith
  ]

  hung-linked : IsLinked hung
  hung-linked = record {
    order = (hung_rank, hung-ranked);
    few = λ y. elim (name_cases y s) [
      | inl e ↦ subst (λ z. length (node hung z).tree ≤ most_tree_children z) (sym e) (rw (hung-tree_s, one) (omega arith))
      | inr b ↦ rw (hung-tree y b) (linked.few y)
    ];
    stub_bare = λ y p u. elim (name_cases y d) [
      | inl e ↦ absurd (cc (u, hung-hang_of y e))
      | inr a ↦ hung-own y ∙ linked.stub_bare y p (sym (hung-hang y a) ∙ u)
    ];
    tree_links = λ y p. (
      λ i. elim (name_cases p s) [
        | inl e ↦ elim (subst (λ xs. y ∈ xs) (ap (λ z. (node hung z).tree) e ∙ hung-tree_s) i) [ inl q ↦ hung-hang_of y q ∙ ap TreeOf (sym e) | inr k ↦ absurd k ]
        | inr b ↦
            let old = (linked.tree_links y p).0 (subst (λ xs. y ∈ xs) (hung-tree p b) i) in
            elim (name_cases y d) [ inl e ↦ absurd (cc (old, old_root y e)) | inr a ↦ hung-hang y a ∙ old ]
      ],
      λ u. elim (name_cases y d) [
        | inl e ↦
            let p_is : s ≡ p = cc (u, hung-hang_of y e) in
            subst (λ z. y ∈ (node hung z).tree) p_is (subst (λ xs. y ∈ xs) (sym hung-tree_s) (inl e))
        | inr a ↦
            let old = sym (hung-hang y a) ∙ u in
            let not_s : p ≢ s = λ q. subst (λ xs. y ∈ xs) tree_is ((linked.tree_links y s).1 (old ∙ ap TreeOf q)) in
            subst (λ xs. y ∈ xs) (sym (hung-tree p not_s)) ((linked.tree_links y p).1 old)
      ],
    );
    stub_links = λ y p. (
      λ i.
          let old = (linked.stub_links y p).0 (subst (λ xs. y ∈ xs) (hung-stubs p) i) in
          elim (name_cases y d) [ inl e ↦ absurd (cc (old, old_root y e)) | inr a ↦ hung-hang y a ∙ old ],
      λ u. elim (name_cases y d) [
        | inl e ↦ absurd (cc (u, hung-hang_of y e))
        | inr a ↦ subst (λ xs. y ∈ xs) (sym (hung-stubs p)) ((linked.stub_links y p).1 (sym (hung-hang y a) ∙ u))
      ],
    );
    once = λ y. (
      elim (name_cases y s) [
        | inl e ↦ subst Once (sym (ap (λ z. (node hung z).tree) e ∙ hung-tree_s)) ((λ k. k), tt)
        | inr b ↦ subst Once (sym (hung-tree y b)) (linked.once y).0
      ],
      subst Once (sym (hung-stubs y)) (linked.once y).1,
    );
  }

  hung-values : {y : NodeName} {v : P} → IsValue f y v → IsValue hung y v
  hung-values = values_kept f hung λ y v r. elim (name_cases y d) [
    | inl e ↦ absurd (no_value d bare_d (subst (λ z. IsValue f z v) e r))
    | inr a ↦ inr (hung-own y, ap parent_of (hung-hang y a))
  ]
    where
      no_value : {v : P} (x : NodeName) → node f x ≡ childless None Root → IsValue f x v → ⊥
      no_value x bare (itself e) = cc (e, ap (λ n. n.own) bare)
      no_value x bare (above none up r) = cc (up, ap (λ n. parent_of n.hang) bare)

  hung-value_d : (v : P) → IsValue f s v → IsValue hung d v
  hung-value_d v r = above (hung-own d ∙ ap (λ n. n.own) bare_d) (ap parent_of hung-hang_d) (hung-values r)

only : (xs : List NodeName) (h : NodeName) (rest : List NodeName) → xs ≡ h ∷ rest → length xs ≤ 1 → xs ≡ h ∷ []
only xs h [] e few = e
only xs h (x ∷ rest) e few = absurd (let l = ap length e in omega arith)

-- what link leaves
pub record Links {P : Type 0} (f g : Forest P) (d s : NodeName) : Type 0 where
  pub shape : IsLinked g
  pub kept : (y : NodeName) (v : P) → IsValue f y v → IsValue g y v
  pub of_source : (v : P) → IsValue f s v → IsValue g d v
  pub names : (z : NodeName) → IsNode g z → IsNode f z ⊎ ((v : P) → IsValue f s v → IsValue g z v)
  pub new : (z : NodeName) → IsNode g z → IsNode f z ⊎ (z ≡ Working (f.made + 1))
  pub stays : (z : NodeName) → IsNode f z → IsNode g z
  pub counted : IsCounted f → IsCounted g

module _ {P : Type 0} where
  pub IsLinked-count_working : (g : Forest P) → IsLinked g → IsLinked (count_working g)
  unfolding node
  IsLinked-count_working g k = record { order = k.order; few = k.few; stub_bare = k.stub_bare; tree_links = k.tree_links; stub_links = k.stub_links; once = k.once }

  IsValue-count_working : (g : Forest P) {y : NodeName} {v : P} → IsValue g y v → IsValue (count_working g) y v
  unfolding node
  IsValue-count_working g = values_kept g (count_working g) (λ y v r. inr (refl, refl))

  hang_all-names : (f : Forest P) (xs : List NodeName) (h : Hang) (z : NodeName) → IsNode (hang_all f xs h) z → IsNode f z ⊎ (z ∈ xs)
  unfolding hang_all
  hang_all-names f [] h z is = inl is
  hang_all-names f (x ∷ xs) h z is = elim (IsNode-put_cases (hang_all f xs h) x z _ is) [
    | inl e ↦ inr (inl e)
    | inr old ↦ elim (hang_all-names f xs h z old) [ inl k ↦ inl k | inr j ↦ inr (inr j) ]
  ]

  hang_all-stays : (f : Forest P) (xs : List NodeName) (h : Hang) (z : NodeName) → IsNode f z → IsNode (hang_all f xs h) z
  unfolding hang_all
  hang_all-stays f [] h z is = is
  hang_all-stays f (x ∷ xs) h z is = put-IsNode (hang_all f xs h) x z _ (hang_all-stays f xs h z is)

  hang_all-made : (f : Forest P) (xs : List NodeName) (h : Hang) → (hang_all f xs h).made ≡ f.made
  unfolding hang_all put
  hang_all-made f [] h = refl
  hang_all-made f (x ∷ xs) h = hang_all-made f xs h

  set_tree-names : (f : Forest P) (p : NodeName) (xs : List NodeName) (z : NodeName) → IsNode (set_tree f p xs) z → IsNode f z ⊎ (z ∈ (p ∷ xs))
  unfolding set_tree
  set_tree-names f p xs z is = elim (hang_all-names _ xs _ z is) [
    | inl k ↦ elim (IsNode-put_cases f p z _ k) [ inl e ↦ inr (inl e) | inr old ↦ inl old ]
    | inr j ↦ inr (inr j)
  ]

  set_tree-stays : (f : Forest P) (p : NodeName) (xs : List NodeName) (z : NodeName) → IsNode f z → IsNode (set_tree f p xs) z
  unfolding set_tree
  set_tree-stays f p xs z is = hang_all-stays _ xs _ z (put-IsNode f p z _ is)

  set_tree-made : (f : Forest P) (p : NodeName) (xs : List NodeName) → (set_tree f p xs).made ≡ f.made
  unfolding set_tree put
  set_tree-made f p xs = hang_all-made _ xs _

  pub link-Links : (f : Forest P) → IsLinked f → (d s : NodeName) → node f d ≡ childless None Root → IsNode f d → d ≢ s → IsNode f s → (IsNode f (Working (f.made + 1)) → ⊥) → most_tree_children s ≡ 1 → Links f (link f d s) d s
  unfolding link linked_in hung
  link-Links f linked d s bare node_d d_s node_s fresh one = go (node f s).tree refl
    where
      go : (xs : List NodeName) → (node f s).tree ≡ xs → Links f (elim xs [
        | [] ↦ set_tree f s (d ∷ [])
        | h ∷ _ ↦ let w = Working (f.made + 1) in count_working (set_tree (set_tree f s (w ∷ [])) w (h ∷ d ∷ []))
      ]) d s
      go [] e =
          let old : (z : NodeName) → IsNode (set_tree f s (d ∷ [])) z → IsNode f z = λ z is. elim (set_tree-names f s (d ∷ []) z is) [
            | inl k ↦ k
            | inr j ↦ elim j [ inl q ↦ subst (IsNode f) (sym q) node_s | inr k ↦ elim k [ inl q ↦ subst (IsNode f) (sym q) node_d | inr l ↦ absurd l ] ]
          ] in
          record {
            shape = hung-linked f linked d s bare d_s e one;
            kept = λ y v r. hung-values f linked d s bare d_s e one r;
            of_source = hung-value_d f linked d s bare d_s e one;
            names = λ z is. inl (old z is);
            new = λ z is. inl (old z is);
            stays = set_tree-stays f s (d ∷ []);
            counted = λ counts k is. subst (λ m. k ≤ m) (sym (set_tree-made f s (d ∷ []))) (counts k (old (Working k) is));
          }
      go (h ∷ rest) e =
          let w = Working (f.made + 1) in
          let g = set_tree (set_tree f s (w ∷ [])) w (h ∷ d ∷ []) in
          let tree_is = only _ h rest e (subst (λ n. length (node f s).tree ≤ n) one (linked.few s)) in
          let bare_w = node-none f w fresh in
          let w_s : w ≢ s = λ q. fresh (subst (IsNode f) (sym q) node_s) in
          let w_d : w ≢ d = λ q. fresh (subst (IsNode f) (sym q) node_d) in
          let node_h : IsNode f h = IsNode-parent f h s (ap parent_of ((linked.tree_links h s).0 (subst (λ xs. h ∈ xs) (sym e) (inl refl)))) in
          let values = linked_in-values f linked d s h w bare bare_w d_s w_s w_d tree_is refl one in
          let cases : (z : NodeName) → IsNode g z → IsNode f z ⊎ (z ≡ w) = λ z is. elim (set_tree-names (set_tree f s (w ∷ [])) w (h ∷ d ∷ []) z is) [
            | inl k ↦ elim (set_tree-names f s (w ∷ []) z k) [
              | inl old ↦ inl old
              | inr j ↦ elim j [ inl q ↦ inl (subst (IsNode f) (sym q) node_s) | inr k ↦ elim k [ inl q ↦ inr q | inr l ↦ absurd l ] ]
            ]
            | inr j ↦ elim j [ inl q ↦ inr q | inr k ↦ elim k [ inl q ↦ inl (subst (IsNode f) (sym q) node_h) | inr l ↦ elim l [ inl q ↦ inl (subst (IsNode f) (sym q) node_d) | inr m ↦ absurd m ] ] ]
          ] in
          let made_is : g.made ≡ f.made = set_tree-made (set_tree f s (w ∷ [])) w (h ∷ d ∷ []) ∙ set_tree-made f s (w ∷ []) in
          record {
            shape = IsLinked-count_working _ (linked_in-linked f linked d s h w bare bare_w d_s w_s w_d tree_is refl one);
            kept = λ y v r. IsValue-count_working _ (values y v (was r));
            of_source = λ v r. IsValue-count_working _ (values d v (new_d refl r));
            names = λ z is. elim (cases z is) [ inl k ↦ inl k | inr q ↦ inr (λ v r. IsValue-count_working _ (values z v (new_w q r))) ];
            new = cases;
            stays = λ z is. set_tree-stays (set_tree f s (w ∷ [])) w (h ∷ d ∷ []) z (set_tree-stays f s (w ∷ []) z is);
            counted = λ counts k is. elim (cases (Working k) is) [
              | inl k_old ↦ (let low = counts k k_old in omega arith)
              | inr q ↦ (let number : k ≡ f.made + 1 = cc q in omega arith)
            ];
          }
