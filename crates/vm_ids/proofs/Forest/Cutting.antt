-- cut keeps the links of all other nodes.
use Rattle.std.proofs.Common.{◌≡◌, ℕ, suc, ◌≤◌, List, [], ◌∷◌, length, ◌≢◌, Bool, true, false, cond, ◌⊎◌, Option, None, refl, sym, ap, subst, ◌∙◌, inl, inr, arith, filter, le_trans}
use Rattle.vm_ids.specs.declared.node_name.NodeName.{NodeName}
use Rattle.vm_ids.specs.Forest.Names.{same}
use Rattle.vm_ids.proofs.Forest.Names.{name_cases, same_itself, same_apart}
use Rattle.vm_ids.specs.Forest.NameLists.{◌∈◌, Once, without}
use Rattle.vm_ids.specs.Forest.Nodes.{Hang, Node, Forest, node, childless, parent_of}
use Rattle.vm_ids.specs.Forest.Shape.{IsLinked, IsRanked}
use Rattle.vm_ids.specs.Forest.Changes.{put, free, cut, relist, with_own, with_tree, with_stubs}
use Rattle.vm_ids.specs.Forest.Nodes.Hang.{Root, TreeOf, StubOf}
use Rattle.vm_ids.proofs.Forest.NodesAfter.{node-put, node-put_other, keeps, relist-keeps, node-free, node-free_other}
use Rattle.vm_ids.proofs.Forest.Columns.{left_stubs}
use Rattle.vm_ids.proofs.Forest.Handing.{in_left, left_in, left_once}

abbrev pub flip : Hang → Hang
flip Root = Root
flip (TreeOf p) = StubOf p
flip (StubOf p) = TreeOf p

shorter : (test : NodeName → Bool) (xs : List NodeName) → length (filter test xs) ≤ length xs
shorter test [] = omega arith
shorter test (x ∷ xs) = go (test x) (shorter test xs)
  where
    go : (b : Bool) → length (filter test xs) ≤ length xs → length (cond b (x ∷ filter test xs) (filter test xs)) ≤ suc (length xs)
    go true h = omega arith
    go false h = omega arith

pub left_shorter : (x : NodeName) (h : Hang) (p : NodeName) (xs : List NodeName) → length (left_stubs x h p xs) ≤ length xs
left_shorter x Root p xs = omega arith
left_shorter x (TreeOf q) p xs = omega arith
left_shorter x (StubOf q) p xs = go (same q p)
  where
    go : (b : Bool) → length (cond b (without x xs) xs) ≤ length xs
    go true = shorter _ xs
    go false = omega arith

module _ {P : Type 0} where
  -- a list of p, where x is taken out of that of the node q
  listed : (col : Node P → List NodeName) (set : List NodeName → Node P → Node P) → ((xs : List NodeName) (n : Node P) → col (set xs n) ≡ xs) → (f : Forest P) (q x p : NodeName)
      → col (node (put f q (set (without x (col (node f q))) (node f q))) p) ≡ cond (same q p) (without x (col (node f p))) (col (node f p))
  listed col set is f q x p = elim (name_cases p q) [
    | inl e ↦ subst (λ z. col (node (put f q (set (without x (col (node f q))) (node f q))) z) ≡ cond (same q z) (without x (col (node f z))) (col (node f z))) (sym e)
        (rw (same_itself q) (ap col (node-put f q _) ∙ is _ _))
    | inr apart ↦ rw (same_apart q p (λ e. apart (sym e))) (ap col (node-put_other f q p _ apart))
  ]

  relist-stubs : (f : Forest P) (h : Hang) (x p : NodeName) → (node (relist f h (without x)) p).stubs ≡ left_stubs x h p (node f p).stubs
  unfolding relist
  relist-stubs f Root x p = refl
  relist-stubs f (TreeOf q) x p = keeps (λ n. n.stubs) f q _ refl p
  relist-stubs f (StubOf q) x p = listed (λ n. n.stubs) with_stubs (λ xs n. refl) f q x p

  relist-tree : (f : Forest P) (h : Hang) (x p : NodeName) → (node (relist f h (without x)) p).tree ≡ left_stubs x (flip h) p (node f p).tree
  unfolding relist
  relist-tree f Root x p = refl
  relist-tree f (TreeOf q) x p = listed (λ n. n.tree) with_tree (λ xs n. refl) f q x p
  relist-tree f (StubOf q) x p = keeps (λ n. n.tree) f q _ refl p

  module _ (f : Forest P) (x : NodeName) where
    pub cut-own : (y : NodeName) → (node (cut f x) y).own ≡ (node f y).own
    unfolding cut
    cut-own y = keeps (λ n. n.own) _ x _ refl y ∙ relist-keeps (λ n. n.own) (λ n xs. refl) (λ n xs. refl) f _ _ y

    pub cut-hang : (node (cut f x) x).hang ≡ Root
    unfolding cut
    cut-hang = ap (λ n. n.hang) (node-put _ x _)

    pub cut-hang_other : (y : NodeName) → y ≢ x → (node (cut f x) y).hang ≡ (node f y).hang
    unfolding cut
    cut-hang_other y apart = ap (λ n. n.hang) (node-put_other _ x y _ apart) ∙ relist-keeps (λ n. n.hang) (λ n xs. refl) (λ n xs. refl) f _ _ y

    pub cut-tree : (p : NodeName) → (node (cut f x) p).tree ≡ left_stubs x (flip (node f x).hang) p (node f p).tree
    unfolding cut
    cut-tree p = keeps (λ n. n.tree) _ x _ refl p ∙ relist-tree f _ x p

    pub cut-stubs : (p : NodeName) → (node (cut f x) p).stubs ≡ left_stubs x (node f x).hang p (node f p).stubs
    unfolding cut
    cut-stubs p = keeps (λ n. n.stubs) _ x _ refl p ∙ relist-stubs f _ x p

    cut-hang_cases : (y : NodeName) → ((y ≡ x) × ((node (cut f x) y).hang ≡ Root)) ⊎ ((y ≢ x) × ((node (cut f x) y).hang ≡ (node f y).hang))
    cut-hang_cases y = elim (name_cases y x) [
      | inl e ↦ inl (e, ap (λ z. (node (cut f x) z).hang) e ∙ cut-hang)
      | inr apart ↦ inr (apart, cut-hang_other y apart)
    ]

    pub cut-ranked : (rank : NodeName → ℕ) → IsRanked f rank → IsRanked (cut f x) rank
    cut-ranked rank ranked y p up = elim (cut-hang_cases y) [
      | inl k ↦ absurd (cc (up, ap parent_of k.1))
      | inr k ↦ ranked y p (ap parent_of (sym k.1) ∙ up)
    ]

    module _ (linked : IsLinked f) where
      flip_tree : (h : Hang) (p : NodeName) → h ≡ TreeOf p → flip h ≡ StubOf p
      flip_tree h p e = ap flip e

      pub cut-linked : IsLinked (cut f x)
      cut-linked = record {
        order = (linked.order.0, cut-ranked _ linked.order.1);
        few = λ p. rw (cut-tree p) (le_trans (left_shorter x _ p _) (linked.few p));
        stub_bare = λ y p u. cut-own y ∙ elim (cut-hang_cases y) [ inl k ↦ absurd (cc (u, k.1)) | inr k ↦ linked.stub_bare y p (sym k.1 ∙ u) ];
        tree_links = λ y p. (
          λ i.
              let j = in_left x _ p _ y (subst (λ xs. y ∈ xs) (cut-tree p) i) in
              let old = (linked.tree_links y p).0 j.0 in
              elim (cut-hang_cases y) [
                | inl k ↦ absurd (j.1 (ap flip (ap (λ z. (node f z).hang) (sym k.0) ∙ old)) k.0)
                | inr k ↦ k.1 ∙ old
              ],
          λ u. subst (λ xs. y ∈ xs) (sym (cut-tree p)) (elim (cut-hang_cases y) [
            | inl k ↦ absurd (cc (u, k.1))
            | inr k ↦ left_in x _ p _ y ((linked.tree_links y p).1 (sym k.1 ∙ u)) k.0
          ]),
        );
        stub_links = λ y p. (
          λ i.
              let j = in_left x _ p _ y (subst (λ xs. y ∈ xs) (cut-stubs p) i) in
              let old = (linked.stub_links y p).0 j.0 in
              elim (cut-hang_cases y) [
                | inl k ↦ absurd (j.1 (ap (λ z. (node f z).hang) (sym k.0) ∙ old) k.0)
                | inr k ↦ k.1 ∙ old
              ],
          λ u. subst (λ xs. y ∈ xs) (sym (cut-stubs p)) (elim (cut-hang_cases y) [
            | inl k ↦ absurd (cc (u, k.1))
            | inr k ↦ left_in x _ p _ y ((linked.stub_links y p).1 (sym k.1 ∙ u)) k.0
          ]),
        );
        once = λ p. (subst Once (sym (cut-tree p)) (left_once x _ p _ (linked.once p).0), subst Once (sym (cut-stubs p)) (left_once x _ p _ (linked.once p).1));
      }

  -- the shape goes by the links and lists, but for the pages of nodes on stub links
  pub linked_by_columns : (f g : Forest P) → IsLinked f → ((y : NodeName) → (node g y).hang ≡ (node f y).hang) → ((y : NodeName) → (node g y).tree ≡ (node f y).tree) → ((y : NodeName) → (node g y).stubs ≡ (node f y).stubs)
      → ((y p : NodeName) → (node f y).hang ≡ StubOf p → (node g y).own ≡ None) → IsLinked g
  linked_by_columns f g linked hang_is tree_is stubs_is bare = record {
    order = (linked.order.0, λ y p up. linked.order.1 y p (ap parent_of (sym (hang_is y)) ∙ up));
    few = λ y. rw (tree_is y) (linked.few y);
    stub_bare = λ y p u. bare y p (sym (hang_is y) ∙ u);
    tree_links = λ y p. (λ i. hang_is y ∙ (linked.tree_links y p).0 (subst (λ xs. y ∈ xs) (tree_is p) i), λ t. subst (λ xs. y ∈ xs) (sym (tree_is p)) ((linked.tree_links y p).1 (sym (hang_is y) ∙ t)));
    stub_links = λ y p. (λ i. hang_is y ∙ (linked.stub_links y p).0 (subst (λ xs. y ∈ xs) (stubs_is p) i), λ t. subst (λ xs. y ∈ xs) (sym (stubs_is p)) ((linked.stub_links y p).1 (sym (hang_is y) ∙ t)));
    once = λ y. (subst Once (sym (tree_is y)) (linked.once y).0, subst Once (sym (stubs_is y)) (linked.once y).1);
  }

  free-keeps : {A : Type 0} (col : Node P → A) (f : Forest P) (x : NodeName) → col (node f x) ≡ col (childless None Root) → (y : NodeName) → col (node (free f x) y) ≡ col (node f y)
  free-keeps col f x e y = elim (name_cases y x) [
    | inl q ↦ ap (λ z. col (node (free f x) z)) q ∙ ap col (node-free f x) ∙ sym e ∙ ap (λ z. col (node f z)) (sym q)
    | inr apart ↦ ap col (node-free_other f x y apart)
  ]

  -- a node without parent and children goes
  pub free-linked : (f : Forest P) → IsLinked f → (x : NodeName) → (node f x).hang ≡ Root → (node f x).tree ≡ [] → (node f x).stubs ≡ [] → IsLinked (free f x)
  free-linked f linked x root no_tree no_stubs = linked_by_columns f (free f x) linked
      (free-keeps (λ n. n.hang) f x root) (free-keeps (λ n. n.tree) f x no_tree) (free-keeps (λ n. n.stubs) f x no_stubs)
      (λ y p u. elim (name_cases y x) [
        | inl e ↦ absurd (cc (u, ap (λ z. (node f z).hang) e, root))
        | inr apart ↦ ap (λ n. n.own) (node-free_other f x y apart) ∙ linked.stub_bare y p u
      ])

  -- the page of a node that hangs by no stub link
  pub put_page-linked : (f : Forest P) → IsLinked f → (x : NodeName) (o : Option P) → ((p : NodeName) → (node f x).hang ≡ StubOf p → ⊥) → IsLinked (put f x (with_own o (node f x)))
  put_page-linked f linked x o not_stub = linked_by_columns f _ linked (keeps (λ n. n.hang) f x _ refl) (keeps (λ n. n.tree) f x _ refl) (keeps (λ n. n.stubs) f x _ refl)
      (λ y p u. elim (name_cases y x) [
        | inl e ↦ absurd (not_stub p (ap (λ z. (node f z).hang) (sym e) ∙ u))
        | inr apart ↦ ap (λ n. n.own) (node-put_other f x y _ apart) ∙ linked.stub_bare y p u
      ])
