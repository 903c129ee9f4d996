-- Cutting a stub out is the rule of the forest.
use Rattle.std.proofs.Common.{Bool, true, false, ◌≡◌, ◌≢◌, ◌<◌, true, cond, List, [], ◌∷◌, ◌++◌, map, not, is_some, unwrap_or, Option, Some, None, refl, sym, ap, ◌∙◌, subst, inl, inr, arith, length-append}
use Rattle.std.proofs.lemmas.Bool.{false≢true}
use Rattle.vm_ids.specs.declared.node_name.NodeName.{NodeName}
use Rattle.vm_ids.specs.Forest.Names.{same}
use Rattle.vm_ids.proofs.Forest.Names.{name_cases, same_itself, same_apart}
use Rattle.vm_ids.specs.Forest.NameMap.{insert, get}
use Rattle.vm_ids.proofs.Forest.NameMap.{get-insert, same_map}
use Rattle.vm_ids.specs.Forest.Changes as forest
use Rattle.vm_ids.specs.Forest.Nodes as nodes
use Rattle.vm_ids.specs.Forest.NameLists as names
use Rattle.vm_ids.specs.Forest.Nodes.{Forest, Node, node, IsNode, Hang, parent, is_stub}
use Rattle.vm_ids.specs.Forest.Shape.{IsLinked}
use Rattle.vm_ids.specs.Forest.Changes.{edit, cut_stub, with_own}
use Rattle.vm_ids.specs.Forest.NameLists.{without}
use Rattle.vm_ids.specs.Forest.Rules.{gets}
use Rattle.vm_ids.specs.Forest.Nodes.Hang.{Root, TreeOf, StubOf}
use Rattle.vm_ids.proofs.Forest.NodesAfter.{node-put, keeps}
use Rattle.vm_ids.proofs.Forest.Columns.{cut_stub-keeps, cut_stub-hang, cut_stub-hang_other, cut_stub-tree, cut_stub-stubs, left_stubs, unstub}
use Rattle.vm_ids.proofs.Forest.Handing.{gets-linked}
use Rattle.vm_ids.proofs.Forest.NamesAfter.{cut_stub-names}
use Rattle.vm_ids.specs.declared.numbers.NodeId.{NodeId}
use Rattle.local_cache.specs.declared.own_state.OwnState.{OwnState}
use Rattle.local_cache.specs.Arena.{Arena, cell, HasNode}
use Rattle.local_cache.specs.Reading.{name_of, forest_of, hang_by, stubs_of, page_of}
use Rattle.local_cache.specs.Threads.{head_or, last_or, IsStub, IsThreaded}
use Rattle.local_cache.specs.Sound.{IsSound, IsKept, ◌∈◌}
use Rattle.local_cache.proofs.Forest.StubRows.{threaded_is, row-rear, row-each, Keeps, keeps_links, threaded-kept, option_cases, last_in}
use Rattle.local_cache.proofs.Changes.SameNodes.{Like, Relinked, id_cases, parent-read, forest_of-made, forest_of-copies}
use Rattle.local_cache.proofs.Forest.Reading.{node-forest_of, IsNode-forest_of}
use Rattle.local_cache.proofs.Forest.Rule.{Follows, follows-forest, follows-sound}
use Rattle.page_stubs.specs.Threading.{IsHeldIf, cut_out}
use Rattle.page_stubs.proofs.Lists.Cut.{Cut, Apart, cut-Cut, threaded_cut, Once, once-apart, once-rear, in_left, in_right}

pub by_stub : (a : Arena) (up : Option NodeId) (t : Bool) → is_stub (hang_by a up t) ≡ true → t ≡ true
by_stub a None t e = absurd (cc e)
by_stub a (Some p) true e = e
by_stub a (Some p) false e = absurd (cc e)

-- a list that has y is in two parts round it
pub split : (ys : List NodeId) (y : NodeId) → y ∈ ys → (us : List NodeId) × (vs : List NodeId) × (ys ≡ us ++ y ∷ vs)
split [] y i = absurd i
split (z ∷ ys) y (inl e) = ([], ys, ap (λ k. k ∷ ys) (sym e))
split (z ∷ ys) y (inr i) = let s = split ys y i in (z ∷ s.0, s.1, ap (λ zs. z ∷ zs) s.2)

pub in_map : (a : Arena) (zs : List NodeId) (y : NodeId) → y ∈ zs → names.◌∈◌ (name_of a y) (map (name_of a) zs)
in_map a [] y i = i
in_map a (z ∷ zs) y (inl e) = inl (ap (name_of a) e)
in_map a (z ∷ zs) y (inr i) = inr (in_map a zs y i)

pub once-map : (a : Arena) (ys : List NodeId) → names.Once (map (name_of a) ys) → Once ys
once-map a [] once = tt
once-map a (y ∷ ys) once = ((λ i. once.0 (in_map a ys y i)), once-map a ys once.1)

pub map-in : (a : Arena) → IsKept a → (n : NodeId) → HasNode a n → (ys : List NodeId) → ((m : NodeId) → m ∈ ys → HasNode a m) → names.◌∈◌ (name_of a n) (map (name_of a) ys) → n ∈ ys
map-in a kept n h [] all i = i
map-in a kept n h (y ∷ ys) all (inl e) = inl (kept.named.apart n y h (all y (inl refl)) e)
map-in a kept n h (y ∷ ys) all (inr i) = inr (map-in a kept n h ys (λ m j. all m (inr j)) i)

without-map : (a : Arena) → IsKept a → (n : NodeId) → HasNode a n → (ys : List NodeId) → ((m : NodeId) → m ∈ ys → HasNode a m) → (n ∈ ys → ⊥) → without (name_of a n) (map (name_of a) ys) ≡ map (name_of a) ys
without-map a kept n h [] all out = refl
without-map a kept n h (y ∷ ys) all out =
    ap (λ b. cond (not b) (name_of a y ∷ without (name_of a n) (map (name_of a) ys)) (without (name_of a n) (map (name_of a) ys))) (same_apart (name_of a n) (name_of a y) (λ e. out (inl (kept.named.apart n y h (all y (inl refl)) e))))
    ∙ ap (λ zs. name_of a y ∷ zs) (without-map a kept n h ys (λ m j. all m (inr j)) (λ i. out (inr i)))

without-split : (a : Arena) → IsKept a → (n : NodeId) → HasNode a n → (us vs : List NodeId) → ((m : NodeId) → m ∈ (us ++ n ∷ vs) → HasNode a m) → Once (us ++ n ∷ vs) → without (name_of a n) (map (name_of a) (us ++ n ∷ vs)) ≡ map (name_of a) (us ++ vs)
without-split a kept n h [] vs all once =
    ap (λ b. cond (not b) (name_of a n ∷ without (name_of a n) (map (name_of a) vs)) (without (name_of a n) (map (name_of a) vs))) (same_itself (name_of a n))
    ∙ without-map a kept n h vs (λ m i. all m (inr i)) once.0
without-split a kept n h (u ∷ us) vs all once =
    ap (λ b. cond (not b) (name_of a u ∷ without (name_of a n) (map (name_of a) (us ++ n ∷ vs))) (without (name_of a n) (map (name_of a) (us ++ n ∷ vs)))) (same_apart (name_of a n) (name_of a u) (λ e. once.0 (subst (λ k. k ∈ (us ++ n ∷ vs)) (kept.named.apart n u h (all u (inl refl)) e) (in_right us (n ∷ vs) n (inl refl)))))
    ∙ ap (λ zs. name_of a u ∷ zs) (without-split a kept n h us vs (λ m i. all m (inr i)) once.1)

-- the own page of x taken away and put back
put_back : {P : Type 0} (f : Forest P) (x : NodeName) → IsNode f x → edit (edit f x (with_own None)) x (with_own (node f x).own) ≡ f
unfolding forest.put node
put_back {P} f x h =
    let bare : Node P = with_own None (node f x) in
    let again : Node P → Node P = with_own (node f x).own in
    let whole : again (node (forest.put f x bare) x) ≡ node f x = ap again (node-put f x bare) in
    let nodes : insert (insert f.nodes x bare) x (again (node (forest.put f x bare) x)) ≡ f.nodes =
    same_map (insert (insert f.nodes x bare) x (again (node (forest.put f x bare) x))) f.nodes (λ q.
    get-insert (insert f.nodes x bare) x (again (node (forest.put f x bare) x)) q
    ∙ ap (cond (same q x) (Some (again (node (forest.put f x bare) x)))) (get-insert f.nodes x bare q)
    ∙ elim (name_cases q x) [
      | inl e ↦ ap (λ c. cond c (Some (again (node (forest.put f x bare) x))) (cond c (Some bare) (get f.nodes q))) (ap (λ k. same k x) e ∙ same_itself x) ∙ ap Some whole ∙ by_option (get f.nodes x) h ∙ ap (get f.nodes) (sym e)
      | inr ne ↦ ap (λ c. cond c (Some (again (node (forest.put f x bare) x))) (cond c (Some bare) (get f.nodes q))) (same_apart q x ne)
    ]) in
    λ i. record { nodes = nodes i; made = f.made; copies = f.copies }
  where
    by_option : (o : Option (Node P)) → is_some o ≡ true → Some (unwrap_or o (nodes.childless None Root)) ≡ o
    by_option (Some v) e = refl
    by_option None e = absurd (false≢true e)

as_gets : {P : Type 0} (f : Forest P) → IsLinked f → (x : NodeName) (v : Option P) → IsLinked (cut_stub (edit f x (with_own v)) x)
unfolding gets
as_gets f linked x v = gets-linked f linked x v

cut_counts : {P : Type 0} (f : Forest P) (x : NodeName) → ((cut_stub f x).made ≡ f.made) × ((cut_stub f x).copies ≡ f.copies)
unfolding cut_stub forest.cut forest.relist forest.put
cut_counts f x = go (node f x).hang
  where
    go : (h : Hang) → ((cond (is_stub h) (forest.put (forest.relist f h (without x)) x (forest.with_hang Root (node (forest.relist f h (without x)) x))) f).made ≡ f.made) × ((cond (is_stub h) (forest.put (forest.relist f h (without x)) x (forest.with_hang Root (node (forest.relist f h (without x)) x))) f).copies ≡ f.copies)
    go Root = (refl, refl)
    go (TreeOf p) = (refl, refl)
    go (StubOf p) = (refl, refl)

-- what cutting n out leaves
pub record HasCut (a b : Arena) (n : NodeId) : Type 0 where
  pub forest : forest_of b ≡ cut_stub (forest_of a) (name_of a n)
  pub sound : IsSound b
  pub links : Relinked a b

module _ (a : Arena) (kept : IsKept a) (n p : NodeId) (hn : HasNode a n) (linked : IsLinked (edit (forest_of a) (name_of a n) (with_own None)))
    (up : (cell a n).links.parent ≡ Some p) (by : (cell a n).links.by_stub ≡ true) where
  f : Forest OwnState
  f = forest_of a

  bare : Forest OwnState
  bare = edit (forest_of a) (name_of a n) (with_own None)

  hp : HasNode a p
  hp = kept.parents n p hn up

  hang_n : (node (forest_of a) (name_of a n)).hang ≡ StubOf (name_of a p)
  hang_n = ap (λ m. m.hang) (node-forest_of a kept.named n hn) ∙ ap (λ o. hang_by a o (cell a n).links.by_stub) up ∙ ap (hang_by a (Some p)) by

  same_hang : (x : NodeName) → (node (edit (forest_of a) (name_of a n) (with_own None)) x).hang ≡ (node (forest_of a) x).hang
  same_hang x = keeps (λ m. m.hang) (forest_of a) (name_of a n) _ refl x

  same_stubs : (x : NodeName) → (node (edit (forest_of a) (name_of a n) (with_own None)) x).stubs ≡ (node (forest_of a) x).stubs
  same_stubs x = keeps (λ m. m.stubs) (forest_of a) (name_of a n) _ refl x

  ids_p : (node (forest_of a) (name_of a p)).stubs ≡ map (name_of a) (stubs_of a p)
  ids_p = ap (λ m. m.stubs) (node-forest_of a kept.named p hp)

  all_held : (m : NodeId) → m ∈ stubs_of a p → HasNode a m
  all_held m i = (row-each a p None (stubs_of a p) None (kept.threaded p hp).row m i).0

  pub in_list : n ∈ stubs_of a p
  in_list = map-in a kept n hn (stubs_of a p) all_held (subst (λ xs. names.◌∈◌ (name_of a n) xs) (same_stubs (name_of a p) ∙ ids_p) ((linked.stub_links (name_of a n) (name_of a p)).1 (same_hang (name_of a n) ∙ hang_n)))

  once_ids : Once (stubs_of a p)
  once_ids = once-map a (stubs_of a p) (subst names.Once (same_stubs (name_of a p) ∙ ids_p) (linked.once (name_of a p)).1)

  no_loop : (m : NodeId) → HasNode a m → (cell a m).links.parent ≡ Some m → ⊥
  no_loop m h e = let less = linked.order.1 (name_of a m) (name_of a m) (ap nodes.parent_of (same_hang (name_of a m)) ∙ parent-read a kept.named m m h e) in omega arith

  module _ (us vs : List NodeId) (is : stubs_of a p ≡ us ++ n ∷ vs) where
    t : IsThreaded a p (us ++ n ∷ vs)
    t = subst (IsThreaded a p) is (kept.threaded p hp)

    once : Once (us ++ n ∷ vs)
    once = subst Once is once_ids

    each : (m : NodeId) → m ∈ (us ++ n ∷ vs) → HasNode a m × ((cell a m).links.parent ≡ Some p) × ((cell a m).links.by_stub ≡ true)
    each m i = row-each a p None (us ++ n ∷ vs) None t.row m i

    at_n : IsStub a p (last_or us None) n (head_or vs None)
    at_n = (row-rear a p None us (n ∷ vs) None t.row).0

    in_us : (m : NodeId) → last_or us None ≡ Some m → m ∈ us
    in_us m e = last_in us m e

    in_vs : (zs : List NodeId) (m : NodeId) → head_or zs None ≡ Some m → m ∈ zs
    in_vs [] m e = absurd (cc e)
    in_vs (z ∷ zs) m e = let same : z ≡ m = cc e in inl (sym same)

    before_each : (m : NodeId) → last_or us None ≡ Some m → HasNode a m × ((cell a m).links.parent ≡ Some p) × ((cell a m).links.by_stub ≡ true)
    before_each m e = each m (in_left us (n ∷ vs) m (in_us m e))

    behind_each : (m : NodeId) → head_or vs None ≡ Some m → HasNode a m × ((cell a m).links.parent ≡ Some p) × ((cell a m).links.by_stub ≡ true)
    behind_each m e = each m (in_right us (n ∷ vs) m (inr (in_vs vs m e)))

    not_p : (m : NodeId) → (cell a m).links.parent ≡ Some p → m ≢ p
    not_p m u e = no_loop p hp (subst (λ k. (cell a k).links.parent ≡ Some p) e u)

    far : Apart n p (last_or us None) (head_or vs None)
    far = record {
      n_p = not_p n up;
      before_n = λ e. once-apart us (n ∷ vs) once n (in_us n e) (inl refl);
      before_p = λ e. not_p p (before_each p e).1 refl;
      behind_n = λ e. (once-rear us (n ∷ vs) once).0 (in_vs vs n e);
      behind_p = λ e. not_p p (behind_each p e).1 refl;
      both = λ m e g. once-apart us (n ∷ vs) once m (in_us m e) (inr (in_vs vs m g));
    }

    if_held : (o : Option NodeId) → ((m : NodeId) → o ≡ Some m → HasNode a m) → IsHeldIf a o
    if_held None all = tt
    if_held (Some m) all = all m refl

    the_cut : Cut a (cut_out a n p (last_or us None) (head_or vs None)) n p (last_or us None) (head_or vs None)
    the_cut = cut-Cut a n p (last_or us None) (head_or vs None) hn hp (if_held (last_or us None) (λ m e. (before_each m e).0)) (if_held (head_or vs None) (λ m e. (behind_each m e).0)) far

    module _ (b : Arena) (cut : Cut a b n p (last_or us None) (head_or vs None)) where
      like : Like a b
      like = cut.relinked.like

      list_p : IsThreaded b p (us ++ vs)
      list_p = threaded_cut a b n p us vs t once (no_loop p hp) cut

      data Case (m : NodeId) : Type 0 where
        At_n : m ≡ n → Case m
        At_p : m ≡ p → Case m
        At_before : last_or us None ≡ Some m → Case m
        At_behind : head_or vs None ≡ Some m → Case m
        Other : (cell b m).links ≡ (cell a m).links → Case m

      case : (m : NodeId) → Case m
      case m = elim (id_cases m n) [
        | inl e ↦ At_n e
        | inr nn ↦ elim (id_cases m p) [
          | inl e ↦ At_p e
          | inr np ↦ elim (option_cases (last_or us None) m) [
            | inl e ↦ At_before e
            | inr nb ↦ elim (option_cases (head_or vs None) m) [ inl e ↦ At_behind e | inr nh ↦ Other (cut.others m nn np nb nh) ]
          ]
        ]
      ]

      -- a stub of another node
      clash : (x m : NodeId) → x ≢ p → (cell a m).links.parent ≡ Some x → (cell a m).links.parent ≡ Some p → ⊥
      clash x m xp u v = xp (let two : Some x ≡ Some p = sym u ∙ v in cc two)

      place_kept : (x m : NodeId) → x ≢ p → (cell a m).links.parent ≡ Some x → Keeps a b m
      place_kept x m xp u = elim (case m) [
        | At_n e ↦ absurd (clash x m xp u (ap (λ k. (cell a k).links.parent) e ∙ up))
        | At_p e ↦ subst (Keeps a b) (sym e) (record { held = λ h. like.held p ∙ h; parent = ap (λ l. l.parent) cut.of_p; by_stub = ap (λ l. l.by_stub) cut.of_p; before = ap (λ l. l.before) cut.of_p; behind = ap (λ l. l.behind) cut.of_p })
        | At_before e ↦ absurd (clash x m xp u (before_each m e).1)
        | At_behind e ↦ absurd (clash x m xp u (behind_each m e).1)
        | Other e ↦ keeps_links a b m (λ h. like.held m ∙ h) e
      ]

      abbrev EndsKept : NodeId → Type 0
      EndsKept m = ((cell b m).links.first ≡ (cell a m).links.first) × ((cell b m).links.last ≡ (cell a m).links.last) × ((cell b m).links.stubs ≡ (cell a m).links.stubs)

      ends_kept : (m : NodeId) → m ≢ p → EndsKept m
      ends_kept m np = elim (case m) [
        | At_n e ↦ subst EndsKept (sym e) (ap (λ l. l.first) cut.of_n, ap (λ l. l.last) cut.of_n, ap (λ l. l.stubs) cut.of_n)
        | At_p e ↦ absurd (np e)
        | At_before e ↦ (ap (λ l. l.first) (cut.of_before m e), ap (λ l. l.last) (cut.of_before m e), ap (λ l. l.stubs) (cut.of_before m e))
        | At_behind e ↦ (ap (λ l. l.first) (cut.of_behind m e), ap (λ l. l.last) (cut.of_behind m e), ap (λ l. l.stubs) (cut.of_behind m e))
        | Other e ↦ (ap (λ l. l.first) e, ap (λ l. l.last) e, ap (λ l. l.stubs) e)
      ]

      abbrev UpKept : NodeId → Type 0
      UpKept m = ((cell b m).links.parent ≡ (cell a m).links.parent) × ((cell b m).links.by_stub ≡ (cell a m).links.by_stub)

      up_kept : (m : NodeId) → m ≢ n → UpKept m
      up_kept m nn = elim (case m) [
        | At_n e ↦ absurd (nn e)
        | At_p e ↦ subst UpKept (sym e) (ap (λ l. l.parent) cut.of_p, ap (λ l. l.by_stub) cut.of_p)
        | At_before e ↦ (ap (λ l. l.parent) (cut.of_before m e), ap (λ l. l.by_stub) (cut.of_before m e))
        | At_behind e ↦ (ap (λ l. l.parent) (cut.of_behind m e), ap (λ l. l.by_stub) (cut.of_behind m e))
        | Other e ↦ (ap (λ l. l.parent) e, ap (λ l. l.by_stub) e)
      ]

      list_other : (x : NodeId) → HasNode a x → x ≢ p → IsThreaded b x (stubs_of a x)
      list_other x h np =
          let tx = kept.threaded x h in
          let k = ends_kept x np in
          threaded-kept a b x (stubs_of a x) (λ y i. place_kept x y np (row-each a x None (stubs_of a x) None tx.row y i).1) k.0 k.1 k.2 tx

      lists : (x : NodeId) → HasNode a x → IsThreaded b x (stubs_of b x)
      lists x h = elim (id_cases x p) [
        | inl e ↦ subst (λ y. IsThreaded b y (stubs_of b y)) (sym e) (subst (IsThreaded b p) (sym (threaded_is b p (us ++ vs) list_p)) list_p)
        | inr np ↦ subst (IsThreaded b x) (sym (threaded_is b x (stubs_of a x) (list_other x h np))) (list_other x h np)
      ]

      g : Forest OwnState
      g = cut_stub (forest_of a) (name_of a n)

      stubs_column : (m : NodeId) → HasNode a m → (node (cut_stub (forest_of a) (name_of a n)) (name_of a m)).stubs ≡ map (name_of a) (stubs_of b m)
      stubs_column m h =
          cut_stub-stubs (forest_of a) (name_of a n) (name_of a m)
          ∙ ap (λ k. left_stubs (name_of a n) k (name_of a m) (node (forest_of a) (name_of a m)).stubs) hang_n
          ∙ ap (λ xs. cond (same (name_of a p) (name_of a m)) (without (name_of a n) xs) xs) (ap (λ k. k.stubs) (node-forest_of a kept.named m h))
          ∙ elim (id_cases m p) [
            | inl e ↦ subst (λ k. cond (same (name_of a p) (name_of a k)) (without (name_of a n) (map (name_of a) (stubs_of a k))) (map (name_of a) (stubs_of a k)) ≡ map (name_of a) (stubs_of b k)) (sym e)
                (ap (λ c. cond c (without (name_of a n) (map (name_of a) (stubs_of a p))) (map (name_of a) (stubs_of a p))) (same_itself (name_of a p))
                ∙ ap (λ ys. without (name_of a n) (map (name_of a) ys)) is
                ∙ without-split a kept n hn us vs (λ k i. (each k i).0) once
                ∙ ap (map (name_of a)) (sym (threaded_is b p (us ++ vs) list_p)))
            | inr np ↦ ap (λ c. cond c (without (name_of a n) (map (name_of a) (stubs_of a m))) (map (name_of a) (stubs_of a m))) (same_apart (name_of a p) (name_of a m) (λ e. np (kept.named.apart m p h hp (sym e))))
                ∙ ap (map (name_of a)) (sym (threaded_is b m (stubs_of a m) (list_other m h np)))
          ]

      hang_column : (m : NodeId) → HasNode a m → (node (cut_stub (forest_of a) (name_of a n)) (name_of a m)).hang ≡ hang_by a (cell b m).links.parent (cell b m).links.by_stub
      hang_column m h = elim (id_cases m n) [
        | inl e ↦ subst (λ k. (node (cut_stub (forest_of a) (name_of a n)) (name_of a k)).hang ≡ hang_by a (cell b k).links.parent (cell b k).links.by_stub) (sym e)
            (cut_stub-hang (forest_of a) (name_of a n) ∙ ap unstub hang_n ∙ sym (ap (λ l. hang_by a l.parent l.by_stub) cut.of_n))
        | inr nn ↦ cut_stub-hang_other (forest_of a) (name_of a n) (name_of a m) (λ e. nn (kept.named.apart m n h hn e))
            ∙ ap (λ k. k.hang) (node-forest_of a kept.named m h)
            ∙ sym (ap (λ o. hang_by a o (cell b m).links.by_stub) (up_kept m nn).0 ∙ ap (hang_by a (cell a m).links.parent) (up_kept m nn).1)
      ]

      rule_linked : IsLinked (cut_stub (forest_of a) (name_of a n))
      rule_linked = subst (λ k. IsLinked (cut_stub k (name_of a n))) (put_back (forest_of a) (name_of a n) (IsNode-forest_of a kept.named n hn)) (as_gets (edit (forest_of a) (name_of a n) (with_own None)) linked (name_of a n) (node (forest_of a) (name_of a n)).own)

      counts : ((cut_stub (forest_of a) (name_of a n)).made ≡ (forest_of a).made) × ((cut_stub (forest_of a) (name_of a n)).copies ≡ (forest_of a).copies)
      counts = cut_counts (forest_of a) (name_of a n)

      rule : Follows a b (cut_stub (forest_of a) (name_of a n)) (stubs_of b)
      rule = record {
        like = like;
        same_made = cut.relinked.made;
        made = sym (counts.0 ∙ forest_of-made a ∙ cut.relinked.made);
        copies = sym (counts.1 ∙ forest_of-copies a ∙ cut.relinked.copies);
        names = cut_stub-names (forest_of a) (name_of a n) (IsNode-forest_of a kept.named n hn) (λ q e. (let two : Some (name_of a p) ≡ Some q = sym (ap nodes.parent_of hang_n) ∙ e in subst (IsNode (forest_of a)) (cc two) (IsNode-forest_of a kept.named p hp)));
        threaded = lists;
        own = λ m h. cut_stub-keeps (λ k. k.own) (λ k j. refl) (λ k j. refl) (λ k j. refl) (forest_of a) (name_of a n) (name_of a m) ∙ ap (λ k. k.own) (node-forest_of a kept.named m h) ∙ ap page_of (sym (cut.relinked.own m));
        hang = hang_column;
        tree = λ m h. cut_stub-tree (forest_of a) (name_of a n) (name_of a m) ∙ ap (λ k. k.tree) (node-forest_of a kept.named m h) ∙ ap (map (name_of a)) (sym (cut.relinked.tree m));
        stubs = stubs_column;
        parents = λ m q h u. elim (id_cases m n) [
          | inl e ↦ absurd (let none : Some q ≡ None = sym u ∙ ap (λ k. (cell b k).links.parent) e ∙ ap (λ l. l.parent) cut.of_n in cc none)
          | inr nn ↦ kept.parents m q h (sym (up_kept m nn).0 ∙ u)
        ];
        children = λ m k h i. kept.children m k h (subst (λ ts. k ∈ ts) (cut.relinked.tree m) i);
        linked = rule_linked;
      }

      pub all_hold : HasCut a b n
      all_hold = record {
        forest = follows-forest a b kept.named (cut_stub (forest_of a) (name_of a n)) (stubs_of b) rule;
        sound = follows-sound a b kept.named (cut_stub (forest_of a) (name_of a n)) (stubs_of b) rule kept.listed;
        links = cut.relinked;
      }

    pub after : (c : Arena) → c ≡ cut_out a n p (last_or us None) (head_or vs None) → HasCut a c n
    after c c_is = subst (λ c. HasCut a c n) (sym c_is) (all_hold (cut_out a n p (last_or us None) (head_or vs None)) the_cut)

  pub cut-rule : (c : Arena) → c ≡ cut_out a n p (cell a n).links.before (cell a n).links.behind → HasCut a c n
  cut-rule c e =
      let s = split (stubs_of a p) n in_list in
      let at = at_n s.0 s.1 s.2 in
      after s.0 s.1 s.2 c (e ∙ ap (λ o. cut_out a n p o (cell a n).links.behind) at.has_before ∙ ap (cut_out a n p (last_or s.0 None)) at.has_behind)

  -- what the code needs of the neighbours
  pub neighbours : IsHeldIf a (cell a n).links.before × IsHeldIf a (cell a n).links.behind × (0 < (cell a p).links.stubs)
  neighbours =
      let s = split (stubs_of a p) n in_list in
      let at = at_n s.0 s.1 s.2 in (
        subst (IsHeldIf a) (sym at.has_before) (if_held s.0 s.1 s.2 (last_or s.0 None) (λ m e. (before_each s.0 s.1 s.2 m e).0)),
        subst (IsHeldIf a) (sym at.has_behind) (if_held s.0 s.1 s.2 (head_or s.1 None) (λ m e. (behind_each s.0 s.1 s.2 m e).0)),
        omega (arith, (t s.0 s.1 s.2).count, length-append s.0 (n ∷ s.1)),
      )
