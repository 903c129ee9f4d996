-- A page of which the node is about to go, and of which each child has an own page, is seen by
-- nobody until it has gone.
use Rattle.std.proofs.Common.{◌≡◌, ◌≤◌, ◌≢◌, ◌⊎◌, List, [], ◌∷◌, length, Bool, true, false, cond, ◌&&◌, ◌++◌, Option, Some, None, is_some, option_map, refl, sym, ap, subst, ◌∙◌, inl, inr, arith, le_trans}
use Rattle.std.specs.Option.{IsSome, option_or}
use Rattle.std.proofs.lemmas.List.{length-map}
use Rattle.vm_ids.specs.declared.node_name.NodeName.{NodeName}
use Rattle.vm_ids.specs.Forest.NameLists.{first, swapped}
use Rattle.vm_ids.specs.Forest.Nodes.{Hang, Forest, node, parent, parent_of, childless, is_stub}
use Rattle.vm_ids.specs.Forest.Nodes.Hang.{Root, TreeOf, StubOf}
use Rattle.vm_ids.specs.Forest.Shape.{IsLinked}
use Rattle.vm_ids.specs.Forest.Changes.{put, free, edit, with_own, with_tree, with_hang, cut, hang_all, set_tree, rename, count_working}
use Rattle.vm_ids.specs.Forest.Rules.{stub}
use Rattle.vm_ids.specs.Forest.Settling.{take_place, pass_page, give_way, settle_step}
use Rattle.vm_ids.proofs.Forest.Names.{name_cases}
use Rattle.vm_ids.proofs.Forest.NameLists.{first_in}
use Rattle.vm_ids.proofs.Forest.NodesAfter.{node-put, node-put_other, node-free, node-free_other, keeps, hang_all-keeps}
use Rattle.vm_ids.proofs.Forest.Cutting.{cut-own, cut-hang, cut-hang_other, cut-tree, cut-linked, put_page-linked, left_shorter, flip}
use Rattle.vm_ids.proofs.Forest.TakingPlace.{taken-own, taken-tree, hang_w, hang_y, hang_other, length-subbed}
use Rattle.vm_ids.proofs.Forest.Renaming.{node-rename, parent_across, back}
use Rattle.vm_ids.proofs.Forest.Bound.{child_up}
use Rattle.vm_ids.proofs.Forest.LostPages.{is_lost, IsLost}

module _ {P : Type 0} where
  -- Nobody sees a lost page. Its node is one of those that may have it, and has at most one tree
  -- child; and each of its children has an own page.
  pub record IsUnseen (f : Forest (P × Bool)) (May : NodeName → Type 0) : Type 0 where
    pub place : (x : NodeName) → IsLost f x → May x
    pub few : (x : NodeName) → IsLost f x → length (node f x).tree ≤ 1
    pub owned : (x c : NodeName) → IsLost f x → parent f c ≡ Some x → IsSome (node f c).own

  -- A change that loses no page, and under a lost page leaves no more tree children, and as
  -- children only such as have an own page where a child had one.
  pub record Covers (f g : Forest (P × Bool)) : Type 0 where
    pub lost : (x : NodeName) → IsLost g x → IsLost f x
    pub few : (x : NodeName) → IsLost g x → length (node g x).tree ≤ length (node f x).tree
    pub up : (x c : NodeName) → IsLost g x → parent g c ≡ Some x → (b : NodeName) × (parent f b ≡ Some x) × (IsSome (node f b).own → IsSome (node g c).own)

  pub covered : {May : NodeName → Type 0} (f g : Forest (P × Bool)) → Covers f g → IsUnseen f May → IsUnseen g May
  covered f g k u = record {
    place = λ x l. u.place x (k.lost x l);
    few = λ x l. le_trans (k.few x l) (u.few x (k.lost x l));
    owned = λ x c l up. let r = k.up x c l up in r.2 (u.owned x r.0 (k.lost x l) r.1);
  }

  -- one change after the other
  pub covers_on : (f g h : Forest (P × Bool)) → Covers f g → Covers g h → Covers f h
  covers_on f g h a b = record {
    lost = λ x l. a.lost x (b.lost x l);
    few = λ x l. le_trans (b.few x l) (a.few x (b.lost x l));
    up = λ x c l up. let r = b.up x c l up in let s = a.up x r.0 (b.lost x l) r.1 in (s.0, s.1, λ some. r.2 (s.2 some));
  }

  module _ (f : Forest (P × Bool)) where
    lost_by : (g : Forest (P × Bool)) (x : NodeName) → (node g x).own ≡ (node f x).own → IsLost g x → IsLost f x
    lost_by g x e l = sym (ap is_lost e) ∙ l

    some_by : (g : Forest (P × Bool)) (x : NodeName) → (node g x).own ≡ (node f x).own → IsSome (node f x).own → IsSome (node g x).own
    some_by g x e some = ap is_some e ∙ some

    same_few : (g : Forest (P × Bool)) (x : NodeName) → (node g x).tree ≡ (node f x).tree → length (node g x).tree ≤ length (node f x).tree
    same_few g x e = subst (λ ts. length ts ≤ length (node f x).tree) (sym e) (omega arith)

    pub count_working-covers : Covers f (count_working f)
    unfolding node
    count_working-covers = record { lost = λ x l. l; few = λ x l. omega arith; up = λ x c l up. (c, up, λ some. some) }

    pub cut-covers : (x : NodeName) → Covers f (cut f x)
    cut-covers x = record {
      lost = λ y l. lost_by (cut f x) y (cut-own f x y) l;
      few = λ y l. subst (λ ts. length ts ≤ length (node f y).tree) (sym (cut-tree f x y)) (left_shorter x (flip (node f x).hang) y (node f y).tree);
      up = λ y c l up. elim (name_cases c x) [
        | inl e ↦ absurd (cc (up, ap (λ z. parent (cut f x) z) e, ap parent_of (cut-hang f x)))
        | inr a ↦ (c, ap parent_of (sym (cut-hang_other f x c a)) ∙ up, some_by (cut f x) c (cut-own f x c))
      ];
    }

    pub free-covers : (x : NodeName) → Covers f (free f x)
    free-covers x = record {
      lost = λ y l. lost_by (free f x) y (ap (λ n. n.own) (node-free_other f x y (stays y l))) l;
      few = λ y l. same_few (free f x) y (ap (λ n. n.tree) (node-free_other f x y (stays y l)));
      up = λ y c l up. elim (name_cases c x) [
        | inl e ↦ absurd (cc (up, ap (λ z. parent (free f x) z) e, ap (λ n. parent_of n.hang) (node-free f x)))
        | inr a ↦ (c, ap (λ n. parent_of n.hang) (sym (node-free_other f x c a)) ∙ up, some_by (free f x) c (ap (λ n. n.own) (node-free_other f x c a)))
      ];
    }
      where
        stays : (y : NodeName) → IsLost (free f x) y → y ≢ x
        stays y l e = cc (l, ap (λ z. is_lost (node (free f x) z).own) e, ap (λ n. is_lost n.own) (node-free f x))

    -- a node without parent and children, with a page that isn't lost or none
    pub fresh-covers : (x : NodeName) (o : Option (P × Bool)) → is_lost o ≡ false → Covers f (put f x (childless o Root))
    fresh-covers x o kept = record {
      lost = λ y l. lost_by g y (ap (λ n. n.own) (node-put_other f x y _ (apart y l))) l;
      few = λ y l. same_few g y (ap (λ n. n.tree) (node-put_other f x y _ (apart y l)));
      up = λ y c l up. elim (name_cases c x) [
        | inl e ↦ absurd (cc (up, ap (λ z. parent g z) e, ap (λ n. parent_of n.hang) (node-put f x (childless o Root))))
        | inr a ↦ (c, ap (λ n. parent_of n.hang) (sym (node-put_other f x c _ a)) ∙ up, some_by g c (ap (λ n. n.own) (node-put_other f x c _ a)))
      ];
    }
      where
        g : Forest (P × Bool)
        g = put f x (childless o Root)

        apart : (y : NodeName) → IsLost g y → y ≢ x
        apart y l e = cc (l, kept, ap (λ z. is_lost (node g z).own) e, ap (λ n. is_lost n.own) (node-put f x (childless o Root)))

    -- d becomes a stub of s, whose page isn't lost
    pub stub-covers : (d s : NodeName) → (IsLost f s → ⊥) → Covers f (stub f d s)
    unfolding stub
    stub-covers d s kept = record {
      lost = λ y l. lost_by g y (own_is y) l;
      few = λ y l. same_few g y (keeps (λ n. n.tree) _ d _ refl y ∙ keeps (λ n. n.tree) f s _ refl y);
      up = λ y c l up. elim (name_cases c d) [
        | inl e ↦
            let is : s ≡ y = cc (up, ap (λ z. parent g z) e, ap (λ n. parent_of n.hang) (node-put between d (with_hang (StubOf s) (node between d)))) in
            absurd (kept (subst (IsLost f) (sym is) (lost_by g y (own_is y) l)))
        | inr a ↦ (c, ap parent_of (sym (ap (λ n. n.hang) (node-put_other between d c _ a) ∙ keeps (λ n. n.hang) f s _ refl c)) ∙ up, some_by g c (own_is c))
      ];
    }
      where
        between : Forest (P × Bool)
        between = edit f s (λ n. record n { stubs = n.stubs ++ d ∷ [] })

        g : Forest (P × Bool)
        g = edit between d (with_hang (StubOf s))

        own_is : (y : NodeName) → (node g y).own ≡ (node f y).own
        own_is y = keeps (λ n. n.own) _ d _ refl y ∙ keeps (λ n. n.own) f s _ refl y

    hang_all-either : (xs : List NodeName) (h : Hang) (y : NodeName) → ((node (hang_all f xs h) y).hang ≡ h) ⊎ ((node (hang_all f xs h) y).hang ≡ (node f y).hang)
    unfolding hang_all
    hang_all-either [] h y = inr refl
    hang_all-either (x ∷ xs) h y = elim (name_cases y x) [
      | inl e ↦ inl (ap (λ z. (node (hang_all f (x ∷ xs) h) z).hang) e ∙ ap (λ n. n.hang) (node-put (hang_all f xs h) x _))
      | inr a ↦
          let later = ap (λ n. n.hang) (node-put_other (hang_all f xs h) x y _ a) in
          elim (hang_all-either xs h y) [ inl e ↦ inl (later ∙ e) | inr e ↦ inr (later ∙ e) ]
    ]

  -- other tree children, under a page that isn't lost
  pub set_tree-covers : (f : Forest (P × Bool)) (p : NodeName) (xs : List NodeName) → (IsLost f p → ⊥) → Covers f (set_tree f p xs)
  unfolding set_tree
  set_tree-covers f p xs kept = record {
    lost = λ y l. lost_by f g y (own_is y) l;
    few = λ y l. same_few f g y (hang_all-keeps (λ n. n.tree) (λ n h. refl) _ xs _ y ∙ ap (λ n. n.tree) (node-put_other f p y _ (apart y l)));
    up = λ y c l up. elim (hang_all-either before xs (TreeOf p) c) [
      | inl e ↦ let is : p ≡ y = cc (up, ap parent_of e) in absurd (apart y l (sym is))
      | inr e ↦ (c, ap parent_of (sym (e ∙ keeps (λ n. n.hang) f p _ refl c)) ∙ up, some_by f g c (own_is c))
    ];
  }
    where
      before : Forest (P × Bool)
      before = edit f p (with_tree xs)

      g : Forest (P × Bool)
      g = hang_all before xs (TreeOf p)

      own_is : (y : NodeName) → (node g y).own ≡ (node f y).own
      own_is y = hang_all-keeps (λ n. n.own) (λ n h. refl) _ xs _ y ∙ keeps (λ n. n.own) f p _ refl y

      apart : (y : NodeName) → IsLost g y → y ≢ p
      apart y l e = kept (subst (IsLost f) e (lost_by f g y (own_is y) l))

  -- y gets the page of w, which isn't lost, or has one
  pub pass_page-covers : (f : Forest (P × Bool)) (w y : NodeName) → (IsLost f w → IsSome (node f y).own) → Covers f (pass_page f w y)
  unfolding pass_page
  pass_page-covers f w y has = record {
    lost = λ x l. elim (name_cases x y) [
      | inl e ↦ subst (IsLost f) (sym e) (from (node f y).own (node f w).own has (sym (ap is_lost own_y) ∙ subst (IsLost g) e l))
      | inr a ↦ lost_by f g x (own_other x a) l
    ];
    few = λ x l. same_few f g x (keeps (λ n. n.tree) f y _ refl x);
    up = λ x c l up. (
      c,
      ap parent_of (sym (keeps (λ n. n.hang) f y _ refl c)) ∙ up,
      λ some. elim (name_cases c y) [
        | inl e ↦ subst (λ z. IsSome (node g z).own) (sym e) (ap is_some own_y ∙ stays (node f y).own (node f w).own (subst (λ z. IsSome (node f z).own) e some))
        | inr a ↦ some_by f g c (own_other c a) some
      ],
    );
  }
    where
      g : Forest (P × Bool)
      g = edit f y (λ n. with_own (option_or n.own (node f w).own) n)

      own_y : (node g y).own ≡ option_or (node f y).own (node f w).own
      own_y = ap (λ n. n.own) (node-put f y _)

      own_other : (x : NodeName) → x ≢ y → (node g x).own ≡ (node f x).own
      own_other x a = ap (λ n. n.own) (node-put_other f y x _ a)

      from : (o p : Option (P × Bool)) → (is_lost p ≡ true → IsSome o) → is_lost (option_or o p) ≡ true → is_lost o ≡ true
      from None p has l = absurd (cc (has l))
      from (Some v) p has l = l

      stays : (o p : Option (P × Bool)) → IsSome o → IsSome (option_or o p)
      stays None p some = absurd (cc some)
      stays (Some v) p some = refl

  -- y takes the place of w, and has an own page where w has one
  pub take_place-covers : (f : Forest (P × Bool)) → IsLinked f → (w y : NodeName) → y ≢ w → (node f y).hang ≡ Root → (IsSome (node f w).own → IsSome (node f y).own) → Covers f (take_place f w y)
  take_place-covers f linked w y apart root has = record {
    lost = λ x l. lost_by f g x (own_is x) l;
    few = λ x l. subst (λ ts. length ts ≤ length (node f x).tree) (sym (taken-tree f linked w y apart root x)) (subst (λ n. n ≤ length (node f x).tree) (sym (length-subbed w y x (node f x).tree (flip (node f w).hang))) (omega arith));
    up = λ x c l up. elim (name_cases c w) [
      | inl e ↦ absurd (cc (up, ap (λ z. parent g z) e, ap parent_of (hang_w f linked w y apart root)))
      | inr a ↦ elim (name_cases c y) [
        | inl e ↦ (w, ap parent_of (sym (hang_y f linked w y apart root)) ∙ ap (λ z. parent g z) (sym e) ∙ up, λ some. subst (λ z. IsSome (node g z).own) (sym e) (some_by f g y (own_is y) (has some)))
        | inr b ↦ (c, ap parent_of (sym (hang_other f linked w y apart root c a b)) ∙ up, some_by f g c (own_is c))
      ]
    ];
  }
    where
      g : Forest (P × Bool)
      g = take_place f w y

      own_is : (x : NodeName) → (node g x).own ≡ (node f x).own
      own_is = taken-own f linked w y apart root

  -- the names a and b change places
  pub rename-unseen : {May Then : NodeName → Type 0} (f : Forest (P × Bool)) (a b : NodeName) → IsUnseen f May
      → ((x : NodeName) → IsLost f (swapped a b x) → May (swapped a b x) → Then x) → IsUnseen (rename f a b) Then
  rename-unseen f a b u goes = record {
    place = λ x l. goes x (old x l) (u.place (swapped a b x) (old x l));
    few = λ x l. subst (λ n. n ≤ 1) (sym (ap (λ n. length n.tree) (node-rename a b f x) ∙ length-map (node f (swapped a b x)).tree (swapped a b))) (u.few (swapped a b x) (old x l));
    owned = λ x c l up. ap (λ n. is_some n.own) (node-rename a b f c) ∙ u.owned (swapped a b x) (swapped a b c) (old x l) (above x c up);
  }
    where
      old : (x : NodeName) → IsLost (rename f a b) x → IsLost f (swapped a b x)
      old x l = sym (ap (λ n. is_lost n.own) (node-rename a b f x)) ∙ l

      again : (o : Option NodeName) (x : NodeName) → option_map (swapped a b) o ≡ Some x → o ≡ Some (swapped a b x)
      again None x e = absurd (cc e)
      again (Some z) x e = let is : swapped a b z ≡ x = cc e in ap Some (sym (back a b z) ∙ ap (swapped a b) is)

      above : (x c : NodeName) → parent (rename f a b) c ≡ Some x → parent f (swapped a b c) ≡ Some (swapped a b x)
      above x c up = again (parent f (swapped a b c)) x (sym (parent_across a b _) ∙ ap (λ n. parent_of n.hang) (sym (node-rename a b f c)) ∙ up)

  -- w, whose only child y is above nobody that has no page, gives way to it
  give_way-covers : (f : Forest (P × Bool)) → IsLinked f → (w y : NodeName) → y ≢ w → (node f y).hang ≡ Root → (IsSome (node f w).own → IsSome (node f y).own) → Covers f (give_way f w y)
  unfolding give_way
  give_way-covers f linked w y apart root has = go (is_stub (node f w).hang && is_some (node f y).own)
    where
      go : (b : Bool) → Covers f (free (cond b (cut f w) (take_place f w y)) w)
      go true = covers_on f (cut f w) _ (cut-covers f w) (free-covers (cut f w) w)
      go false = covers_on f (take_place f w y) _ (take_place-covers f linked w y apart root has) (free-covers (take_place f w y) w)

  passed-linked : (f : Forest (P × Bool)) → IsLinked f → (w y : NodeName) → (node f y).hang ≡ Root → IsLinked (pass_page f w y)
  unfolding pass_page
  passed-linked f linked w y root = put_page-linked f linked y _ (λ p e. cc (e, root))

  passed-hang : (f : Forest (P × Bool)) (w y x : NodeName) → (node (pass_page f w y) x).hang ≡ (node f x).hang
  unfolding pass_page
  passed-hang f w y x = keeps (λ n. n.hang) f y _ refl x

  -- y has a page then, if w has one
  passed-page : (f : Forest (P × Bool)) (w y : NodeName) → w ≢ y → IsSome (node (pass_page f w y) w).own → IsSome (node (pass_page f w y) y).own
  unfolding pass_page
  passed-page f w y apart some = ap (λ n. is_some n.own) (node-put f y _) ∙ or_some (node f y).own (node f w).own (ap (λ n. is_some n.own) (sym (node-put_other f y w _ apart)) ∙ some)
    where
      or_some : (o p : Option (P × Bool)) → IsSome p → IsSome (option_or o p)
      or_some None p some = some
      or_some (Some v) p some = refl

  -- one step of settle
  pub settle_step-unseen : {May : NodeName → Type 0} (f : Forest (P × Bool)) → IsLinked f → (w : NodeName) → IsUnseen f May → IsUnseen (settle_step f w) May
  unfolding settle_step
  settle_step-unseen {May} f linked w u = go (first ((node f w).tree ++ (node f w).stubs)) refl
    where
      go : (o : Option NodeName) → first ((node f w).tree ++ (node f w).stubs) ≡ o → IsUnseen (elim o [ None ↦ free (cut f w) w | Some y ↦ give_way (pass_page (cut f y) w y) w y ]) May
      go None e = covered (cut f w) _ (free-covers (cut f w) w) (covered f (cut f w) (cut-covers f w) u)
      go (Some y) e =
          let up : parent f y ≡ Some w = child_up f linked w y (first_in _ y e) in
          let apart : y ≢ w = λ q. (let low = linked.order.1 y w up in let is = ap linked.order.0 q in absurd (omega arith)) in
          let f1 = cut f y in
          let l1 : IsLinked f1 = cut-linked f y linked in
          let f2 = pass_page f1 w y in
          let has : IsLost f1 w → IsSome (node f1 y).own = λ l. some_by f f1 y (cut-own f y y) (u.owned w y (lost_by f f1 w (cut-own f y w) l) up) in
          let u2 = covered f1 f2 (pass_page-covers f1 w y has) (covered f f1 (cut-covers f y) u) in
          covered f2 (give_way f2 w y) (give_way-covers f2 (passed-linked f1 l1 w y (cut-hang f y)) w y apart (passed-hang f1 w y y ∙ cut-hang f y) (passed-page f1 w y (λ q. apart (sym q)))) u2
