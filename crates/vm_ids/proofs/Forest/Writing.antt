-- write changes the value of its node alone.
use Rattle.std.proofs.Common.{◌≡◌, ◌≤◌, List, [], ◌∷◌, ◌++◌, length, ◌≢◌, true, cond, not, Option, Some, None, is_none, option_map, refl, sym, ap, subst, ◌∙◌, inl, inr, arith}
use Rattle.vm_ids.specs.declared.node_name.NodeName.{NodeName}
use Rattle.vm_ids.proofs.Forest.Names.{name_cases}
use Rattle.vm_ids.specs.Forest.NameLists.{◌∈◌, Once, first}
use Rattle.vm_ids.specs.Forest.Nodes.{Forest, node, parent, parent_of, IsNode, most_tree_children}
use Rattle.vm_ids.specs.Forest.Shape.{IsLinked, IsWellShaped}
use Rattle.vm_ids.specs.Forest.Reading.{value_of}
use Rattle.vm_ids.specs.Forest.Changes.{put, count_copy, with_own}
use Rattle.vm_ids.specs.Forest.Rules.{gets, hand_stubs, heir, heir_gets, own, owned, write}
use Rattle.vm_ids.specs.Forest.Values.{IsValue}
use Rattle.vm_ids.proofs.Forest.NodesAfter.{node-put, node-put_other, keeps}
use Rattle.vm_ids.proofs.Forest.NameLists.{filter_in, in_filter, append_in}
use Rattle.vm_ids.proofs.Forest.Columns.{gets-own, gets-own_other, gets-tree, hand_stubs-own, hand_stubs-tree, hand_stubs-stubs_from}
use Rattle.vm_ids.proofs.Forest.Fitting.{parent_cases}
use Rattle.vm_ids.proofs.Forest.Values.{own-values, heir_gets-values, node-count_copy, handed}
use Rattle.vm_ids.specs.Forest.Values.IsValue.{itself, above}
use Rattle.vm_ids.proofs.Forest.Reading.{value-IsValue}
use Rattle.vm_ids.proofs.Forest.Owning.{has_value, own-shaped, heir_gets-own, heir_gets-linked, handed-linked}
use Rattle.vm_ids.proofs.Forest.NamesAfter.{SameNames, own-names}

-- of at most one name, any two are one
one_of : (xs : List NodeName) (x y : NodeName) → length xs ≤ 1 → x ∈ xs → y ∈ xs → x ≡ y
one_of [] x y few i j = absurd i
one_of (a ∷ []) x y few i j = elim i [ inl e ↦ elim j [ inl g ↦ e ∙ sym g | inr k ↦ absurd k ] | inr k ↦ absurd k ]
one_of (a ∷ b ∷ xs) x y few i j = absurd (omega arith)

first_of_in : (xs ys : List NodeName) (y h : NodeName) → y ∈ xs → first (xs ++ ys) ≡ Some h → h ∈ xs
first_of_in [] ys y h i e = absurd i
first_of_in (x ∷ xs) ys y h i e = let is : h ≡ x = cc e in inl is

pub first_none : (xs : List NodeName) (y : NodeName) → y ∈ xs → first xs ≡ None → ⊥
first_none [] y i e = i
first_none (x ∷ xs) y i e = cc e

module _ {P : Type 0} where
  none_is : (o : Option P) → o ≡ None → is_none o ≡ true
  none_is o e = ap is_none e

  is_none_None : (o : Option P) → is_none o ≡ true → o ≡ None
  is_none_None None e = refl
  is_none_None (Some v) e = absurd (cc e)

  -- no node reads through x
  abbrev pub ReadsNot : Forest P → NodeName → Type 0
  ReadsNot f x = (y : NodeName) → parent f y ≡ Some x → (node f y).own ≡ None → ⊥

  -- that is what it means to have no heir
  pub ReadsNot-no_heir : (f : Forest P) → IsLinked f → (x : NodeName) → heir f x ≡ None → ReadsNot f x
  unfolding heir
  ReadsNot-no_heir f linked x e y up none = first_none _ y (append_in _ _ y (elim (parent_cases f linked y x up) [
    | inl t ↦ inl (filter_in _ _ y ((linked.tree_links y x).1 t) (none_is _ none))
    | inr s ↦ inr ((linked.stub_links y x).1 s)
  ])) e

  heir_in_tree : (f : Forest P) (x h y : NodeName) → heir f x ≡ Some h → y ∈ (node f x).tree → (node f y).own ≡ None → h ∈ (node f x).tree
  unfolding heir
  heir_in_tree f x h y e i none = (in_filter _ _ h (first_of_in _ _ y h (filter_in _ _ y i (none_is _ none)) e)).0

  handed-ReadsNot : (f : Forest P) → IsLinked f → (x h : NodeName) → most_tree_children x ≡ 1 → (v : P) → value_of f x ≡ Some v → heir f x ≡ Some h → ReadsNot (handed f x h) x
  unfolding handed
  handed-ReadsNot f linked x h live v value_is e y up none =
      let g = hand_stubs (gets f h (value_of f x)) x h in
      let glinked : IsLinked g = handed-linked f linked x h e in
      elim (parent_cases g glinked y x up) [
        | inr s ↦ subst (λ xs. y ∈ xs) (hand_stubs-stubs_from _ x h) ((glinked.stub_links y x).1 s)
        | inl t ↦
            let in_tree : y ∈ (node f x).tree = subst (λ xs. y ∈ xs) (hand_stubs-tree _ x h x ∙ gets-tree f h x _) ((glinked.tree_links y x).1 t) in
            elim (name_cases y h) [
              | inl is_h ↦ cc (none, ap (λ z. (node g z).own) is_h, hand_stubs-own (gets f h (value_of f x)) x h h, gets-own f h (value_of f x), value_is)
              | inr not_h ↦
                  let old_none : (node f y).own ≡ None = sym (gets-own_other f h y _ not_h) ∙ sym (hand_stubs-own _ x h y) ∙ none in
                  not_h (one_of _ y h (subst (λ n. length (node f x).tree ≤ n) live (linked.few x)) in_tree (heir_in_tree f x h y e in_tree old_none))
            ]
      ]

  -- after heir_gets no node reads through x
  pub heir_gets-ReadsNot : (f : Forest P) → IsLinked f → (x : NodeName) → most_tree_children x ≡ 1 → (v : P) → value_of f x ≡ Some v → ReadsNot (heir_gets f x) x
  unfolding heir_gets handed
  heir_gets-ReadsNot f linked x live v value_is = go (heir f x) refl
    where
      go : (o : Option NodeName) → heir f x ≡ o → ReadsNot (elim o [ None ↦ f | Some h ↦ count_copy (hand_stubs (gets f h (value_of f x)) x h) ]) x
      go None e = ReadsNot-no_heir f linked x e
      go (Some h) e = λ y up none. handed-ReadsNot f linked x h live v value_is e y (ap (λ n. parent_of n.hang) (sym (node-count_copy _ y)) ∙ up) (ap (λ n. n.own) (sym (node-count_copy _ y)) ∙ none)

  -- a change of x's own page changes no other value
  put_own-values : (g : Forest P) (x : NodeName) (o : Option P) → ReadsNot g x → {y : NodeName} {w : P} → y ≢ x → IsValue g y w → IsValue (put g x (with_own o (node g x))) y w
  put_own-values g x o not {y} apart (itself e) = itself (ap (λ n. n.own) (node-put_other g x y _ apart) ∙ e)
  put_own-values g x o not {y} apart (above {p = p} none up r) =
      above (ap (λ n. n.own) (node-put_other g x y _ apart) ∙ none) (ap (λ n. parent_of n.hang) (node-put_other g x y _ apart) ∙ up)
      (put_own-values g x o not (λ e. not y (up ∙ ap Some e) none) r)

  pub put_own-linked : (g : Forest P) → IsLinked g → (x : NodeName) (v : P) (o : Option P) → (node g x).own ≡ Some v → IsLinked (put g x (with_own o (node g x)))
  put_own-linked g linked x v o own_is =
      let h = put g x (with_own o (node g x)) in
      let hang_is : (y : NodeName) → (node h y).hang ≡ (node g y).hang = keeps (λ n. n.hang) g x _ refl in
      let tree_is : (y : NodeName) → (node h y).tree ≡ (node g y).tree = keeps (λ n. n.tree) g x _ refl in
      let stubs_is : (y : NodeName) → (node h y).stubs ≡ (node g y).stubs = keeps (λ n. n.stubs) g x _ refl in
      record {
        order = (linked.order.0, λ y p up. linked.order.1 y p (ap parent_of (sym (hang_is y)) ∙ up));
        few = λ y. rw (tree_is y) (linked.few y);
        stub_bare = λ y p s.
            let bare = linked.stub_bare y p (sym (hang_is y) ∙ s) in
            elim (name_cases y x) [
              | inl e ↦ absurd (cc (bare, ap (λ z. (node g z).own) e, own_is))
              | inr apart ↦ ap (λ n. n.own) (node-put_other g x y _ apart) ∙ bare
            ];
        tree_links = λ y p. (λ i. hang_is y ∙ (linked.tree_links y p).0 (subst (λ xs. y ∈ xs) (tree_is p) i), λ t. subst (λ xs. y ∈ xs) (sym (tree_is p)) ((linked.tree_links y p).1 (sym (hang_is y) ∙ t)));
        stub_links = λ y p. (λ i. hang_is y ∙ (linked.stub_links y p).0 (subst (λ xs. y ∈ xs) (stubs_is p) i), λ t. subst (λ xs. y ∈ xs) (sym (stubs_is p)) ((linked.stub_links y p).1 (sym (hang_is y) ∙ t)));
        once = λ y. (subst Once (sym (tree_is y)) (linked.once y).0, subst Once (sym (stubs_is y)) (linked.once y).1);
      }

  -- g is f, where x got an own page if it had none
  pub record Owned (f g : Forest P) (x : NodeName) : Type 0 where
    pub page : P
    pub value_is : value_of f x ≡ Some page
    pub own_is : (node g x).own ≡ Some page
    pub shaped : IsWellShaped g
    pub names : SameNames g f
    pub values : (y : NodeName) (w : P) → IsValue f y w → IsValue g y w

  pub owned-Owned : (f : Forest P) → IsWellShaped f → (x : NodeName) → IsNode f x → Owned f (owned f x) x
  unfolding own
  owned-Owned f shaped x is = go (node f x).own refl
    where
      go : (o : Option P) → (node f x).own ≡ o → Owned f (cond (is_none o) (own f x) f) x
      go (Some v) e = record { page = v; value_is = value-IsValue f shaped.linked (itself e); own_is = e; shaped = shaped; names = λ y. refl; values = λ y w r. r }
      go None e =
          let v = has_value f shaped x is in
          let value_is = value-IsValue f shaped.linked v.1 in
          record {
            page = v.0;
            value_is = value_is;
            own_is = ap (λ n. n.own) (node-count_copy _ x) ∙ gets-own f x _ ∙ value_is;
            shaped = own-shaped f shaped x is;
            names = own-names f shaped.linked x is;
            values = λ y w. own-values f x v.0 value_is v.1;
          }

  -- write changes the value of x alone
  module _ (f : Forest P) (shaped : IsWellShaped f) (x : NodeName) (is : IsNode f x) (live : most_tree_children x ≡ 1) (change : P → P) where
    pub written : IsLinked (write f x change) × ((y : NodeName) (w : P) → y ≢ x → IsValue f y w → IsValue (write f x change) y w) × (value_of (write f x change) x ≡ option_map change (value_of f x))
    unfolding write
    written =
        let w = owned-Owned f shaped x is in
        let g = heir_gets (owned f x) x in
        let page_is = value-IsValue (owned f x) w.shaped.linked (itself w.own_is) in
        let own_is : (node g x).own ≡ Some w.page = heir_gets-own (owned f x) w.shaped.linked x w.page w.own_is in
        let linked : IsLinked g = heir_gets-linked (owned f x) w.shaped.linked x in
        let not : ReadsNot g x = heir_gets-ReadsNot (owned f x) w.shaped.linked x live w.page page_is in
        let new_linked : IsLinked (put g x (with_own (option_map change (node g x).own) (node g x))) = put_own-linked g linked x w.page _ own_is in (
          new_linked,
          λ y v apart r. put_own-values g x _ not apart (heir_gets-values (owned f x) w.shaped.linked x w.page w.own_is page_is (w.values y v r)),
          value-IsValue _ new_linked (itself (ap (λ n. n.own) (node-put g x _) ∙ ap (option_map change) own_is)) ∙ ap (option_map change) (sym w.value_is),
        )

    pub write-value : value_of (write f x change) x ≡ option_map change (value_of f x)
    write-value = written.2
