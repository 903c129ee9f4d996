-- One step of settle keeps the shape, and the value of each node that stays.
use Rattle.std.proofs.Common.{◌≡◌, ◌<◌, List, [], ◌∷◌, ◌++◌, length, ◌≢◌, true, cond, ◌&&◌, ◌⊎◌, Option, Some, None, is_some, refl, sym, ap, subst, ◌∙◌, ap₂, inl, inr, arith}
use Rattle.std.specs.Option.{option_or}
use Rattle.std.proofs.lemmas.List.{length-append}
use Rattle.vm_ids.specs.declared.node_name.NodeName.{NodeName}
use Rattle.vm_ids.proofs.Forest.Names.{name_cases}
use Rattle.vm_ids.specs.Forest.NameLists.{◌∈◌, first}
use Rattle.vm_ids.specs.Forest.Nodes.{Hang, Forest, node, parent, parent_of, is_stub, child_count}
use Rattle.vm_ids.specs.Forest.Shape.{IsLinked, IsRanked}
use Rattle.vm_ids.specs.Forest.Changes.{free, cut}
use Rattle.vm_ids.specs.Forest.Settling.{take_place, pass_page, give_way, settle_step}
use Rattle.vm_ids.specs.Forest.Values.{IsValue}
use Rattle.vm_ids.specs.Forest.Nodes.Hang.{Root, TreeOf, StubOf}
use Rattle.vm_ids.proofs.Forest.NodesAfter.{node-put, node-put_other, keeps, node-free_other}
use Rattle.vm_ids.proofs.Forest.NameLists.{in_append, append_in}
use Rattle.vm_ids.proofs.Forest.Columns.{left_stubs}
use Rattle.vm_ids.proofs.Forest.Handing.{in_left}
use Rattle.vm_ids.proofs.Forest.Fitting.{parent_cases}
use Rattle.vm_ids.proofs.Forest.Values.{values_from}
use Rattle.vm_ids.specs.Forest.Values.IsValue.{itself, above}
use Rattle.vm_ids.proofs.Forest.Cutting.{cut-own, cut-hang, cut-hang_other, cut-tree, cut-stubs, cut-ranked, cut-linked, free-linked, put_page-linked}
use Rattle.vm_ids.proofs.Forest.TakingPlace.{taken-own, taken-tree, taken-stubs, hang_w, hang_y, hang_other, taken-linked, subbed_nil}

pub none_in : (xs : List NodeName) → ((z : NodeName) → z ∈ xs → ⊥) → xs ≡ []
none_in [] out = refl
none_in (x ∷ xs) out = absurd (out x (inl refl))

left_nil : (x : NodeName) (h : Hang) (p : NodeName) (xs : List NodeName) → xs ≡ [] → left_stubs x h p xs ≡ []
left_nil x h p xs e = none_in _ (λ z i. subst (λ ys. z ∈ ys) e (in_left x h p xs z i).0)

module _ {P : Type 0} where
  child_in : (f : Forest P) → IsLinked f → (z w : NodeName) → parent f z ≡ Some w → z ∈ ((node f w).tree ++ (node f w).stubs)
  child_in f linked z w up = append_in _ _ z (elim (parent_cases f linked z w up) [ inl t ↦ inl ((linked.tree_links z w).1 t) | inr s ↦ inr ((linked.stub_links z w).1 s) ])

  -- all that a step of settle says
  pub record Settled (f g : Forest P) (w : NodeName) : Type 0 where
    pub shape : IsLinked g
    pub kept : (y : NodeName) (v : P) → y ≢ w → IsValue f y v → IsValue g y v

  module _ (f : Forest P) (linked : IsLinked f) (w : NodeName) where
    -- w has no child
    pub gone : (node f w).tree ++ (node f w).stubs ≡ [] → Settled f (free (cut f w) w) w
    gone no_child =
        let no_tree = none_in (node f w).tree (λ z i. subst (λ xs. z ∈ xs) no_child (append_in _ _ z (inl i))) in
        let no_stubs = none_in (node f w).stubs (λ z i. subst (λ xs. z ∈ xs) no_child (append_in _ _ z (inr i))) in
        let g = free (cut f w) w in
        let cut_linked = cut-linked f w linked in
        let shape : IsLinked g = free-linked (cut f w) cut_linked w (cut-hang f w) (cut-tree f w w ∙ left_nil w _ w _ no_tree) (cut-stubs f w w ∙ left_nil w _ w _ no_stubs) in
        let own_is : (y : NodeName) → y ≢ w → (node g y).own ≡ (node f y).own = λ y a. ap (λ n. n.own) (node-free_other _ w y a) ∙ cut-own f w y in
        let hang_is : (y : NodeName) → y ≢ w → (node g y).hang ≡ (node f y).hang = λ y a. ap (λ n. n.hang) (node-free_other _ w y a) ∙ cut-hang_other f w y a in
        record {
          shape = shape;
          kept = λ y v a r. values_from g shape.order.0 shape.order.1 (λ z u. (z ≢ w) × IsValue f z u) (λ z u k. local g own_is hang_is z u k.0 k.1) y v (a, r);
        }
      where
        local : (g : Forest P) → ((y : NodeName) → y ≢ w → (node g y).own ≡ (node f y).own) → ((y : NodeName) → y ≢ w → (node g y).hang ≡ (node f y).hang)
            → (z : NodeName) (u : P) → z ≢ w → IsValue f z u → ((node g z).own ≡ Some u) ⊎ (((node g z).own ≡ None) × (q : NodeName) × (parent g z ≡ Some q) × ((q ≢ w) × IsValue f q u))
        local g own_is hang_is z u a (itself e) = inl (own_is z a ∙ e)
        local g own_is hang_is z u a (above {p = p} none up r) =
            inr (own_is z a ∙ none, p, ap parent_of (hang_is z a) ∙ up, ((λ e. subst (λ xs. z ∈ xs) no_child (child_in f linked z w (up ∙ ap Some e))), r))

    -- w has the one child y
    module _ (y : NodeName) (only_child : (node f w).tree ++ (node f w).stubs ≡ y ∷ []) where
      up_y : parent f y ≡ Some w
      up_y = elim (in_append (node f w).tree (node f w).stubs y (subst (λ xs. y ∈ xs) (sym only_child) (inl refl))) [
        | inl i ↦ ap parent_of ((linked.tree_links y w).0 i)
        | inr i ↦ ap parent_of ((linked.stub_links y w).0 i)
      ]

      y_w : y ≢ w
      y_w e = let low = linked.order.1 y w up_y in let is = ap linked.order.0 e in absurd (omega arith)

      only_y : (z : NodeName) → parent f z ≡ Some w → z ≡ y
      only_y z up = elim (subst (λ xs. z ∈ xs) only_child (child_in f linked z w up)) [ inl e ↦ e | inr k ↦ absurd k ]

      f1 : Forest P
      f1 = cut f y

      f1-linked : IsLinked f1
      unfolding f1
      f1-linked = cut-linked f y linked

      f1-hang : (z : NodeName) → z ≢ y → (node f1 z).hang ≡ (node f z).hang
      unfolding f1
      f1-hang z a = cut-hang_other f y z a

      f1-hang_y : (node f1 y).hang ≡ Root
      unfolding f1
      f1-hang_y = cut-hang f y

      f1_none : (z : NodeName) → parent f1 z ≡ Some w → ⊥
      f1_none z up = elim (name_cases z y) [
        | inl e ↦ cc (up, ap (λ v. parent f1 v) e, ap parent_of f1-hang_y)
        | inr a ↦ a (only_y z (ap parent_of (sym (f1-hang z a)) ∙ up))
      ]

      f2 : Forest P
      f2 = pass_page f1 w y

      f2-hang : (z : NodeName) → (node f2 z).hang ≡ (node f1 z).hang
      unfolding f2 pass_page
      f2-hang = keeps (λ n. n.hang) f1 y _ refl

      f2-linked : IsLinked f2
      unfolding f2 pass_page
      f2-linked = put_page-linked f1 f1-linked y _ (λ p e. cc (e, f1-hang_y))

      f2_tree : (node f2 w).tree ≡ []
      f2_tree = none_in _ (λ z i. f1_none z (ap parent_of (sym (f2-hang z) ∙ (f2-linked.tree_links z w).0 i)))

      f2_stubs : (node f2 w).stubs ≡ []
      f2_stubs = none_in _ (λ z i. f1_none z (ap parent_of (sym (f2-hang z) ∙ (f2-linked.stub_links z w).0 i)))

      f2-own : (z : NodeName) → z ≢ y → (node f2 z).own ≡ (node f z).own
      unfolding f1 f2 pass_page
      f2-own z a = ap (λ n. n.own) (node-put_other (cut f y) y z _ a) ∙ cut-own f y z

      f2-own_y : (node f2 y).own ≡ option_or (node f y).own (node f w).own
      unfolding f1 f2 pass_page
      f2-own_y = ap (λ n. n.own) (node-put (cut f y) y _) ∙ ap₂ option_or (cut-own f y y) (cut-own f y w)

      f2-hang_w : (node f2 w).hang ≡ (node f w).hang
      f2-hang_w = f2-hang w ∙ f1-hang w (λ e. y_w (sym e))

      f2-hang_y : (node f2 y).hang ≡ Root
      f2-hang_y = f2-hang y ∙ f1-hang_y

      f2-hang_other : (z : NodeName) → z ≢ y → (node f2 z).hang ≡ (node f z).hang
      f2-hang_other z a = f2-hang z ∙ f1-hang z a

      f2-ranked : IsRanked f2 linked.order.0
      unfolding f1
      f2-ranked z p up = cut-ranked f y linked.order.0 linked.order.1 z p (ap parent_of (sym (f2-hang z)) ∙ up)

      -- what a forest says in which w goes: the pages are those of f2, y hangs where w hung, or has
      -- a page and no parent
      record Instead (g : Forest P) : Type 0 where
        shape : IsLinked g
        own_is : (z : NodeName) → z ≢ w → (node g z).own ≡ (node f2 z).own
        hang_is : (z : NodeName) → z ≢ w → z ≢ y → (node g z).hang ≡ (node f2 z).hang
        hang_y_is : (node f2 y).own ≡ None → (node g y).hang ≡ (node f w).hang

      by_cut : is_some (node f2 y).own ≡ true → Instead (free (cut f2 w) w)
      by_cut some = record {
        shape = free-linked (cut f2 w) (cut-linked f2 w f2-linked) w (cut-hang f2 w) (cut-tree f2 w w ∙ left_nil w _ w _ f2_tree) (cut-stubs f2 w w ∙ left_nil w _ w _ f2_stubs);
        own_is = λ z a. ap (λ n. n.own) (node-free_other _ w z a) ∙ cut-own f2 w z;
        hang_is = λ z a b. ap (λ n. n.hang) (node-free_other _ w z a) ∙ cut-hang_other f2 w z a;
        hang_y_is = λ none. absurd (cc (some, ap is_some none));
      }

      by_place : ((p : NodeName) → (node f2 w).hang ≡ StubOf p → (node f2 y).own ≡ None) → Instead (free (take_place f2 w y) w)
      by_place bare =
          let low = linked.order.1 y w up_y in
          record {
            shape = free-linked (take_place f2 w y) (taken-linked f2 f2-linked w y y_w f2-hang_y linked.order.0 f2-ranked low bare) w (hang_w f2 f2-linked w y y_w f2-hang_y)
                (taken-tree f2 f2-linked w y y_w f2-hang_y w ∙ subbed_nil w y _ w _ f2_tree) (taken-stubs f2 f2-linked w y y_w f2-hang_y w ∙ subbed_nil w y _ w _ f2_stubs);
            own_is = λ z a. ap (λ n. n.own) (node-free_other _ w z a) ∙ taken-own f2 f2-linked w y y_w f2-hang_y z;
            hang_is = λ z a b. ap (λ n. n.hang) (node-free_other _ w z a) ∙ hang_other f2 f2-linked w y y_w f2-hang_y z a b;
            hang_y_is = λ none. ap (λ n. n.hang) (node-free_other _ w y y_w) ∙ hang_y f2 f2-linked w y y_w f2-hang_y ∙ f2-hang_w;
          }

      instead : Instead (give_way f2 w y)
      unfolding give_way
      instead = go (node f2 w).hang (node f2 y).own refl refl
        where
          go : (h : Hang) (o : Option P) → (node f2 w).hang ≡ h → (node f2 y).own ≡ o → Instead (free (cond (is_stub h && is_some o) (cut f2 w) (take_place f2 w y)) w)
          go Root o hang_is own_is = by_place (λ p e. absurd (cc (e, hang_is)))
          go (TreeOf q) o hang_is own_is = by_place (λ p e. absurd (cc (e, hang_is)))
          go (StubOf q) (Some v) hang_is own_is = by_cut (ap is_some own_is)
          go (StubOf q) None hang_is own_is = by_place (λ p e. own_is)

      replaced : Settled f (give_way f2 w y) w
      replaced = record {
        shape = instead.shape;
        kept = λ z v a r. values_from g instead.shape.order.0 instead.shape.order.1 (λ z u. (z ≢ w) × IsValue f z u) (λ z u k. local z u k.0 k.1) z v (a, r);
      }
        where
          g : Forest P
          g = give_way f2 w y

          Local : NodeName → P → Type 0
          Local z u = ((node g z).own ≡ Some u) ⊎ (((node g z).own ≡ None) × (q : NodeName) × (parent g z ≡ Some q) × ((q ≢ w) × IsValue f q u))

          at_other : (z : NodeName) (u : P) → z ≢ w → z ≢ y → IsValue f z u → Local z u
          at_other z u a b (itself e) = inl (instead.own_is z a ∙ f2-own z b ∙ e)
          at_other z u a b (above {p = p} none up r) =
              inr (instead.own_is z a ∙ f2-own z b ∙ none, p, ap parent_of (instead.hang_is z a b ∙ f2-hang_other z b) ∙ up, ((λ e. b (only_y z (up ∙ ap Some e))), r))

          at_w : (u : P) → (node f y).own ≡ None → IsValue f w u → Local y u
          at_w u none (itself e) = inl (instead.own_is y y_w ∙ f2-own_y ∙ ap₂ option_or none e)
          at_w u none (above {p = q} none_w up r) =
              let no_page : (node f2 y).own ≡ None = f2-own_y ∙ ap₂ option_or none none_w in
              let low = linked.order.1 w q up in
              inr (instead.own_is y y_w ∙ no_page, q, ap parent_of (instead.hang_y_is no_page) ∙ up, ((λ e. let is = ap linked.order.0 e in absurd (omega arith)), r))

          at_y : (u : P) → IsValue f y u → Local y u
          at_y u (itself e) = inl (instead.own_is y y_w ∙ f2-own_y ∙ ap (λ o. option_or o (node f w).own) e)
          at_y u (above {p = p} none up r) = let is : p ≡ w = cc (up, up_y) in at_w u none (subst (λ v. IsValue f v u) is r)

          local : (z : NodeName) (u : P) → z ≢ w → IsValue f z u → Local z u
          local z u a r = elim (name_cases z y) [
            | inl e ↦ subst (λ v. Local v u) (sym e) (at_y u (subst (λ v. IsValue f v u) e r))
            | inr b ↦ at_other z u a b r
          ]

  -- one step of settle
  pub settle_step-Settled : (f : Forest P) → IsLinked f → (w : NodeName) → child_count f w < 2 → Settled f (settle_step f w) w
  unfolding settle_step f1 f2
  settle_step-Settled f linked w thin = go ((node f w).tree ++ (node f w).stubs) refl
    where
      go : (cs : List NodeName) → (node f w).tree ++ (node f w).stubs ≡ cs → Settled f (elim (first cs) [ None ↦ free (cut f w) w | Some y ↦ give_way (pass_page (cut f y) w y) w y ]) w
      go [] e = gone f linked w e
      go (y ∷ []) e = replaced f linked w y e
      go (y ∷ z ∷ cs) e = absurd (let l = ap length e in let m = length-append (node f w).tree (node f w).stubs in omega arith)
