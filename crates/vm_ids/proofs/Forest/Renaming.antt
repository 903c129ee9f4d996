-- A renamed forest has the shape and the values of the forest.
use Rattle.std.proofs.Common.{◌≡◌, ◌≤◌, List, [], ◌∷◌, map, length, ◌≢◌, Bool, true, false, cond, Option, Some, None, option_map, unwrap_or, refl, sym, ap, subst, ◌∙◌, inl, inr}
use Rattle.std.specs.Ordering.{eq_by_cmp}
use Rattle.std.specs.FinMap.Entries.{find}
use Rattle.std.proofs.lemmas.List.{length-map}
use Rattle.vm_ids.specs.declared.node_name.NodeName.{NodeName}
use Rattle.vm_ids.specs.Forest.Names.{same, name_cmp}
use Rattle.vm_ids.proofs.Forest.Names.{name_cases, same_itself, same_apart}
use Rattle.vm_ids.specs.Forest.NameLists.{◌∈◌, Once, swapped}
use Rattle.vm_ids.specs.Forest.NameMap.{get}
use Rattle.vm_ids.proofs.Forest.NameMap.{get-from_entries}
use Rattle.vm_ids.specs.Forest.Nodes.{Hang, Node, Forest, node, childless, parent, parent_of, most_tree_children}
use Rattle.vm_ids.specs.Forest.Shape.{IsLinked}
use Rattle.vm_ids.specs.Forest.Changes.{swapped_hang, swapped_node, rename}
use Rattle.vm_ids.specs.Forest.Values.{IsValue}
use Rattle.vm_ids.specs.Forest.Nodes.Hang.{Root, TreeOf, StubOf}
use Rattle.vm_ids.specs.Forest.Values.IsValue.{itself, above}

module _ (a b : NodeName) where
  -- what swapped gives
  data Swap (x : NodeName) : Type 0 where
    at_a : x ≡ a → swapped a b x ≡ b → Swap x
    at_b : x ≢ a → x ≡ b → swapped a b x ≡ a → Swap x
    at_other : x ≢ a → x ≢ b → swapped a b x ≡ x → Swap x

  swap : (x : NodeName) → Swap x
  swap x = elim (name_cases x a) [
    | inl e ↦ at_a e (rw (e, same_itself a))
    | inr p ↦ elim (name_cases x b) [
      | inl e ↦ at_b p e (rw (same_apart a x (λ q. p (sym q)), e, same_itself b))
      | inr q ↦ at_other p q (rw (same_apart a x (λ r. p (sym r)), same_apart b x (λ r. q (sym r))))
    ]
  ]

  pub back : (x : NodeName) → swapped a b (swapped a b x) ≡ x
  back x = go (swap x)
    where
      go : Swap x → swapped a b (swapped a b x) ≡ x
      go (at_a e t) = ap (swapped a b) t ∙ of_b ∙ sym e
        where
          of_b : swapped a b b ≡ a
          of_b = elim (name_cases b a) [ inl e ↦ rw (e, same_itself a) | inr p ↦ rw (same_apart a b (λ q. p (sym q)), same_itself b) ]
      go (at_b p e t) = ap (swapped a b) t ∙ rw (same_itself a) (sym e)
      go (at_other p q t) = ap (swapped a b) t ∙ t

  across : (x y : NodeName) → swapped a b x ≡ y → x ≡ swapped a b y
  across x y e = sym (back x) ∙ ap (swapped a b) e

  same_across : (x y : NodeName) → same x (swapped a b y) ≡ same (swapped a b x) y
  same_across x y = elim (name_cases (swapped a b x) y) [
    | inl e ↦ rw (across x y e, same_itself (swapped a b y), back y) (sym (same_itself y))
    | inr p ↦ same_apart x (swapped a b y) (λ q. p (ap (swapped a b) q ∙ back y)) ∙ sym (same_apart (swapped a b x) y p)
  ]

  in_swapped : (xs : List NodeName) (x : NodeName) → x ∈ map (swapped a b) xs → swapped a b x ∈ xs
  in_swapped [] x i = i
  in_swapped (y ∷ ys) x i = elim i [ inl e ↦ inl (ap (swapped a b) e ∙ back y) | inr j ↦ inr (in_swapped ys x j) ]

  swapped_in : (xs : List NodeName) (x : NodeName) → swapped a b x ∈ xs → x ∈ map (swapped a b) xs
  swapped_in [] x i = i
  swapped_in (y ∷ ys) x i = elim i [ inl e ↦ inl (across x y e) | inr j ↦ inr (swapped_in ys x j) ]

  Once-swapped : (xs : List NodeName) → Once xs → Once (map (swapped a b) xs)
  Once-swapped [] once = tt
  Once-swapped (x ∷ xs) once = ((λ i. once.0 (subst (λ z. z ∈ xs) (back x) (in_swapped xs (swapped a b x) i))), Once-swapped xs once.1)

  hang_across : (h : Hang) → swapped_hang a b (swapped_hang a b h) ≡ h
  hang_across Root = refl
  hang_across (TreeOf p) = ap TreeOf (back p)
  hang_across (StubOf p) = ap StubOf (back p)

  pub parent_across : (h : Hang) → parent_of (swapped_hang a b h) ≡ option_map (swapped a b) (parent_of h)
  parent_across Root = refl
  parent_across (TreeOf p) = refl
  parent_across (StubOf p) = refl

  module _ {P : Type 0} where
    pub find_across : (y : NodeName) (es : List (NodeName × Node P)) → find name_cmp y (map (λ e. (swapped a b e.0, swapped_node a b e.1)) es) ≡ option_map (swapped_node a b) (find name_cmp (swapped a b y) es)
    unfolding same
    find_across y [] = refl
    find_across y (e ∷ es) = go (eq_by_cmp name_cmp y (swapped a b e.0)) (eq_by_cmp name_cmp (swapped a b y) e.0) (same_across y e.0) (find_across y es)
      where
        go : (s t : Bool) → s ≡ t → find name_cmp y (map (λ e. (swapped a b e.0, swapped_node a b e.1)) es) ≡ option_map (swapped_node a b) (find name_cmp (swapped a b y) es)
            → cond s (Some (swapped_node a b e.1)) (find name_cmp y (map (λ e. (swapped a b e.0, swapped_node a b e.1)) es)) ≡ option_map (swapped_node a b) (cond t (Some e.1) (find name_cmp (swapped a b y) es))
        go true true q h = refl
        go true false q h = absurd (cc q)
        go false true q h = absurd (cc q)
        go false false q h = h

    pub node-rename : (f : Forest P) (y : NodeName) → node (rename f a b) y ≡ swapped_node a b (node f (swapped a b y))
    unfolding node rename get
    node-rename f y = ap (λ o. unwrap_or o (childless None Root)) (get-from_entries _ y ∙ find_across y f.nodes.list) ∙ out (find name_cmp (swapped a b y) f.nodes.list)
      where
        out : (o : Option (Node P)) → unwrap_or (option_map (swapped_node a b) o) (childless None Root) ≡ swapped_node a b (unwrap_or o (childless None Root))
        out None = refl
        out (Some n) = refl

    module _ (f : Forest P) where
      -- the value goes with the name
      pub rename-values : {y : NodeName} {v : P} → IsValue f y v → IsValue (rename f a b) (swapped a b y) v
      rename-values {y} (itself e) = itself (ap (λ n. n.own) (node-rename f (swapped a b y)) ∙ ap (λ z. (node f z).own) (back y) ∙ e)
      rename-values {y} (above {p = p} none up r) =
          above (ap (λ n. n.own) (node-rename f (swapped a b y)) ∙ ap (λ z. (node f z).own) (back y) ∙ none)
          (ap (λ n. parent_of n.hang) (node-rename f (swapped a b y)) ∙ parent_across _ ∙ ap (λ z. option_map (swapped a b) (parent f z)) (back y) ∙ ap (option_map (swapped a b)) up)
          (rename-values r)

      pub rename-linked : (linked : IsLinked f) → ((y : NodeName) → length (node f (swapped a b y)).tree ≤ most_tree_children y) → IsLinked (rename f a b)
      rename-linked linked few = record {
        order = (λ y. linked.order.0 (swapped a b y), λ y p up. linked.order.1 (swapped a b y) (swapped a b p) (up_of y p up));
        few = λ y. rw (node-rename f y, length-map (node f (swapped a b y)).tree (swapped a b)) (few y);
        stub_bare = λ y p u. ap (λ n. n.own) (node-rename f y) ∙ linked.stub_bare (swapped a b y) (swapped a b p) (hang_of y (StubOf p) u);
        tree_links = λ y p. (
          λ i. of_hang y (TreeOf p) ((linked.tree_links (swapped a b y) (swapped a b p)).0 (in_swapped _ y (subst (λ xs. y ∈ xs) (ap (λ n. n.tree) (node-rename f p)) i))),
          λ u. subst (λ xs. y ∈ xs) (sym (ap (λ n. n.tree) (node-rename f p))) (swapped_in _ y ((linked.tree_links (swapped a b y) (swapped a b p)).1 (hang_of y (TreeOf p) u))),
        );
        stub_links = λ y p. (
          λ i. of_hang y (StubOf p) ((linked.stub_links (swapped a b y) (swapped a b p)).0 (in_swapped _ y (subst (λ xs. y ∈ xs) (ap (λ n. n.stubs) (node-rename f p)) i))),
          λ u. subst (λ xs. y ∈ xs) (sym (ap (λ n. n.stubs) (node-rename f p))) (swapped_in _ y ((linked.stub_links (swapped a b y) (swapped a b p)).1 (hang_of y (StubOf p) u))),
        );
        once = λ y. (subst Once (sym (ap (λ n. n.tree) (node-rename f y))) (Once-swapped _ (linked.once (swapped a b y)).0), subst Once (sym (ap (λ n. n.stubs) (node-rename f y))) (Once-swapped _ (linked.once (swapped a b y)).1));
      }
        where
          hang_of : (y : NodeName) (h : Hang) → (node (rename f a b) y).hang ≡ h → (node f (swapped a b y)).hang ≡ swapped_hang a b h
          hang_of y h u = sym (hang_across _) ∙ ap (swapped_hang a b) (sym (ap (λ n. n.hang) (node-rename f y)) ∙ u)

          of_hang : (y : NodeName) (h : Hang) → (node f (swapped a b y)).hang ≡ swapped_hang a b h → (node (rename f a b) y).hang ≡ h
          of_hang y h u = ap (λ n. n.hang) (node-rename f y) ∙ ap (swapped_hang a b) u ∙ hang_across h

          up_of : (y p : NodeName) → parent (rename f a b) y ≡ Some p → parent f (swapped a b y) ≡ Some (swapped a b p)
          up_of y p up = ap parent_of (sym (hang_across _)) ∙ parent_across _ ∙ ap (option_map (swapped a b)) (ap (λ n. parent_of n.hang) (sym (node-rename f y)) ∙ up)
