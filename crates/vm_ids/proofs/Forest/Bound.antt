-- Where each working node has two children, the working nodes are fewer than the live ones, or
-- there are none of either.
use Rattle.std.proofs.Common.{◌≡◌, ℕ, suc, zero, ◌+◌, ◌*◌, ◌<◌, ◌≤◌, List, [], ◌∷◌, ◌++◌, map, length, ◌≢◌, Bool, true, false, cond, not, T, ◌&&◌, ◌||◌, ◌⊎◌, Option, Some, None, refl, sym, ap, subst, ◌∙◌, inl, inr, arith, filter, ltb, ltb-true, ltb-false}
use Rattle.std.specs.List.{list_any}
use Rattle.std.specs.FinMap.Entries.{is_sorted, below_all}
use Rattle.std.specs.declared.cmp.Ordering.{Ordering}
use Rattle.std.specs.declared.cmp.Ordering.TheVariants.{Less, Equal, Greater}
use Rattle.std.specs.Ordering.{is_lt}
use Rattle.std.specs.Cmp.{tied_itself}
use Rattle.std.proofs.lemmas.List.{length-append, length-map}
use Rattle.vm_ids.specs.declared.node_name.NodeName.{NodeName}
use Rattle.vm_ids.specs.Forest.Names.{same, name_cmp, name_cmp_total}
use Rattle.vm_ids.proofs.Forest.Names.{same_itself}
use Rattle.vm_ids.specs.Forest.NameLists.{◌∈◌, Once}
use Rattle.vm_ids.specs.Forest.NameMap.{len, keys}
use Rattle.vm_ids.proofs.Forest.NameMap.{contains_key-keys}
use Rattle.vm_ids.specs.Forest.Nodes.{Forest, node, parent, parent_of, child_count, is_live, IsNode}
use Rattle.vm_ids.specs.Forest.Shape.{IsLinked}
use Rattle.vm_ids.specs.Forest.Reading.{live_count, working_count}
use Rattle.vm_ids.specs.Forest.Settling.{is_thin, thin}
use Rattle.vm_ids.proofs.Forest.Writing.{first_none}
use Rattle.vm_ids.proofs.Forest.NameLists.{in_append, Once-append, in_filter, filter_in, first_in}
use Rattle.vm_ids.proofs.Forest.Fitting.{in_from_any, names_fit, parent-IsNode, IsNode-parent}

-- the keys of a map stand in it once
pub both_left : (a b : Bool) → T (a && b) → T a
both_left true b t = tt
both_left false b t = t

pub both_right : (a b : Bool) → T (a && b) → T b
both_right true b t = t
both_right false b t = absurd t

less_apart : (k x : NodeName) → T (is_lt (name_cmp k x)) → k ≢ x
less_apart k x t e = absurd (less_not_same k (subst (λ z. T (is_lt (name_cmp k z))) (sym e) t))
  where
    less_not_same : (k : NodeName) → T (is_lt (name_cmp k k)) → ⊥
    less_not_same k t = go (name_cmp k k) refl t
      where
        go : (o : Ordering) → name_cmp k k ≡ o → T (is_lt o) → ⊥
        go Less e t = cc (e, tied_itself name_cmp_total k)
        go Equal e t = t
        go Greater e t = t

not_below : {X : Type 0} (k : NodeName) (es : List (NodeName × X)) → T (below_all name_cmp k es) → k ∈ map (λ e. e.0) es → ⊥
not_below k [] t i = i
not_below k (e ∷ es) t i = elim i [ inl q ↦ less_apart k e.0 (both_left _ _ t) q | inr j ↦ not_below k es (both_right _ _ t) j ]

pub Once-keys : {X : Type 0} (es : List (NodeName × X)) → T (is_sorted name_cmp es) → Once (map (λ e. e.0) es)
Once-keys [] t = tt
Once-keys (e ∷ es) t = (not_below e.0 es (both_left _ _ t), Once-keys es (both_right _ _ t))

pub split_length : (test : NodeName → Bool) (xs : List NodeName) → length (filter test xs) + length (filter (λ x. not (test x)) xs) ≡ length xs
split_length test [] = refl
split_length test (x ∷ xs) = go (test x) (split_length test xs)
  where
    go : (b : Bool) → length (filter test xs) + length (filter (λ x. not (test x)) xs) ≡ length xs
        → length (cond b (x ∷ filter test xs) (filter test xs)) + length (cond (not b) (x ∷ filter (λ x. not (test x)) xs) (filter (λ x. not (test x)) xs)) ≡ suc (length xs)
    go true e = omega arith
    go false e = omega arith

pub any_from_in : (xs : List NodeName) (x : NodeName) → x ∈ xs → list_any (same x) xs ≡ true
any_from_in [] x i = absurd i
any_from_in (y ∷ ys) x i = elim i [ inl e ↦ ap (λ b. b || list_any (same x) ys) (ap (same x) (sym e) ∙ same_itself x) | inr j ↦ later (same x y) (any_from_in ys x j) ]
  where
    later : (b : Bool) → list_any (same x) ys ≡ true → (b || list_any (same x) ys) ≡ true
    later true e = refl
    later false e = e

module _ {P : Type 0} where
  pub key-IsNode : (f : Forest P) (x : NodeName) → x ∈ keys f.nodes → IsNode f x
  key-IsNode f x i = contains_key-keys f.nodes x ∙ any_from_in (keys f.nodes) x i

  pub IsNode-key : (f : Forest P) (x : NodeName) → IsNode f x → x ∈ keys f.nodes
  IsNode-key f x is = in_from_any (keys f.nodes) x (sym (contains_key-keys f.nodes x) ∙ is)

  -- the children of the nodes xs
  all_children : Forest P → List NodeName → List NodeName
  all_children f [] = []
  all_children f (x ∷ xs) = ((node f x).tree ++ (node f x).stubs) ++ all_children f xs

  module _ (f : Forest P) (linked : IsLinked f) where
    pub child_up : (x y : NodeName) → y ∈ ((node f x).tree ++ (node f x).stubs) → parent f y ≡ Some x
    child_up x y i = elim (in_append (node f x).tree (node f x).stubs y i) [ inl t ↦ ap parent_of ((linked.tree_links y x).0 t) | inr s ↦ ap parent_of ((linked.stub_links y x).0 s) ]

    in_all : (xs : List NodeName) (y : NodeName) → y ∈ all_children f xs → (x : NodeName) × (x ∈ xs) × (parent f y ≡ Some x)
    unfolding all_children
    in_all [] y i = absurd i
    in_all (x ∷ xs) y i = elim (in_append ((node f x).tree ++ (node f x).stubs) (all_children f xs) y i) [
      | inl j ↦ (x, inl refl, child_up x y j)
      | inr j ↦ let r = in_all xs y j in (r.0, inr r.1, r.2)
    ]

    Once-all : (xs : List NodeName) → Once xs → Once (all_children f xs)
    unfolding all_children
    Once-all [] once = tt
    Once-all (x ∷ xs) once = Once-append _ _
        (Once-append (node f x).tree (node f x).stubs (linked.once x).0 (linked.once x).1 (λ z i j. cc ((linked.tree_links z x).0 i, (linked.stub_links z x).0 j)))
        (Once-all xs once.1)
        (λ z i j. let r = in_all xs z j in once.0 (subst (λ v. v ∈ xs) (cc (r.2, child_up x z i)) r.1))

    many : (xs : List NodeName) → ((x : NodeName) → x ∈ xs → is_live x ≡ false → 2 ≤ child_count f x) → 2 * length (filter (λ x. not (is_live x)) xs) ≤ length (all_children f xs)
    unfolding all_children
    many [] two = omega arith
    many (x ∷ xs) two = go (is_live x) refl (many xs (λ z i. two z (inr i)))
      where
        lengths : length (((node f x).tree ++ (node f x).stubs) ++ all_children f xs) ≡ child_count f x + length (all_children f xs)
        lengths = length-append _ _ ∙ ap (λ n. n + length (all_children f xs)) (length-append (node f x).tree (node f x).stubs)

        go : (b : Bool) → is_live x ≡ b → 2 * length (filter (λ x. not (is_live x)) xs) ≤ length (all_children f xs)
            → 2 * length (cond (not b) (x ∷ filter (λ x. not (is_live x)) xs) (filter (λ x. not (is_live x)) xs)) ≤ length (((node f x).tree ++ (node f x).stubs) ++ all_children f xs)
        go true e h = let l = lengths in omega arith
        go false e h = let l = lengths in let t = two x (inl refl) e in omega arith

    root_below : (n : ℕ) (x : NodeName) → IsNode f x → linked.order.0 x < n → (r : NodeName) × IsNode f r × (parent f r ≡ None)
    root_below zero x is low = absurd (omega arith)
    root_below (suc n) x is low = go (parent f x) refl (λ p up. root_below n p (parent-IsNode f linked x p up) (let lower = linked.order.1 x p up in omega arith))
      where
        go : (u : Option NodeName) → parent f x ≡ u → ((p : NodeName) → parent f x ≡ Some p → (r : NodeName) × IsNode f r × (parent f r ≡ None)) → (r : NodeName) × IsNode f r × (parent f r ≡ None)
        go None up more = (x, is, up)
        go (Some p) up more = more p up

    -- where each working node has two children
    pub working_count-lt : ((k : NodeName) → IsNode f k → is_live k ≡ false → 2 ≤ child_count f k) → (working_count f < live_count f) ⊎ ((working_count f ≡ 0) × (live_count f ≡ 0))
    working_count-lt two = go (keys f.nodes) refl
      where
        split : length (filter is_live (keys f.nodes)) + length (filter (λ x. not (is_live x)) (keys f.nodes)) ≡ length (keys f.nodes)
        split = split_length is_live (keys f.nodes)

        go : (ks : List NodeName) → keys f.nodes ≡ ks → (working_count f < live_count f) ⊎ ((working_count f ≡ 0) × (live_count f ≡ 0))
        go [] e = let s = split in let l = ap length e in inr (omega arith)
        go (x ∷ ks) e =
            let is_x : IsNode f x = key-IsNode f x (subst (λ ys. x ∈ ys) (sym e) (inl refl)) in
            let r = root_below (suc (linked.order.0 x)) x is_x (omega arith) in
            let all = all_children f (keys f.nodes) in
            let fits : suc (length all) ≤ len f.nodes = names_fit f (r.0 ∷ all)
            ((λ i. let c = in_all (keys f.nodes) r.0 i in cc (r.2, c.2)), Once-all (keys f.nodes) (Once-keys f.nodes.list f.nodes.sorted))
            (λ y i. elim i [ inl q ↦ subst (IsNode f) (sym q) r.1 | inr j ↦ let c = in_all (keys f.nodes) y j in IsNode-parent f y c.0 c.2 ]) in
            let twice = many (keys f.nodes) (λ z i. two z (key-IsNode f z i)) in
            let s = split in
            let l : length (keys f.nodes) ≡ len f.nodes = length-map f.nodes.list _ in
            inl (omega arith)

  -- where no node is thin, each working node has two children
  pub thin_none : (f : Forest P) → thin f ≡ None → (x : NodeName) → IsNode f x → is_live x ≡ false → 2 ≤ child_count f x
  unfolding thin
  thin_none f e x is working = go (ltb (child_count f x) 2) refl
    where
      go : (b : Bool) → ltb (child_count f x) 2 ≡ b → 2 ≤ child_count f x
      go true t = absurd (first_none _ x (filter_in (is_thin f) (keys f.nodes) x (IsNode-key f x is) (ap (λ b. cond b false (ltb (child_count f x) 2)) working ∙ t)) e)
      go false t = ltb-false _ _ t

  pub thin-some : (f : Forest P) (w : NodeName) → thin f ≡ Some w → IsNode f w × (is_live w ≡ false) × (child_count f w < 2)
  unfolding thin
  thin-some f w e =
      let p = in_filter (is_thin f) (keys f.nodes) w (first_in _ w e) in
      let t = thin_is (is_live w) _ p.1 in
      (key-IsNode f w p.0, t.0, t.1)
    where
      thin_is : (l : Bool) (n : ℕ) → cond l false (ltb n 2) ≡ true → (l ≡ false) × (n < 2)
      thin_is true n e = absurd (cc e)
      thin_is false n e = (refl, ltb-true _ _ e)
