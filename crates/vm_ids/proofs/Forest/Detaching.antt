-- Detach, and the rule stub.
use Rattle.std.proofs.Common.{◌≡◌, ℕ, suc, zero, ◌+◌, ◌≤◌, List, [], ◌∷◌, ◌++◌, length, ◌≢◌, true, cond, ◌⊎◌, Option, Some, None, is_some, option_map, refl, sym, ap, subst, ◌∙◌, inl, inr, arith}
use Rattle.std.specs.FinMap.Entries.{find}
use Rattle.vm_ids.specs.declared.node_name.NodeName.{NodeName}
use Rattle.vm_ids.specs.Forest.Names.{same, name_cmp, Live, Working}
use Rattle.vm_ids.proofs.Forest.Names.{name_cases, same_itself, same_apart}
use Rattle.vm_ids.specs.Forest.NameLists.{◌∈◌, Once, swapped, without}
use Rattle.vm_ids.specs.Forest.NameMap.{get, contains_key}
use Rattle.vm_ids.proofs.Forest.NameMap.{get-from_entries}
use Rattle.vm_ids.specs.Forest.Nodes.{Hang, Node, Forest, node, childless, parent, parent_of, child_count, IsNode, is_live, most_tree_children}
use Rattle.vm_ids.specs.Forest.Shape.{IsLinked, IsRanked, IsCounted}
use Rattle.vm_ids.specs.Forest.Changes.{put, free, cut, swapped_node, rename, relist, count_working}
use Rattle.vm_ids.specs.Forest.Rules.{retire, stub}
use Rattle.vm_ids.specs.Forest.Values.{IsValue}
use Rattle.vm_ids.specs.Forest.Nodes.Hang.{Root, TreeOf, StubOf}
use Rattle.vm_ids.proofs.Forest.NamesAfter.{SameNames}
use Rattle.vm_ids.proofs.Forest.NodesAfter.{has-put, node-put, node-put_other, keeps, IsNode-free, free-IsNode}
use Rattle.vm_ids.proofs.Forest.NameLists.{in_append, append_in, Once-append}
use Rattle.vm_ids.proofs.Forest.Fitting.{IsNode-IsValue, parent_cases}
use Rattle.vm_ids.proofs.Forest.Values.{values_kept}
use Rattle.vm_ids.specs.Forest.Values.IsValue.{itself, above}
use Rattle.vm_ids.proofs.Forest.LinkingOver.{node-none, node-count_working}
use Rattle.vm_ids.proofs.Forest.Cutting.{linked_by_columns}
use Rattle.vm_ids.proofs.Forest.SettleStep.{gone}
use Rattle.vm_ids.proofs.Forest.Settling.{cut-names}
use Rattle.vm_ids.proofs.Forest.Renaming.{rename-values, rename-linked, find_across}

pub swapped_a : (a b : NodeName) → swapped a b a ≡ b
swapped_a a b = rw (same_itself a)

pub swapped_other : (a b x : NodeName) → x ≢ a → x ≢ b → swapped a b x ≡ x
swapped_other a b x p q = rw (same_apart a x (λ e. p (sym e)), same_apart b x (λ e. q (sym e)))

pub swapped_b : (a b : NodeName) → b ≢ a → swapped a b b ≡ a
swapped_b a b p = rw (same_apart a b (λ e. p (sym e)), same_itself b)

pub live_most : (x : NodeName) → is_live x ≡ true → most_tree_children x ≡ 1
live_most (Live c p) e = refl
live_most (Working k) e = absurd (cc e)

most_two : (x : NodeName) → most_tree_children x ≤ 2
most_two (Live c p) = omega arith
most_two (Working k) = omega arith

no_names : (xs ys : List NodeName) → length xs + length ys ≡ 0 → xs ++ ys ≡ []
no_names [] [] e = refl
no_names [] (y ∷ ys) e = absurd (omega arith)
no_names (x ∷ xs) ys e = absurd (omega arith)

module _ {P : Type 0} where
  -- d goes, and if it had children they hang on a new working node
  pub record Freed (f g : Forest P) (d : NodeName) : Type 0 where
    pub shape : IsLinked g
    pub kept : (y : NodeName) (v : P) → y ≢ d → IsValue f y v → IsValue g y v
    pub names : (z : NodeName) → IsNode g z → (z ≢ d) × (IsNode f z ⊎ (z ≡ Working (f.made + 1)))
    pub stays : (z : NodeName) → IsNode f z → z ≢ d → IsNode g z
    pub counted : IsCounted f → IsCounted g
    pub moved : (v : P) → IsValue f d v → IsNode g (Working (f.made + 1)) → IsValue g (Working (f.made + 1)) v

  pub rename-names : (f : Forest P) (a b z : NodeName) → contains_key (rename f a b).nodes z ≡ contains_key f.nodes (swapped a b z)
  unfolding rename get
  rename-names f a b z = ap is_some (get-from_entries _ z ∙ find_across a b z f.nodes.list) ∙ out (find name_cmp (swapped a b z) f.nodes.list)
    where
      out : (o : Option (Node P)) → is_some (option_map (swapped_node a b) o) ≡ is_some o
      out None = refl
      out (Some n) = refl

  made_gone : (f : Forest P) (d : NodeName) → (free (cut f d) d).made ≡ f.made
  unfolding free cut relist put
  made_gone f d = go (node f d).hang
    where
      go : (h : Hang) → (relist f h (without d)).made ≡ f.made
      go Root = refl
      go (TreeOf p) = refl
      go (StubOf p) = refl

  module _ (f : Forest P) (linked : IsLinked f) (d : NodeName) (is_d : IsNode f d) (live : is_live d ≡ true) (fresh : IsNode f (Working (f.made + 1)) → ⊥) where
    w_d : Working (f.made + 1) ≢ d
    w_d e = fresh (subst (IsNode f) (sym e) is_d)

    few_renamed : (y : NodeName) → length (node f (swapped d (Working (f.made + 1)) y)).tree ≤ most_tree_children y
    few_renamed y = elim (name_cases y d) [
      | inl e ↦ rw (e, swapped_a d (Working (f.made + 1)), node-none f _ fresh) (omega arith)
      | inr a ↦ elim (name_cases y (Working (f.made + 1))) [
        | inl e ↦ rw (e, swapped_b d (Working (f.made + 1)) w_d) (let l = linked.few d in let m = live_most d live in omega arith)
        | inr b ↦ rw (swapped_other d _ y a b) (linked.few y)
      ]
    ]

    freed_named : Freed f (count_working (rename f d (Working (f.made + 1)))) d
    unfolding rename
    freed_named =
        let w = Working (f.made + 1) in
        let g = rename f d w in
        let l = rename-linked d w f linked few_renamed in
        record {
          shape = linked_by_columns g (count_working g) l (λ y. ap (λ n. n.hang) (node-count_working g y)) (λ y. ap (λ n. n.tree) (node-count_working g y)) (λ y. ap (λ n. n.stubs) (node-count_working g y))
              (λ y p u. ap (λ n. n.own) (node-count_working g y) ∙ l.stub_bare y p u);
          kept = λ y v a r.
              let b : y ≢ w = λ e. fresh (subst (IsNode f) e (IsNode-IsValue f r)) in
              values_kept g (count_working g) (λ z u q. inr (ap (λ n. n.own) (node-count_working g z), ap (λ n. parent_of n.hang) (node-count_working g z)))
              (subst (λ z. IsValue g z v) (swapped_other d w y a b) (rename-values d w f r));
          names = λ z is.
              let old : IsNode f (swapped d w z) = sym (rename-names f d w z) ∙ is in
              elim (name_cases z d) [
                | inl e ↦ absurd (fresh (subst (IsNode f) (ap (swapped d w) e ∙ swapped_a d w) old))
                | inr a ↦ elim (name_cases z w) [
                  | inl e ↦ (a, inr e)
                  | inr b ↦ (a, inl (subst (IsNode f) (swapped_other d w z a b) old))
                ]
              ];
          stays = λ z is a. rename-names f d w z ∙ subst (IsNode f) (sym (swapped_other d w z a (λ e. fresh (subst (IsNode f) e is)))) is;
          counted = λ counts k is. named_counted counts k is;
          moved = λ v r is. values_kept g (count_working g) (λ z u q. inr (ap (λ n. n.own) (node-count_working g z), ap (λ n. parent_of n.hang) (node-count_working g z))) (subst (λ z. IsValue g z v) (swapped_a d w) (rename-values d w f r));
        }
      where
        not_live : (k : ℕ) → Working k ≡ d → ⊥
        not_live k e = cc (ap is_live e, live)

        named_counted : IsCounted f → (k : ℕ) → IsNode (rename f d (Working (f.made + 1))) (Working k) → k ≤ f.made + 1
        named_counted counts k is =
            let old : IsNode f (swapped d (Working (f.made + 1)) (Working k)) = sym (rename-names f d (Working (f.made + 1)) (Working k)) ∙ is in
            elim (name_cases (Working k) (Working (f.made + 1))) [
              | inl e ↦ let number : k ≡ f.made + 1 = cc e in omega arith
              | inr b ↦ let low = counts k (subst (IsNode f) (swapped_other d _ (Working k) (λ e. not_live k e) b) old) in omega arith
            ]

    freed_gone : (node f d).tree ++ (node f d).stubs ≡ [] → Freed f (free (cut f d) d) d
    freed_gone e =
        let s = gone f linked d e in
        record {
          shape = s.shape;
          kept = s.kept;
          names = λ z is. let r = IsNode-free (cut f d) d z is in (r.0, inl (sym (cut-names f linked d is_d z) ∙ r.1));
          stays = λ z is a. free-IsNode (cut f d) d z a (cut-names f linked d is_d z ∙ is);
          counted = λ counts k is. subst (λ m. k ≤ m) (sym (made_gone f d)) (counts k (sym (cut-names f linked d is_d (Working k)) ∙ (IsNode-free (cut f d) d (Working k) is).1));
          moved = λ v r is. absurd (fresh (sym (cut-names f linked d is_d (Working (f.made + 1))) ∙ (IsNode-free (cut f d) d (Working (f.made + 1)) is).1));
        }

    pub retire-Freed : Freed f (retire f d) d
    unfolding retire
    retire-Freed = go (child_count f d) refl
      where
        go : (n : ℕ) → child_count f d ≡ n → Freed f (elim n [ zero ↦ free (cut f d) d | suc n ↦ count_working (rename f d (Working (f.made + 1))) ]) d
        go zero e = freed_gone (no_names _ _ e)
        go (suc n) e = freed_named

  -- a fresh node, without a page
  pub fresh-linked : (f : Forest P) → IsLinked f → (d : NodeName) → (IsNode f d → ⊥) → (o : Option P) → IsLinked (put f d (childless o Root))
  fresh-linked f linked d not o =
      let bare = node-none f d not in
      linked_by_columns f _ linked (keeps (λ n. n.hang) f d _ (ap (λ n. n.hang) (sym bare))) (keeps (λ n. n.tree) f d _ (ap (λ n. n.tree) (sym bare))) (keeps (λ n. n.stubs) f d _ (ap (λ n. n.stubs) (sym bare)))
      (λ y p u. elim (name_cases y d) [
        | inl e ↦ absurd (cc (u, ap (λ z. (node f z).hang) e, ap (λ n. n.hang) bare))
        | inr a ↦ ap (λ n. n.own) (node-put_other f d y _ a) ∙ linked.stub_bare y p u
      ])

  pub fresh-values : (f : Forest P) (d : NodeName) → (IsNode f d → ⊥) → (n : Node P) → {y : NodeName} {v : P} → IsValue f y v → IsValue (put f d n) y v
  fresh-values f d not n = values_kept f _ (λ y v r. let a : y ≢ d = λ e. not (subst (IsNode f) e (IsNode-IsValue f r)) in
      inr (ap (λ n. n.own) (node-put_other f d y n a), ap (λ n. parent_of n.hang) (node-put_other f d y n a)))

  -- d, fresh, becomes the last stub of s
  module _ (f : Forest P) (linked : IsLinked f) (d s : NodeName) (bare_d : node f d ≡ childless None Root) (d_s : d ≢ s) where
    pub stub-own : (y : NodeName) → (node (stub f d s) y).own ≡ (node f y).own
    unfolding stub
    stub-own y = keeps (λ n. n.own) _ d _ refl y ∙ keeps (λ n. n.own) f s _ refl y

    pub stub-tree : (y : NodeName) → (node (stub f d s) y).tree ≡ (node f y).tree
    unfolding stub
    stub-tree y = keeps (λ n. n.tree) _ d _ refl y ∙ keeps (λ n. n.tree) f s _ refl y

    pub stub-stubs_s : (node (stub f d s) s).stubs ≡ (node f s).stubs ++ d ∷ []
    unfolding stub
    stub-stubs_s = keeps (λ n. n.stubs) _ d _ refl s ∙ ap (λ n. n.stubs) (node-put f s _)

    pub stub-stubs : (y : NodeName) → y ≢ s → (node (stub f d s) y).stubs ≡ (node f y).stubs
    unfolding stub
    stub-stubs y a = keeps (λ n. n.stubs) _ d _ refl y ∙ ap (λ n. n.stubs) (node-put_other f s y _ a)

    pub stub-hang_d : (y : NodeName) → y ≡ d → (node (stub f d s) y).hang ≡ StubOf s
    unfolding stub
    stub-hang_d y e = ap (λ z. (node (stub f d s) z).hang) e ∙ ap (λ n. n.hang) (node-put _ d _)

    pub stub-hang : (y : NodeName) → y ≢ d → (node (stub f d s) y).hang ≡ (node f y).hang
    unfolding stub
    stub-hang y a = ap (λ n. n.hang) (node-put_other _ d y _ a) ∙ keeps (λ n. n.hang) f s _ refl y

    root_d : (y : NodeName) → y ≡ d → (node f y).hang ≡ Root
    root_d y e = ap (λ z. (node f z).hang) e ∙ ap (λ n. n.hang) bare_d

    none_above : (y : NodeName) → parent f y ≡ Some d → ⊥
    none_above y up = elim (parent_cases f linked y d up) [
      | inl t ↦ subst (λ n. y ∈ n.tree) bare_d ((linked.tree_links y d).1 t)
      | inr t ↦ subst (λ n. y ∈ n.stubs) bare_d ((linked.stub_links y d).1 t)
    ]

    stub_rank : NodeName → ℕ
    stub_rank y = cond (same d y) (linked.order.0 s + 1) (linked.order.0 y)

    stub_rank_d : (y : NodeName) → y ≡ d → stub_rank y ≡ linked.order.0 s + 1
    unfolding stub_rank
    stub_rank_d y e = rw (e, same_itself d)

    stub_rank_other : (y : NodeName) → y ≢ d → stub_rank y ≡ linked.order.0 y
    unfolding stub_rank
    stub_rank_other y a = rw (same_apart d y (λ e. a (sym e)))

    stub-ranked : IsRanked (stub f d s) stub_rank
    stub-ranked y p up = elim (name_cases y d) [
      | inl e ↦
          let p_is : p ≡ s = cc (up, ap parent_of (stub-hang_d y e)) in
          let at_p = stub_rank_other p (λ q. d_s (sym q ∙ p_is)) in
          let is = ap linked.order.0 p_is in
          let at_y = stub_rank_d y e in
          omega arith
      | inr a ↦
          let old : parent f y ≡ Some p = ap parent_of (sym (stub-hang y a)) ∙ up in
          let at_y = stub_rank_other y a in
          let at_p = stub_rank_other p (λ q. none_above y (old ∙ ap Some q)) in
          let low = linked.order.1 y p old in
          omega arith
    ]

    pub stub-linked : IsLinked (stub f d s)
    stub-linked = record {
      order = (stub_rank, stub-ranked);
      few = λ y. rw (stub-tree y) (linked.few y);
      stub_bare = λ y p u. stub-own y ∙ elim (name_cases y d) [
        | inl e ↦ ap (λ z. (node f z).own) e ∙ ap (λ n. n.own) bare_d
        | inr a ↦ linked.stub_bare y p (sym (stub-hang y a) ∙ u)
      ];
      tree_links = λ y p. (
        λ i.
            let old = (linked.tree_links y p).0 (subst (λ xs. y ∈ xs) (stub-tree p) i) in
            elim (name_cases y d) [ inl e ↦ absurd (cc (old, root_d y e)) | inr a ↦ stub-hang y a ∙ old ],
        λ u. subst (λ xs. y ∈ xs) (sym (stub-tree p)) (elim (name_cases y d) [
          | inl e ↦ absurd (cc (u, stub-hang_d y e))
          | inr a ↦ (linked.tree_links y p).1 (sym (stub-hang y a) ∙ u)
        ]),
      );
      stub_links = λ y p. (to y p, from y p);
      once = λ y. (
        subst Once (sym (stub-tree y)) (linked.once y).0,
        elim (name_cases y s) [
          | inl e ↦ subst Once (sym (ap (λ z. (node (stub f d s) z).stubs) e ∙ stub-stubs_s)) (Once-append _ (d ∷ []) (linked.once s).1 ((λ k. k), tt)
              (λ z i j. elim j [ inl q ↦ cc ((linked.stub_links z s).0 i, root_d z q) | inr k ↦ k ]))
          | inr a ↦ subst Once (sym (stub-stubs y a)) (linked.once y).1
        ],
      );
    }
      where
        old_of : (y p : NodeName) → (node f y).hang ≡ StubOf p → (node (stub f d s) y).hang ≡ StubOf p
        old_of y p old = elim (name_cases y d) [ inl e ↦ absurd (cc (old, root_d y e)) | inr a ↦ stub-hang y a ∙ old ]

        to : (y p : NodeName) → y ∈ (node (stub f d s) p).stubs → (node (stub f d s) y).hang ≡ StubOf p
        to y p i = elim (name_cases p s) [
          | inl e ↦ elim (in_append (node f s).stubs (d ∷ []) y (subst (λ xs. y ∈ xs) (ap (λ z. (node (stub f d s) z).stubs) e ∙ stub-stubs_s) i)) [
            | inl j ↦ old_of y p ((linked.stub_links y s).0 j ∙ ap StubOf (sym e))
            | inr j ↦ elim j [ inl q ↦ stub-hang_d y q ∙ ap StubOf (sym e) | inr k ↦ absurd k ]
          ]
          | inr a ↦ old_of y p ((linked.stub_links y p).0 (subst (λ xs. y ∈ xs) (stub-stubs p a) i))
        ]

        at_s : (y p : NodeName) → p ≡ s → y ∈ ((node f s).stubs ++ d ∷ []) → y ∈ (node (stub f d s) p).stubs
        at_s y p e i = subst (λ xs. y ∈ xs) (sym (ap (λ z. (node (stub f d s) z).stubs) e ∙ stub-stubs_s)) i

        from : (y p : NodeName) → (node (stub f d s) y).hang ≡ StubOf p → y ∈ (node (stub f d s) p).stubs
        from y p u = elim (name_cases y d) [
          | inl e ↦ at_s y p (cc (u, stub-hang_d y e)) (append_in (node f s).stubs (d ∷ []) y (inr (inl e)))
          | inr a ↦
              let old = (linked.stub_links y p).1 (sym (stub-hang y a) ∙ u) in
              elim (name_cases p s) [
                | inl e ↦ at_s y p e (append_in (node f s).stubs (d ∷ []) y (inl (subst (λ z. y ∈ (node f z).stubs) e old)))
                | inr b ↦ subst (λ xs. y ∈ xs) (sym (stub-stubs p b)) old
              ]
        ]

    no_value_d : {v : P} (x : NodeName) → node f x ≡ childless None Root → IsValue f x v → ⊥
    no_value_d x bare (itself e) = cc (e, ap (λ n. n.own) bare)
    no_value_d x bare (above none up r) = cc (up, ap (λ n. parent_of n.hang) bare)

    pub stub-values : {y : NodeName} {v : P} → IsValue f y v → IsValue (stub f d s) y v
    stub-values = values_kept f _ λ y v r. elim (name_cases y d) [
      | inl e ↦ absurd (no_value_d d bare_d (subst (λ z. IsValue f z v) e r))
      | inr a ↦ inr (stub-own y, ap parent_of (stub-hang y a))
    ]

    pub stub-names : IsNode f d → IsNode f s → SameNames (stub f d s) f
    unfolding stub
    stub-names is_d is_s y = has-put _ d _ (has-put f s _ is_s d ∙ is_d) y ∙ has-put f s _ is_s y

    pub stub-made : (stub f d s).made ≡ f.made
    unfolding stub put
    stub-made = refl

    pub stub-value_d : (v : P) → IsValue f s v → IsValue (stub f d s) d v
    stub-value_d v r = above (stub-own d ∙ ap (λ n. n.own) bare_d) (ap parent_of (stub-hang_d d refl)) (stub-values r)
