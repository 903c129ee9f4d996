-- The laws of own and heir_gets.
use Rattle.std.proofs.Common.{◌≡◌, ◌≢◌, ℕ, suc, zero, ◌+◌, List, ◌∷◌, ◌++◌, true, Option, Some, None, is_some, is_none, refl, sym, ap, ap₂, subst, ◌∙◌, inl, inr}
use Rattle.vm_ids.specs.declared.node_name.NodeName.{NodeName}
use Rattle.vm_ids.proofs.Forest.Names.{same_itself, same_apart}
use Rattle.vm_ids.specs.Forest.NameLists.{◌∈◌, without}
use Rattle.vm_ids.specs.Forest.NameMap.{len}
use Rattle.vm_ids.specs.Forest.Nodes.{Hang, Forest, node, parent, parent_of, childless, is_live}
use Rattle.vm_ids.specs.Forest.Nodes.Hang.{Root, TreeOf, StubOf}
use Rattle.vm_ids.specs.Forest.Shape.{IsLinked, IsWellShaped}
use Rattle.vm_ids.specs.Forest.Reading.{value_of, path_of, path_within, names_above}
use Rattle.vm_ids.specs.Forest.Changes.{count_copy}
use Rattle.vm_ids.specs.Forest.Rules.{own, heir, heir_gets, gets, hand_stubs}
use Rattle.vm_ids.specs.Forest.Values.{IsValue}
use Rattle.vm_ids.specs.Forest.Values.IsValue.{itself, above}
use Rattle.vm_ids.specs.Forest.Laws.Owning.{OwnKeepsConsistency, OwnKeepsBound, OwnKeepsValues, OwnGivesPage, OwnCountsOneCopy, HeirGetsKeepsConsistency, HeirGetsKeepsBound, HeirGetsKeepsValues, HeirGetsThePage, HeirGetsTheStubs, HeirGetsLeavesNoHeir, HeirGetsLeavesNoReader, HeirGetsCountsOneCopy}
use Rattle.vm_ids.proofs.Forest.NameLists.{in_append, in_filter, without_out, no_first}
use Rattle.vm_ids.proofs.Forest.Columns.{left_stubs, gets-own, gets-stubs, hand_stubs-stubs_to}
use Rattle.vm_ids.proofs.Forest.Values.{heir_hangs, handed, heir_own, own-values, heir_gets-values, node-count_copy}
use Rattle.vm_ids.proofs.Forest.NamesAfter.{own-names, heir_gets-names}
use Rattle.vm_ids.proofs.Forest.Reading.{value-IsValue, IsValue-value}
use Rattle.vm_ids.proofs.Forest.Owning.{has_value, own-shaped, heir_gets-shaped, apart_of_heir}
use Rattle.vm_ids.proofs.Forest.Writing.{ReadsNot, heir_gets-ReadsNot}
use Rattle.vm_ids.proofs.Forest.Detaching.{live_most}
use Rattle.vm_ids.proofs.Forest.Paths.{path-step, IsNode-value}
use Rattle.vm_ids.proofs.Forest.LinkingOver.{node-none}
use Rattle.vm_ids.proofs.Forest.Counters.{own-made, own-copies, heir_gets-made, heir_gets-copies}
use Rattle.vm_ids.proofs.Forest.Agreeing.{value_equal, same_counts, same_bound, counted_from}

stubs_of : (x h : NodeName) (l : Hang) (xs ys : List NodeName) → h ≢ x → (l ≡ TreeOf x → h ∈ xs → ⊥) → (parent_of l ≡ Some x) → left_stubs h l h ys ++ left_stubs h l x xs ≡ ys ++ without h xs
stubs_of x h Root xs ys apart out up = absurd (cc up)
stubs_of x h (TreeOf p) xs ys apart out up = let is : p ≡ x = cc up in ap (λ zs. ys ++ zs) (sym (without_out h xs (out (ap TreeOf is))))
stubs_of x h (StubOf p) xs ys apart out up = let is : p ≡ x = cc up in rw (is, same_itself x, same_apart x h (λ e. apart (sym e))) refl

module _ {P : Type 0} where
  pub own_keeps_consistency : OwnKeepsConsistency P
  own_keeps_consistency f c x is = record {
    shaped = own-shaped f c.shaped x is;
    counted = counted_from f (own f x) (λ y is_y. sym (own-names f c.shaped.linked x is y) ∙ is_y) (own-made f x) c.counted;
  }

  pub own_keeps_bound : OwnKeepsBound P
  own_keeps_bound f shaped x is bound = same_bound f (own f x) (own-names f shaped.linked x is) bound

  pub own_keeps_values : OwnKeepsValues P
  own_keeps_values f shaped x is y =
      let v = has_value f shaped x is in
      value_equal f (own f x) shaped (own-shaped f shaped x is).linked y y (λ is_y. sym (own-names f shaped.linked x is y) ∙ is_y)
      (λ w r. own-values f x v.0 (value-IsValue f shaped.linked v.1) v.1 r)

  pub own_gives_page : OwnGivesPage P
  unfolding own
  own_gives_page f shaped x is = ap (λ n. n.own) (node-count_copy _ x) ∙ gets-own f x _

  pub own_counts_one_copy : OwnCountsOneCopy P
  own_counts_one_copy f shaped x is = same_counts f (own f x) (f.copies + 1) (own-names f shaped.linked x is) (own-copies f x)

  pub heir_gets_keeps_consistency : HeirGetsKeepsConsistency P
  heir_gets_keeps_consistency f c x v e = record {
    shaped = heir_gets-shaped f c.shaped x v e;
    counted = counted_from f (heir_gets f x) (λ y is_y. sym (heir_gets-names f c.shaped.linked x y) ∙ is_y) (heir_gets-made f x) c.counted;
  }

  pub heir_gets_keeps_bound : HeirGetsKeepsBound P
  heir_gets_keeps_bound f shaped x v e bound = same_bound f (heir_gets f x) (heir_gets-names f shaped.linked x) bound

  pub heir_gets_keeps_values : HeirGetsKeepsValues P
  heir_gets_keeps_values f shaped x v e y =
      value_equal f (heir_gets f x) shaped (heir_gets-shaped f shaped x v e).linked y y (λ is_y. sym (heir_gets-names f shaped.linked x y) ∙ is_y)
      (λ w r. heir_gets-values f shaped.linked x v e (value-IsValue f shaped.linked (itself e)) r)

  -- heir_gets, where there is an heir
  pub with_heir : (f : Forest P) (x h : NodeName) → heir f x ≡ Some h → heir_gets f x ≡ count_copy (handed f x h)
  unfolding heir_gets handed
  with_heir f x h e = go (heir f x) e
    where
      go : (o : Option NodeName) → o ≡ Some h → ◌≡◌ {A = Forest P} (elim o [ None ↦ f | Some h ↦ count_copy (hand_stubs (gets f h (value_of f x)) x h) ]) (count_copy (hand_stubs (gets f h (value_of f x)) x h))
      go None e = absurd (cc e)
      go (Some k) e = let is : k ≡ h = cc e in ap (λ z. count_copy (hand_stubs (gets f z (value_of f x)) x z)) is

  pub heir_gets_the_page : HeirGetsThePage P
  heir_gets_the_page f shaped x h v e is = ap (λ g. (node g h).own) (with_heir f x h is) ∙ ap (λ n. n.own) (node-count_copy (handed f x h) h)
      ∙ heir_own f shaped.linked x h v is e (value-IsValue f shaped.linked (itself e))

  pub heir_gets_the_stubs : HeirGetsTheStubs P
  unfolding handed
  heir_gets_the_stubs f shaped x h v e is =
      let hangs = heir_hangs f shaped.linked x h is in
      let apart : h ≢ x = λ q. apart_of_heir f shaped.linked x h is (sym q) in
      let g = gets f h (value_of f x) in
      let up : parent f h ≡ Some x = elim hangs.1 [ inl t ↦ ap parent_of t | inr s ↦ ap parent_of s ] in
      ap (λ g. (node g h).stubs) (with_heir f x h is) ∙ ap (λ n. n.stubs) (node-count_copy (handed f x h) h)
      ∙ hand_stubs-stubs_to g x h apart ∙ ap₂ (λ ys zs. ys ++ zs) (gets-stubs f h h _) (gets-stubs f h x _)
      ∙ stubs_of x h (node f h).hang (node f x).stubs (node f h).stubs apart (λ t i. let s = (shaped.linked.stub_links h x).0 i in cc (s, t)) up

  -- where no node reads through x, it has no heir
  pub no_heir : (f : Forest P) → IsLinked f → (x : NodeName) → ReadsNot f x → heir f x ≡ None
  unfolding heir
  no_heir f linked x nobody = no_first _ (λ y i. elim (in_append _ _ y i) [
    | inl t ↦ let k = in_filter (λ t. is_none (node f t).own) (node f x).tree y t in nobody y (ap parent_of ((linked.tree_links y x).0 k.0)) (none_of (node f y).own k.1)
    | inr s ↦ let h = (linked.stub_links y x).0 s in nobody y (ap parent_of h) (linked.stub_bare y x h)
  ])
    where
      none_of : (o : Option P) → is_none o ≡ true → o ≡ None
      none_of None e = refl
      none_of (Some v) e = absurd (cc e)

  reads_not : (f : Forest P) → IsWellShaped f → (x : NodeName) (v : P) → is_live x ≡ true → (node f x).own ≡ Some v → ReadsNot (heir_gets f x) x
  reads_not f shaped x v live e = heir_gets-ReadsNot f shaped.linked x (live_most x live) v (value-IsValue f shaped.linked (itself e))

  pub heir_gets_leaves_no_heir : HeirGetsLeavesNoHeir P
  heir_gets_leaves_no_heir f shaped x v live e = no_heir (heir_gets f x) (heir_gets-shaped f shaped x v e).linked x (reads_not f shaped x v live e)

  -- a path through x begins there, where no node reads through x
  path_through : (f : Forest P) → IsWellShaped f → (x : NodeName) → ReadsNot f x → {y : NodeName} {v : P} → IsValue f y v → x ∈ path_of f y → x ≡ y
  path_through f shaped x nobody {y} (itself e) i = elim (subst (λ ys. x ∈ ys) (path-step f shaped.linked (itself e) ∙ ap (λ o. y ∷ names_above o (parent f y) (path_of f)) e) i) [ inl q ↦ q | inr k ↦ absurd k ]
  path_through f shaped x nobody {y} (above {p = p} none up r) i =
      let step = path-step f shaped.linked (above none up r) ∙ ap₂ (λ o u. y ∷ names_above o u (path_of f)) none up in
      elim (subst (λ ys. x ∈ ys) step i) [
        | inl q ↦ q
        | inr k ↦ absurd (nobody y (up ∙ ap Some (sym (path_through f shaped x nobody r k))) none)
      ]

  -- a name without a node has no path but itself
  path_alone : (n : ℕ) (f : Forest P) (x y : NodeName) → node f y ≡ childless None Root → x ∈ path_within n f y → x ≡ y
  unfolding path_within
  path_alone zero f x y bare i = absurd i
  path_alone (suc n) f x y bare i = elim i [ inl e ↦ e | inr k ↦ absurd (subst (λ ys. x ∈ ys) (ap (λ m. names_above m.own (parent_of m.hang) (path_within n f)) bare) k) ]

  pub path_passes : (f : Forest P) → IsWellShaped f → (x : NodeName) → ReadsNot f x → (y : NodeName) → y ≢ x → x ∈ path_of f y → ⊥
  unfolding path_of
  path_passes f shaped x nobody y apart i = go (value_of f y) refl
    where
      go : (o : Option P) → value_of f y ≡ o → ⊥
      go (Some v) e = apart (sym (path_through f shaped x nobody (IsValue-value f y v e) i))
      go None e = apart (sym (path_alone (len f.nodes) f x y (node-none f y (λ is. cc (ap is_some e, (IsNode-value f shaped y).0 is))) i))

  pub heir_gets_leaves_no_reader : HeirGetsLeavesNoReader P
  heir_gets_leaves_no_reader f shaped x v live e y apart i = path_passes (heir_gets f x) (heir_gets-shaped f shaped x v e) x (reads_not f shaped x v live e) y apart i

  pub heir_gets_counts_one_copy : HeirGetsCountsOneCopy P
  heir_gets_counts_one_copy f shaped x v e = same_counts f (heir_gets f x) _ (heir_gets-names f shaped.linked x) (heir_gets-copies f x)
