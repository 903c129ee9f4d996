-- The children of a node, by numbers and in the forest.
use Rattle.std.proofs.Common.{◌≡◌, ℕ, ◌+◌, ◌<◌, List, [], ◌∷◌, ◌++◌, map, length, Option, Some, None, option_map, slice_get, refl, sym, ap, ◌∙◌, subst, inl, inr, arith}
use Rattle.std.specs.Option.{option_or}
use Rattle.std.proofs.lemmas.List.{length-map, length-append}
use Rattle.vm_ids.specs.declared.node_name.NodeName.{NodeName}
use Rattle.vm_ids.specs.Forest.NameLists as names
use Rattle.vm_ids.specs.Forest.NameLists.{first}
use Rattle.vm_ids.specs.Forest.Nodes.{Forest, node, child_count, parent, parent_of}
use Rattle.vm_ids.specs.Forest.Nodes.Hang.{Root, TreeOf, StubOf}
use Rattle.vm_ids.specs.Forest.Shape.{IsLinked}
use Rattle.vm_ids.specs.Forest.Changes.{cut}
use Rattle.vm_ids.proofs.Forest.Names.{name_cases}
use Rattle.vm_ids.proofs.Forest.NameLists.{append_in}
use Rattle.vm_ids.proofs.Forest.Fitting.{parent_cases}
use Rattle.vm_ids.proofs.Forest.SettleStep.{none_in}
use Rattle.vm_ids.proofs.Forest.Cutting.{cut-hang, cut-hang_other}
use Rattle.vm_ids.specs.declared.numbers.NodeId.{NodeId}
use Rattle.local_cache.specs.Arena.{Arena, cell, HasNode}
use Rattle.local_cache.specs.Reading.{name_of, forest_of, stubs_of}
use Rattle.local_cache.specs.Sound.{IsSound, ◌∈◌}
use Rattle.local_cache.specs.Threads.{head_or}
use Rattle.local_cache.proofs.Forest.Reading.{node-forest_of}
use Rattle.local_cache.proofs.Forest.StubRows.{row-each}
use Rattle.local_cache.proofs.Changes.SameNodes.{parent-read}
use Rattle.local_cache.proofs.NewNode.Freeing.{IsLoose}
use Rattle.tree_merge.specs.Releasing.{first_child}
use Rattle.tree_merge.specs.Staying.{HasNoChild}

pub in_names : (a : Arena) (ms : List NodeId) (m : NodeId) → m ∈ ms → names.◌∈◌ (name_of a m) (map (name_of a) ms)
in_names a [] m i = i
in_names a (k ∷ ms) m (inl e) = inl (ap (name_of a) e)
in_names a (k ∷ ms) m (inr i) = inr (in_names a ms m i)

-- In a forest

module _ {P : Type 0} (f : Forest P) (linked : IsLinked f) where
  pub child_in : (z x : NodeName) → parent f z ≡ Some x → names.◌∈◌ z ((node f x).tree ++ (node f x).stubs)
  child_in z x up = append_in (node f x).tree (node f x).stubs z (elim (parent_cases f linked z x up) [ inl t ↦ inl ((linked.tree_links z x).1 t) | inr s ↦ inr ((linked.stub_links z x).1 s) ])

  pub counted-no_child : (x : NodeName) → child_count f x ≡ 0 → HasNoChild f x
  counted-no_child x none z up = out ((node f x).tree ++ (node f x).stubs) (length-append (node f x).tree (node f x).stubs ∙ none) (child_in z x up)
    where
      out : (xs : List NodeName) → length xs ≡ 0 → names.◌∈◌ z xs → ⊥
      out [] e i = i
      out (y ∷ xs) e i = omega arith

  -- of fewer than two children there is one
  pub only_child : (x y z : NodeName) → child_count f x < 2 → parent f y ≡ Some x → parent f z ≡ Some x → z ≡ y
  only_child x y z few up_y up_z = one ((node f x).tree ++ (node f x).stubs) (subst (λ k. k < 2) (sym (length-append (node f x).tree (node f x).stubs)) few) (child_in y x up_y) (child_in z x up_z)
    where
      one : (xs : List NodeName) → length xs < 2 → names.◌∈◌ y xs → names.◌∈◌ z xs → z ≡ y
      one [] less i j = absurd i
      one (k ∷ []) less (inl e) (inl g) = g ∙ sym e
      one (k ∷ []) less (inl e) (inr j) = absurd j
      one (k ∷ []) less (inr i) j = absurd i
      one (k ∷ l ∷ xs) less i j = absurd (omega arith)

  pub no_tree : (x : NodeName) → HasNoChild f x → (node f x).tree ≡ []
  no_tree x none = none_in (node f x).tree (λ z i. none z (ap parent_of ((linked.tree_links z x).0 i)))

  pub no_stubs : (x : NodeName) → HasNoChild f x → (node f x).stubs ≡ []
  no_stubs x none = none_in (node f x).stubs (λ z i. none z (ap parent_of ((linked.stub_links z x).0 i)))

  pub none-cut : (x y : NodeName) → HasNoChild f x → HasNoChild (cut f y) x
  none-cut x y none z up = elim (name_cases z y) [
    | inl e ↦ (let clash : Some x ≡ None = sym up ∙ ap (λ v. parent (cut f y) v) e ∙ ap parent_of (cut-hang f y) in cc clash)
    | inr apart ↦ none z (sym (ap parent_of (cut-hang_other f y z apart)) ∙ up)
  ]

-- Of the caches

module _ (a : Arena) (sound : IsSound a) (n : NodeId) (hn : HasNode a n) where
  tree_is : (node (forest_of a) (name_of a n)).tree ≡ map (name_of a) (cell a n).tree
  tree_is = ap (λ m. m.tree) (node-forest_of a sound.kept.named n hn)

  stubs_is : (node (forest_of a) (name_of a n)).stubs ≡ map (name_of a) (stubs_of a n)
  stubs_is = ap (λ m. m.stubs) (node-forest_of a sound.kept.named n hn)

  pub counted : child_count (forest_of a) (name_of a n) ≡ length (cell a n).tree + (cell a n).links.stubs
  counted = omega (arith, ap length tree_is, ap length stubs_is, length-map (cell a n).tree (name_of a), length-map (stubs_of a n) (name_of a), (sound.kept.threaded n hn).count)

  pub first_none : None ≡ first_child a n → child_count (forest_of a) (name_of a n) ≡ 0
  first_none e = counted ∙ go (cell a n).tree (stubs_of a n) (cell a n).links.first (sound.kept.threaded n hn).first (cell a n).links.stubs (sound.kept.threaded n hn).count e
    where
      go : (ts ss : List NodeId) (o : Option NodeId) → o ≡ head_or ss None → (k : ℕ) → k ≡ length ss → None ≡ option_or (slice_get ts 0) o → length ts + k ≡ 0
      go [] [] o is k count none = omega arith
      go [] (s ∷ ss) o is k count none = absurd (let clash : None ≡ Some s = none ∙ is in cc clash)
      go (t ∷ ts) ss o is k count none = absurd (let clash : None ≡ Some t = none in cc clash)

  -- the first child, where there is one
  pub first_is : first ((node (forest_of a) (name_of a n)).tree ++ (node (forest_of a) (name_of a n)).stubs) ≡ option_map (name_of a) (first_child a n)
  first_is = ap first (ap (λ ts. ts ++ (node (forest_of a) (name_of a n)).stubs) tree_is ∙ ap (λ ss. map (name_of a) (cell a n).tree ++ ss) stubs_is)
      ∙ go (cell a n).tree (stubs_of a n) (cell a n).links.first (sound.kept.threaded n hn).first
    where
      go : (ts ss : List NodeId) (o : Option NodeId) → o ≡ head_or ss None → first (map (name_of a) ts ++ map (name_of a) ss) ≡ option_map (name_of a) (option_or (slice_get ts 0) o)
      go [] [] o e = ap (option_map (name_of a)) (sym e)
      go [] (s ∷ ss) o e = ap (option_map (name_of a)) (sym e)
      go (t ∷ ts) ss o e = refl

  -- the first child is a node that hangs on this one
  pub first_child_up : (y : NodeId) → Some y ≡ first_child a n → HasNode a y × (parent (forest_of a) (name_of a y) ≡ Some (name_of a n))
  first_child_up y e = go (cell a n).tree refl e
    where
      go : (ts : List NodeId) → (cell a n).tree ≡ ts → Some y ≡ option_or (slice_get ts 0) (cell a n).links.first → HasNode a y × (parent (forest_of a) (name_of a y) ≡ Some (name_of a n))
      go (t ∷ ts) is some =
          let same : t ≡ y = cc some in
          let in_tree : y ∈ (cell a n).tree = subst (λ xs. y ∈ xs) (sym is) (inl (sym same)) in
          (sound.kept.children n y hn in_tree, ap parent_of ((sound.linked.tree_links (name_of a y) (name_of a n)).0 (subst (λ xs. names.◌∈◌ (name_of a y) xs) (sym tree_is) (in_names a (cell a n).tree y in_tree))))
      go [] is some =
          let each = row-each a n None (stubs_of a n) None (sound.kept.threaded n hn).row y (head_in (stubs_of a n) (some ∙ (sound.kept.threaded n hn).first)) in
          (each.0, parent-read a sound.kept.named y n each.0 each.1)
        where
          head_in : (ss : List NodeId) → Some y ≡ head_or ss None → y ∈ ss
          head_in [] e = absurd (let clash : Some y ≡ None = e in cc clash)
          head_in (s ∷ ss) e = let same : y ≡ s = cc e in inl same

  -- a node without parent and children is named by none
  pub loose : (node (forest_of a) (name_of a n)).hang ≡ Root → HasNoChild (forest_of a) (name_of a n) → IsLoose a n
  loose root none = record {
    parents = λ m p hm up e. none (name_of a m) (parent-read a sound.kept.named m p hm up ∙ ap (λ k. Some (name_of a k)) e);
    children = λ m k hm i e.
        let in_tree = subst (λ xs. names.◌∈◌ (name_of a k) xs) (sym (ap (λ c. c.tree) (node-forest_of a sound.kept.named m hm))) (in_names a (cell a m).tree k i) in
        let hang_is = (sound.linked.tree_links (name_of a k) (name_of a m)).0 in_tree in
        let clash : Root ≡ TreeOf (name_of a m) = sym root ∙ ap (λ j. (node (forest_of a) (name_of a j)).hang) (sym e) ∙ hang_is in
        cc clash;
    stubs = λ m k hm i e.
        let in_stubs = subst (λ xs. names.◌∈◌ (name_of a k) xs) (sym (ap (λ c. c.stubs) (node-forest_of a sound.kept.named m hm))) (in_names a (stubs_of a m) k i) in
        let hang_is = (sound.linked.stub_links (name_of a k) (name_of a m)).0 in_stubs in
        let clash : Root ≡ StubOf (name_of a m) = sym root ∙ ap (λ j. (node (forest_of a) (name_of a j)).hang) (sym e) ∙ hang_is in
        cc clash;
  }
