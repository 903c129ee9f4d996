-- A list of all nodes in which each parent stands before its children is one with a rank.
use Rattle.std.proofs.Common.{◌≡◌, ℕ, ◌<◌, ◌≤◌, List, [], ◌∷◌, Bool, true, false, cond, leb, ◌⊎◌, ◌↔◌, refl, sym, ap, ◌∙◌, inl, inr, arith, leb-true, leb-false}
use Rattle.vm_ids.specs.declared.node_name.NodeName.{NodeName}
use Rattle.vm_ids.specs.Forest.Names.{same}
use Rattle.vm_ids.proofs.Forest.Names.{name_cases, same_itself, same_apart}
use Rattle.vm_ids.specs.Forest.NameLists.{◌∈◌, Once}
use Rattle.vm_ids.specs.Forest.NameMap.{keys}
use Rattle.vm_ids.specs.Forest.Nodes.{Forest}
use Rattle.vm_ids.specs.Forest.Shape.{IsLinked, IsRanked}
use Rattle.vm_ids.proofs.Forest.Bound.{Once-keys, key-IsNode, IsNode-key}
use Rattle.vm_ids.proofs.Forest.Fitting.{parent-IsNode, IsNode-parent}
use Rattle.vm_ids.specs.Forest.Laws.Reading.{place, IsOrder}

module _ (rank : NodeName → ℕ) where
  insert_by : NodeName → List NodeName → List NodeName
  insert_by x [] = x ∷ []
  insert_by x (y ∷ ys) = cond (leb (rank x) (rank y)) (x ∷ y ∷ ys) (y ∷ insert_by x ys)

  sort_by : List NodeName → List NodeName
  sort_by [] = []
  sort_by (x ∷ xs) = insert_by x (sort_by xs)

  Rising : List NodeName → Type 0
  Rising [] = Unit {0}
  Rising (x ∷ xs) = ((z : NodeName) → z ∈ xs → rank x ≤ rank z) × Rising xs

  in_insert : (x : NodeName) (ys : List NodeName) (z : NodeName) → z ∈ insert_by x ys → (z ≡ x) ⊎ (z ∈ ys)
  unfolding insert_by
  in_insert x [] z i = i
  in_insert x (y ∷ ys) z i = go (leb (rank x) (rank y)) (in_insert x ys z) i
    where
      go : (b : Bool) → (z ∈ insert_by x ys → (z ≡ x) ⊎ (z ∈ ys)) → z ∈ cond b (x ∷ y ∷ ys) (y ∷ insert_by x ys) → (z ≡ x) ⊎ (z ∈ (y ∷ ys))
      go true more i = i
      go false more i = elim i [ inl e ↦ inr (inl e) | inr j ↦ elim (more j) [ inl e ↦ inl e | inr k ↦ inr (inr k) ] ]

  insert_in : (x : NodeName) (ys : List NodeName) (z : NodeName) → (z ≡ x) ⊎ (z ∈ ys) → z ∈ insert_by x ys
  unfolding insert_by
  insert_in x [] z i = i
  insert_in x (y ∷ ys) z i = go (leb (rank x) (rank y)) (insert_in x ys z) i
    where
      go : (b : Bool) → ((z ≡ x) ⊎ (z ∈ ys) → z ∈ insert_by x ys) → (z ≡ x) ⊎ (z ∈ (y ∷ ys)) → z ∈ cond b (x ∷ y ∷ ys) (y ∷ insert_by x ys)
      go true more i = i
      go false more i = elim i [ inl e ↦ inr (more (inl e)) | inr j ↦ elim j [ inl e ↦ inl e | inr k ↦ inr (more (inr k)) ] ]

  Once-insert : (x : NodeName) (ys : List NodeName) → (x ∈ ys → ⊥) → Once ys → Once (insert_by x ys)
  unfolding insert_by
  Once-insert x [] out once = ((λ k. k), tt)
  Once-insert x (y ∷ ys) out once = go (leb (rank x) (rank y)) (Once-insert x ys (λ j. out (inr j)) once.1)
    where
      go : (b : Bool) → Once (insert_by x ys) → Once (cond b (x ∷ y ∷ ys) (y ∷ insert_by x ys))
      go true more = (out, once)
      go false more = ((λ i. elim (in_insert x ys y i) [ inl e ↦ out (inl (sym e)) | inr j ↦ once.0 j ]), more)

  Rising-insert : (x : NodeName) (ys : List NodeName) → Rising ys → Rising (insert_by x ys)
  unfolding insert_by Rising
  Rising-insert x [] up = ((λ z i. absurd i), tt)
  Rising-insert x (y ∷ ys) up = go (leb (rank x) (rank y)) refl (Rising-insert x ys up.1)
    where
      go : (b : Bool) → leb (rank x) (rank y) ≡ b → Rising (insert_by x ys) → Rising (cond b (x ∷ y ∷ ys) (y ∷ insert_by x ys))
      go true e more = let l = leb-true _ _ e in ((λ z i. elim i [ inl q ↦ (let r = ap rank q in omega arith) | inr j ↦ (let m = up.0 z j in omega arith) ]), up)
      go false e more = let l = leb-false _ _ e in ((λ z i. elim (in_insert x ys z i) [ inl q ↦ (let r = ap rank q in omega arith) | inr j ↦ up.0 z j ]), more)

  in_sort : (xs : List NodeName) (z : NodeName) → (z ∈ sort_by xs) ↔ (z ∈ xs)
  unfolding sort_by
  in_sort [] z = ((λ i. i), λ i. i)
  in_sort (x ∷ xs) z = (
    λ i. elim (in_insert x (sort_by xs) z i) [ inl e ↦ inl e | inr j ↦ inr ((in_sort xs z).0 j) ],
    λ i. insert_in x (sort_by xs) z (elim i [ inl e ↦ inl e | inr j ↦ inr ((in_sort xs z).1 j) ]),
  )

  Once-sort : (xs : List NodeName) → Once xs → Once (sort_by xs)
  unfolding sort_by
  Once-sort [] once = tt
  Once-sort (x ∷ xs) once = Once-insert x (sort_by xs) (λ i. once.0 ((in_sort xs x).0 i)) (Once-sort xs once.1)

  Rising-sort : (xs : List NodeName) → Rising (sort_by xs)
  unfolding sort_by Rising
  Rising-sort [] = tt
  Rising-sort (x ∷ xs) = Rising-insert x (sort_by xs) (Rising-sort xs)

  place-lt : (xs : List NodeName) → Rising xs → (p x : NodeName) → p ∈ xs → x ∈ xs → rank p < rank x → place xs p < place xs x
  unfolding Rising
  place-lt [] up p x i j low = absurd i
  place-lt (y ∷ ys) up p x i j low = elim (name_cases x y) [
    | inl e ↦ absurd (elim i [ inl q ↦ (let r = ap rank e in let s = ap rank q in omega arith) | inr k ↦ (let r = ap rank e in let m = up.0 p k in omega arith) ])
    | inr a ↦ elim (name_cases p y) [
      | inl e ↦ rw (ap (same y) e ∙ same_itself y, same_apart y x (λ q. a (sym q))) (omega arith)
      | inr b ↦ rw (same_apart y p (λ q. b (sym q)), same_apart y x (λ q. a (sym q)))
          (let later = place-lt ys up.1 p x (elim i [ inl q ↦ absurd (b q) | inr k ↦ k ]) (elim j [ inl q ↦ absurd (a q) | inr k ↦ k ]) low in omega arith)
    ]
  ]

module _ {P : Type 0} (f : Forest P) where
  pub order_ranked : (order : List NodeName) → IsOrder f order → IsRanked f (place order)
  order_ranked order o x p up = o.before x p up

  pub linked-order : (linked : IsLinked f) → (order : List NodeName) × IsOrder f order
  linked-order linked =
      let rank = linked.order.0 in (
        sort_by rank (keys f.nodes),
        record {
          once = Once-sort rank _ (Once-keys f.nodes.list f.nodes.sorted);
          all = λ x. ((λ is. (in_sort rank (keys f.nodes) x).1 (IsNode-key f x is)), (λ i. key-IsNode f x ((in_sort rank (keys f.nodes) x).0 i)));
          before = λ x p up. place-lt rank _ (Rising-sort rank _) p x ((in_sort rank (keys f.nodes) p).1 (IsNode-key f p (parent-IsNode f linked x p up)))
              ((in_sort rank (keys f.nodes) x).1 (IsNode-key f x (IsNode-parent f x p up))) (linked.order.1 x p up);
        },
      )
