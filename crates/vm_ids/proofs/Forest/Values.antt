-- Values as a relation, and that own and heir_gets keep them.
use Rattle.std.proofs.Common.{◌≡◌, ℕ, suc, zero, ◌<◌, List, ◌≢◌, Bool, true, false, cond, ◌⊎◌, Option, Some, None, is_none, refl, ap, subst, ◌∙◌, inl, inr, arith}
use Rattle.vm_ids.specs.declared.node_name.NodeName.{NodeName}
use Rattle.vm_ids.specs.Forest.Names.{same}
use Rattle.vm_ids.proofs.Forest.Names.{name_cases}
use Rattle.vm_ids.specs.Forest.NameLists.{◌∈◌, without}
use Rattle.vm_ids.specs.Forest.Nodes.{Hang, Forest, node, parent, parent_of}
use Rattle.vm_ids.specs.Forest.Shape.{IsLinked, IsRanked}
use Rattle.vm_ids.specs.Forest.Reading.{value_of}
use Rattle.vm_ids.specs.Forest.Changes.{count_copy}
use Rattle.vm_ids.specs.Forest.Rules.{gets, hand_stubs, heir, heir_gets, own}
use Rattle.vm_ids.specs.Forest.Nodes.Hang.{Root, TreeOf, StubOf}
use Rattle.vm_ids.proofs.Forest.NameLists.{in_filter, in_append, first_in, in_cases, in_without}
use Rattle.vm_ids.proofs.Forest.Columns.{left_stubs, gets-own, gets-own_other, gets-hang_other, gets-stubs, hand_stubs-own, hand_stubs-hang, hand_stubs-hang_other}
use Rattle.vm_ids.specs.Forest.Values.{IsValue}
use Rattle.vm_ids.specs.Forest.Values.IsValue.{itself, above}

module _ {P : Type 0} where
  pub IsValue-at_own : (f : Forest P) {x : NodeName} {v : P} (w : P) → (node f x).own ≡ Some w → IsValue f x v → w ≡ v
  IsValue-at_own f w own_is (itself e) = cc
  IsValue-at_own f w own_is (above none up r) = absurd cc

  pub IsValue-above : (f : Forest P) {x : NodeName} {v : P} (p : NodeName) → (node f x).own ≡ None → parent f x ≡ Some p → IsValue f x v → IsValue f p v
  IsValue-above f p none up (itself e) = absurd cc
  IsValue-above f {v = v} p none up (above {p = q} n u r) = let same_parent : q ≡ p = cc in subst (λ z. IsValue f z v) same_parent r

  -- What meets the equations of the values is the values.
  pub values_from : (g : Forest P) (rank : NodeName → ℕ) → IsRanked g rank → (V : NodeName → P → Type 0)
      → ((y : NodeName) (v : P) → V y v → ((node g y).own ≡ Some v) ⊎ (((node g y).own ≡ None) × (q : NodeName) × (parent g y ≡ Some q) × V q v))
      → (y : NodeName) (v : P) → V y v → IsValue g y v
  values_from g rank ranked V local y v is = go (suc (rank y)) y is (omega arith)
    where
      step : (y : NodeName) → ((q : NodeName) → rank q < rank y → V q v → IsValue g q v) → ((node g y).own ≡ Some v) ⊎ (((node g y).own ≡ None) × (q : NodeName) × (parent g y ≡ Some q) × V q v) → IsValue g y v
      step y more c = elim c [ inl e ↦ itself e | inr k ↦ above k.0 k.2 (more k.1 (ranked y k.1 k.2) k.3) ]

      go : (n : ℕ) (y : NodeName) → V y v → rank y < n → IsValue g y v
      go zero y is low = absurd (omega arith)
      go (suc n) y is low = step y (λ q lower r. go n q r (omega arith)) (local y v is)

  -- Values are kept where each node that has one has it in g for another reason, or has the own
  -- page and parent that it had.
  pub values_kept : (f g : Forest P) → ((y : NodeName) (w : P) → IsValue f y w → IsValue g y w ⊎ (((node g y).own ≡ (node f y).own) × (parent g y ≡ parent f y))) → {y : NodeName} {w : P} → IsValue f y w → IsValue g y w
  values_kept f g each {y} {w} (itself e) = elim (each y w (itself e)) [ inl r ↦ r | inr k ↦ itself (k.0 ∙ e) ]
  values_kept f g each {y} {w} (above none up r) = elim (each y w (above none up r)) [ inl s ↦ s | inr k ↦ above (k.0 ∙ none) (k.1 ∙ up) (values_kept f g each r) ]

  pub node-count_copy : (f : Forest P) (y : NodeName) → node (count_copy f) y ≡ node f y
  unfolding node
  node-count_copy f y = refl

  -- the heir has no own page, and its parent is x
  pub heir_hangs : (f : Forest P) → IsLinked f → (x h : NodeName) → heir f x ≡ Some h → ((node f h).own ≡ None) × (((node f h).hang ≡ TreeOf x) ⊎ ((node f h).hang ≡ StubOf x))
  unfolding heir
  heir_hangs f linked x h e = elim (in_append _ _ h (first_in _ h e)) [
    | inl t ↦ let p = in_filter _ _ h t in (is_none_None _ p.1, inl ((linked.tree_links h x).0 p.0))
    | inr s ↦ let k = (linked.stub_links h x).0 s in (linked.stub_bare h x k, inr k)
  ]
    where
      is_none_None : (o : Option P) → is_none o ≡ true → o ≡ None
      is_none_None None e = refl
      is_none_None (Some v) e = absurd (cc e)

  -- what heir_gets does where x has the heir h
  unfoldable pub handed : Forest P → NodeName → NodeName → Forest P
  handed f x h = hand_stubs (gets f h (value_of f x)) x h

  module _ (f : Forest P) (linked : IsLinked f) (x h : NodeName) (v : P) (is_heir : heir f x ≡ Some h) (own_is : (node f x).own ≡ Some v) (value_is : value_of f x ≡ Some v) where
    pub heir_own : (node (handed f x h) h).own ≡ Some v
    unfolding handed
    heir_own = hand_stubs-own _ x h h ∙ gets-own f h _ ∙ value_is

    pub own_kept : (y : NodeName) → y ≢ h → (node (handed f x h) y).own ≡ (node f y).own
    unfolding handed
    own_kept y apart = hand_stubs-own _ x h y ∙ gets-own_other f h y _ apart

    pub handed_hang : (y : NodeName) → y ≢ h → ((node (handed f x h) y).hang ≡ (node f y).hang) ⊎ (((node f y).hang ≡ StubOf x) × ((node (handed f x h) y).hang ≡ StubOf h))
    unfolding handed
    handed_hang y apart = elim (in_cases (node (gets f h (value_of f x)) x).stubs y) [
      | inl i ↦ inr ((linked.stub_links y x).0 (in_left _ _ y (subst (λ xs. y ∈ xs) (gets-stubs f h x _) i)), hand_stubs-hang _ x h y i)
      | inr out ↦ inl (hand_stubs-hang_other _ x h y out ∙ gets-hang_other f h y _ apart)
    ]
      where
        in_left : (l : Hang) (xs : List NodeName) (y : NodeName) → y ∈ left_stubs h l x xs → y ∈ xs
        in_left Root xs y i = i
        in_left (TreeOf p) xs y i = i
        in_left (StubOf p) xs y i = go (same p x) i
          where
            go : (b : Bool) → y ∈ cond b (without h xs) xs → y ∈ xs
            go true i = (in_without h xs y i).0
            go false i = i

    -- each stub of x other than the heir reads through the heir
    pub handed-values : {y : NodeName} {w : P} → IsValue f y w → IsValue (handed f x h) y w
    handed-values = values_kept f (handed f x h) λ y w r.
        let hangs = heir_hangs f linked x h is_heir in
        elim (name_cases y h) [
          | inl e ↦
              let at_h : IsValue f h w = subst (λ z. IsValue f z w) e r in
              let up : parent f h ≡ Some x = elim hangs.1 [ inl t ↦ ap parent_of t | inr s ↦ ap parent_of s ] in
              let v_is = IsValue-at_own f v own_is (IsValue-above f x hangs.0 up at_h) in
              inl (itself (ap (λ z. (node (handed f x h) z).own) e ∙ heir_own ∙ ap Some v_is))
          | inr apart ↦ elim (handed_hang y apart) [
            | inl k ↦ inr (own_kept y apart, ap parent_of k)
            | inr k ↦
                let none = linked.stub_bare y x k.0 in
                let v_is = IsValue-at_own f v own_is (IsValue-above f x none (ap parent_of k.0) r) in
                inl (above (own_kept y apart ∙ none) (ap parent_of k.1) (itself (heir_own ∙ ap Some v_is)))
          ]
        ]

  -- only equal pages are values of one node
  pub IsValue-same : (f : Forest P) {x : NodeName} {v w : P} → IsValue f x v → IsValue f x w → v ≡ w
  IsValue-same f (itself e) r = IsValue-at_own f _ e r
  IsValue-same f (above {p = p} none up s) r = IsValue-same f s (IsValue-above f p none up r)

  pub IsValue-count_copy : (f : Forest P) {x : NodeName} {v : P} → IsValue f x v → IsValue (count_copy f) x v
  IsValue-count_copy f = values_kept f (count_copy f) (λ y w r. inr (ap (λ n. n.own) (node-count_copy f y), ap (λ n. parent_of n.hang) (node-count_copy f y)))

  -- heir_gets keeps each value
  pub heir_gets-values : (f : Forest P) → IsLinked f → (x : NodeName) (v : P) → (node f x).own ≡ Some v → value_of f x ≡ Some v → {y : NodeName} {w : P} → IsValue f y w → IsValue (heir_gets f x) y w
  unfolding heir_gets handed
  heir_gets-values f linked x v own_is value_is {y} {w} r = go (heir f x) refl
    where
      go : (o : Option NodeName) → heir f x ≡ o → IsValue (elim o [ None ↦ f | Some h ↦ count_copy (hand_stubs (gets f h (value_of f x)) x h) ]) y w
      go None e = r
      go (Some h) e = IsValue-count_copy (handed f x h) (handed-values f linked x h v e own_is value_is r)

  -- own keeps each value
  pub own-values : (f : Forest P) (x : NodeName) (v : P) → value_of f x ≡ Some v → IsValue f x v → {y : NodeName} {w : P} → IsValue f y w → IsValue (own f x) y w
  unfolding own
  own-values f x v value_is is_value r = IsValue-count_copy (gets f x (value_of f x)) (values_kept f (gets f x (value_of f x)) (λ y w s. elim (name_cases y x) [
    | inl e ↦ inl (itself (ap (λ z. (node (gets f x (value_of f x)) z).own) e ∙ gets-own f x _ ∙ value_is ∙ ap Some (IsValue-same f is_value (subst (λ z. IsValue f z w) e s))))
    | inr apart ↦ inr (gets-own_other f x y _ apart, ap parent_of (gets-hang_other f x y _ apart))
  ]) r)
