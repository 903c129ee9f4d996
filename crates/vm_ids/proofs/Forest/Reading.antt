-- The function `value` and the relation `IsValue` are one.
use Rattle.std.proofs.Common.{◌≡◌, ℕ, suc, zero, ◌+◌, ◌<◌, ◌≤◌, List, [], ◌∷◌, length, Option, Some, None, refl, sym, subst, ◌∙◌, inl, inr, arith, lt_irrefl, lt_trans}
use Rattle.vm_ids.specs.Forest.NameLists.{◌∈◌, Once}
use Rattle.vm_ids.specs.Forest.NameMap.{len}
use Rattle.vm_ids.specs.Forest.Nodes.{Forest, node, parent, IsNode}
use Rattle.vm_ids.specs.Forest.Shape.{IsLinked}
use Rattle.vm_ids.specs.Forest.Reading.{page_or, value_within, value_of}
use Rattle.vm_ids.specs.Forest.Values.{IsValue}
use Rattle.vm_ids.specs.declared.node_name.NodeName.{NodeName}
use Rattle.vm_ids.proofs.Forest.Fitting.{names_fit, IsNode-parent, IsNode-IsValue}
use Rattle.vm_ids.specs.Forest.Values.IsValue.{itself, above}

module _ {P : Type 0} (f : Forest P) where
  pub IsValue-value_within : (n : ℕ) (x : NodeName) (v : P) → value_within n f x ≡ Some v → IsValue f x v
  unfolding value_within
  IsValue-value_within zero x v e = absurd (cc e)
  IsValue-value_within (suc n) x v e = go (node f x).own (parent f x) refl refl e (λ p. IsValue-value_within n p v)
    where
      go : (o : Option P) (u : Option NodeName) → (node f x).own ≡ o → parent f x ≡ u → page_or o u (value_within n f) ≡ Some v
          → ((p : NodeName) → value_within n f p ≡ Some v → IsValue f p v) → IsValue f x v
      go (Some w) u own_is up e more = itself (own_is ∙ e)
      go None None none up e more = absurd (cc e)
      go None (Some p) none up e more = above none up (more p e)

  pub IsValue-value : (x : NodeName) (v : P) → value_of f x ≡ Some v → IsValue f x v
  unfolding value_of
  IsValue-value x v e = IsValue-value_within (len f.nodes) x v e

  module _ (linked : IsLinked f) where
    room : (vs : List NodeName) (x : NodeName) (v : P) → Once vs → ((y : NodeName) → y ∈ vs → IsNode f y × (linked.order.0 x < linked.order.0 y)) → IsValue f x v → length vs < len f.nodes
    room vs x v once below r = names_fit f (x ∷ vs) (λ i. lt_irrefl _ (below x i).1, once) (λ y i. elim i [
      | inl e ↦ subst (IsNode f) (sym e) (IsNode-IsValue f r)
      | inr j ↦ (below y j).0
    ])

    -- vs are the nodes on the way from some node down to x
    enough : (n : ℕ) (vs : List NodeName) {x : NodeName} {v : P} → Once vs → ((y : NodeName) → y ∈ vs → IsNode f y × (linked.order.0 x < linked.order.0 y)) → len f.nodes ≤ n + length vs → IsValue f x v → value_within n f x ≡ Some v
    unfolding value_within
    enough zero vs {x} {v} once below fits r = absurd (let h = room vs x v once below r in omega arith)
    enough (suc n) vs {x} {v} once below fits (itself e) = rw e
    enough (suc n) vs {x} {v} once below fits (above {p = p} none up r) =
        let down : linked.order.0 p < linked.order.0 x = linked.order.1 x p up in
        rw (none, up) (enough n (x ∷ vs)
        (λ i. lt_irrefl _ (below x i).1, once)
        (λ y i. elim i [
          | inl e ↦ (subst (IsNode f) (sym e) (IsNode-parent f x p up), subst (λ z. linked.order.0 p < linked.order.0 z) (sym e) down)
          | inr j ↦ ((below y j).0, lt_trans down (below y j).1)
        ])
        (omega arith) r)

    pub value-IsValue : {x : NodeName} {v : P} → IsValue f x v → value_of f x ≡ Some v
    unfolding value_of
    value-IsValue r = enough (len f.nodes) [] tt (λ y i. absurd i) (omega arith) r
