-- The path to the owner, one step at a time, and what agrees with a machine.
use Rattle.std.proofs.Common.{◌≡◌, ℕ, suc, zero, ◌+◌, ◌<◌, ◌≤◌, List, [], ◌∷◌, length, ◌↔◌, Option, Some, None, is_some, refl, sym, ap, subst, inl, inr, arith, lt_irrefl, lt_trans}
use Rattle.std.specs.Option.{IsSome}
use Rattle.vm_ids.specs.declared.node_name.NodeName.{NodeName}
use Rattle.vm_ids.specs.Forest.NameLists.{◌∈◌, Once}
use Rattle.vm_ids.specs.Forest.NameMap.{len}
use Rattle.vm_ids.specs.Forest.Nodes.{Forest, node, parent, IsNode}
use Rattle.vm_ids.specs.Forest.Shape.{IsLinked, IsWellShaped}
use Rattle.vm_ids.specs.Forest.Reading.{value_of, path_of, path_within, names_above}
use Rattle.vm_ids.specs.Forest.Values.{IsValue}
use Rattle.vm_ids.proofs.Forest.Fitting.{names_fit, IsNode-parent, IsNode-IsValue}
use Rattle.vm_ids.specs.Forest.Values.IsValue.{itself, above}
use Rattle.vm_ids.proofs.Forest.Reading.{value-IsValue, IsValue-value}
use Rattle.vm_ids.proofs.Forest.Owning.{has_value}

module _ {P : Type 0} where
  -- no path has more nodes than the forest
  pub path-le : (n : ℕ) (f : Forest P) (x : NodeName) → length (path_within n f x) ≤ n
  unfolding path_within
  path-le zero f x = omega arith
  path-le (suc n) f x = go (node f x).own (parent f x) (path-le n f)
    where
      go : (o : Option P) (u : Option NodeName) → ((p : NodeName) → length (path_within n f p) ≤ n) → suc (length (names_above o u (path_within n f))) ≤ suc n
      go (Some v) u more = omega arith
      go None (Some p) more = let h = more p in omega arith
      go None None more = omega arith

  module _ (f : Forest P) (linked : IsLinked f) where
    -- more steps than there are nodes to pass change nothing
    steady : (n : ℕ) (vs : List NodeName) {x : NodeName} {v : P} → Once vs → ((y : NodeName) → y ∈ vs → IsNode f y × (linked.order.0 x < linked.order.0 y)) → len f.nodes ≤ n + length vs → IsValue f x v → path_within n f x ≡ path_within (suc n) f x
    unfolding path_within
    steady zero vs {x} {v} once below fits r = absurd (let h = names_fit f (x ∷ vs) (λ i. lt_irrefl _ (below x i).1, once) (λ y i. elim i [ inl e ↦ subst (IsNode f) (sym e) (IsNode-IsValue f r) | inr j ↦ (below y j).0 ]) in omega arith)
    steady (suc n) vs {x} once below fits (itself e) = rw e
    steady (suc n) vs {x} once below fits (above {p = p} none up r) =
        let down : linked.order.0 p < linked.order.0 x = linked.order.1 x p up in
        rw (none, up) (ap (λ xs. x ∷ xs) (steady n (x ∷ vs)
        (λ i. lt_irrefl _ (below x i).1, once)
        (λ y i. elim i [
          | inl e ↦ (subst (IsNode f) (sym e) (IsNode-parent f x p up), subst (λ z. linked.order.0 p < linked.order.0 z) (sym e) down)
          | inr j ↦ ((below y j).0, lt_trans down (below y j).1)
        ])
        (omega arith) r))

    -- the path of a node is the node, and the path of its parent where it has no own page
    pub path-step : {x : NodeName} {v : P} → IsValue f x v → path_of f x ≡ x ∷ names_above (node f x).own (parent f x) (path_of f)
    unfolding path_of path_within
    path-step {x} r = steady (len f.nodes) [] {x = x} tt (λ y i. absurd i) (omega arith) r

  -- a name has a value exactly where it is a node, so that one equation for each name is what
  -- agrees with a machine
  pub IsNode-value : (f : Forest P) → IsWellShaped f → (x : NodeName) → IsNode f x ↔ IsSome (value_of f x)
  IsNode-value f shaped x = (
    λ is. ap is_some (value-IsValue f shaped.linked (has_value f shaped x is).1),
    λ some. go (value_of f x) refl some,
  )
    where
      go : (o : Option P) → value_of f x ≡ o → IsSome o → IsNode f x
      go None e some = absurd (cc some)
      go (Some v) e some = IsNode-IsValue f (IsValue-value f x v e)
