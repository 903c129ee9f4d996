-- The laws of what is read of a forest.
use Rattle.std.proofs.Common.{◌≡◌, ◌+◌, ◌≤◌, List, [], ◌∷◌, map, Some, None, refl, sym, ap, ap₂, subst, ◌∙◌, arith}
use Rattle.std.proofs.lemmas.List.{length-map}
use Rattle.vm_ids.specs.declared.node_name.NodeName.{NodeName}
use Rattle.vm_ids.specs.Forest.NameLists.{last_or}
use Rattle.vm_ids.specs.Forest.NameMap.{len}
use Rattle.vm_ids.specs.Forest.Nodes.{Forest, node, parent, IsNode, is_live}
use Rattle.vm_ids.specs.Forest.Shape.{IsWellShaped}
use Rattle.vm_ids.specs.Forest.Reading.{owner_of, path_of, path_within, chain_of, names_above, live_count, working_count}
use Rattle.vm_ids.specs.Forest.Values.{IsValue}
use Rattle.vm_ids.specs.Forest.Values.IsValue.{itself, above}
use Rattle.vm_ids.specs.Forest.Laws.Reading.{RanksAreOrders, OrdersAreRanks, ValuesByCases, NodesHaveValues, OwnersOwnValues, OwnersOwnThemselves, OwnersAreInherited, PathsByCases, ChainsAreShort}
use Rattle.vm_ids.proofs.Forest.Bound.{split_length}
use Rattle.vm_ids.proofs.Forest.Reading.{value-IsValue, IsValue-value}
use Rattle.vm_ids.proofs.Forest.Paths.{path-le, path-step, IsNode-value}
use Rattle.vm_ids.proofs.Forest.Owning.{has_value}
use Rattle.vm_ids.proofs.Forest.Fitting.{parent-IsNode}
use Rattle.vm_ids.proofs.Forest.Order.{linked-order, order_ranked}

-- the last of two lists, of which the first begins with x
last_again : (x y : NodeName) (ys zs : List NodeName) → ys ≡ y ∷ zs → last_or x ys ≡ last_or y ys
last_again x y [] zs e = absurd (cc e)
last_again x y (z ∷ ys) zs e = refl

module _ {P : Type 0} where
  pub ranks_are_orders : RanksAreOrders P
  ranks_are_orders f shaped = linked-order f shaped.linked

  pub orders_are_ranks : OrdersAreRanks P
  orders_are_ranks f order o = order_ranked f order o

  pub values_by_cases : ValuesByCases P
  values_by_cases f shaped x v = (IsValue-value f x v, λ r. value-IsValue f shaped.linked r)

  pub nodes_have_values : NodesHaveValues P
  nodes_have_values f shaped x = IsNode-value f shaped x

  pub paths_by_cases : PathsByCases P
  paths_by_cases f shaped x is = path-step f shaped.linked (has_value f shaped x is).1

  owner_itself : (f : Forest P) → IsWellShaped f → (x : NodeName) (v : P) → (node f x).own ≡ Some v → owner_of f x ≡ x
  unfolding owner_of
  owner_itself f shaped x v e = ap (last_or x) (path-step f shaped.linked (itself e) ∙ ap (λ o. x ∷ names_above o (parent f x) (path_of f)) e)

  owner_above : (f : Forest P) → IsWellShaped f → (x p : NodeName) (v : P) → (node f x).own ≡ None → parent f x ≡ Some p → IsValue f p v → owner_of f x ≡ owner_of f p
  unfolding owner_of
  owner_above f shaped x p v none up r =
      let at_p = path-step f shaped.linked r in
      ap (last_or x) (path-step f shaped.linked (above none up r) ∙ ap₂ (λ o u. x ∷ names_above o u (path_of f)) none up)
      ∙ last_again x p (path_of f p) _ at_p

  pub owners_own_themselves : OwnersOwnThemselves P
  owners_own_themselves f shaped x v e = owner_itself f shaped x v e

  pub owners_are_inherited : OwnersAreInherited P
  owners_are_inherited f shaped x p none up =
      let r = has_value f shaped p (parent_is f shaped x p up) in
      owner_above f shaped x p r.0 none up r.1
    where
      parent_is : (f : Forest P) → IsWellShaped f → (x p : NodeName) → parent f x ≡ Some p → IsNode f p
      parent_is f shaped x p up = parent-IsNode f shaped.linked x p up

  owner_owns : (f : Forest P) → IsWellShaped f → {x : NodeName} {v : P} → IsValue f x v → (node f (owner_of f x)).own ≡ Some v
  owner_owns f shaped {x} {v} (itself e) = ap (λ y. (node f y).own) (owner_itself f shaped x v e) ∙ e
  owner_owns f shaped {x} {v} (above {p = p} none up r) = ap (λ y. (node f y).own) (owner_above f shaped x p v none up r) ∙ owner_owns f shaped r

  pub owners_own_values : OwnersOwnValues P
  owners_own_values f shaped x is =
      let r = has_value f shaped x is in
      owner_owns f shaped r.1 ∙ sym (value-IsValue f shaped.linked r.1)

  pub chains_are_short : ChainsAreShort P
  unfolding chain_of path_of
  chains_are_short f x =
      let l = length-map (path_within (len f.nodes) f x) _ in
      let n = length-map f.nodes.list (λ e. e.0) in
      let s = split_length is_live (map (λ e. e.0) f.nodes.list) in
      let p = path-le (len f.nodes) f x in
      subst (λ m. m ≤ live_count f + working_count f) (sym l) (omega arith)
