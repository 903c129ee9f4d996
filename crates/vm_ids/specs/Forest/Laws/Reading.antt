-- What is read of a forest.
use Rattle.std.specs.Prelude.{◌≡◌, ◌+◌, ◌<◌, ◌≤◌, ℕ, suc, List, [], ◌∷◌, length, cond, ◌↔◌, Some, None}
use Rattle.std.specs.Option.{IsSome}
use Rattle.vm_ids.specs.declared.node_name.NodeName.{NodeName}
use Rattle.vm_ids.specs.Forest.Names.{same}
use Rattle.vm_ids.specs.Forest.NameLists.{◌∈◌, Once}
use Rattle.vm_ids.specs.Forest.Nodes.{Forest, node, parent, IsNode}
use Rattle.vm_ids.specs.Forest.Shape.{IsRanked, IsWellShaped}
use Rattle.vm_ids.specs.Forest.Reading.{value_of, owner_of, path_of, chain_of, names_above, live_count, working_count}
use Rattle.vm_ids.specs.Forest.Values.{IsValue}

-- how many names stand in the list before x
abbrev pub place : List NodeName → NodeName → ℕ
place [] x = 0
place (y ∷ ys) x = cond (same y x) 0 (suc (place ys x))

-- The list has each node once, and each parent before its children.
pub record IsOrder {P : Type 0} (f : Forest P) (order : List NodeName) : Type 0 where
  pub once : Once order
  pub all : (x : NodeName) → IsNode f x ↔ (x ∈ order)
  pub before : (x p : NodeName) → parent f x ≡ Some p → place order p < place order x

module _ (P : Type 0) where
  -- The shape's rank is as good as an order of all nodes.
  abbrev pub RanksAreOrders : Type 0
  RanksAreOrders = (f : Forest P) → IsWellShaped f → (order : List NodeName) × IsOrder f order

  abbrev pub OrdersAreRanks : Type 0
  OrdersAreRanks =
      (f : Forest P) (order : List NodeName) → IsOrder f order → IsRanked f (place order)

  -- The function of values is the relation by cases.
  abbrev pub ValuesByCases : Type 0
  ValuesByCases =
      (f : Forest P) → IsWellShaped f → (x : NodeName) (v : P)
      → (value_of f x ≡ Some v) ↔ IsValue f x v

  abbrev pub NodesHaveValues : Type 0
  NodesHaveValues =
      (f : Forest P) → IsWellShaped f → (x : NodeName) → IsNode f x ↔ IsSome (value_of f x)

  abbrev pub OwnersOwnValues : Type 0
  OwnersOwnValues =
      (f : Forest P) → IsWellShaped f → (x : NodeName) → IsNode f x
      → (node f (owner_of f x)).own ≡ value_of f x

  -- A node with an own page is its own owner. The owner of any other node is that of its parent.
  abbrev pub OwnersOwnThemselves : Type 0
  OwnersOwnThemselves =
      (f : Forest P) → IsWellShaped f → (x : NodeName) (v : P) → (node f x).own ≡ Some v
      → owner_of f x ≡ x

  abbrev pub OwnersAreInherited : Type 0
  OwnersAreInherited =
      (f : Forest P) → IsWellShaped f → (x p : NodeName) → (node f x).own ≡ None
      → parent f x ≡ Some p
      → owner_of f x ≡ owner_of f p

  -- The path of a node is the node, and behind it the path of its parent where it has no own page.
  abbrev pub PathsByCases : Type 0
  PathsByCases = (f : Forest P) → IsWellShaped f → (x : NodeName) → IsNode f x
      → path_of f x ≡ x ∷ names_above (node f x).own (parent f x) (path_of f)

  abbrev pub ChainsAreShort : Type 0
  ChainsAreShort =
      (f : Forest P) (x : NodeName) → length (chain_of f x) ≤ live_count f + working_count f
