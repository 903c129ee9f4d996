-- The shape that a forest has after every command, and the invariants beside it.
use Rattle.std.specs.Prelude.{◌≡◌, ℕ, ◌<◌, ◌≤◌, length, ◌↔◌, ◌⊎◌, Some, None}
use Rattle.std.specs.Option.{IsSome}
use Rattle.vm_ids.specs.declared.node_name.NodeName.{NodeName}
use Rattle.vm_ids.specs.Forest.Names.{Working}
use Rattle.vm_ids.specs.Forest.NameLists.{◌∈◌, Once}
use Rattle.vm_ids.specs.Forest.Nodes.{Forest, node, parent, IsNode, most_tree_children}
use Rattle.vm_ids.specs.Forest.Nodes.Hang.{TreeOf, StubOf}
use Rattle.vm_ids.specs.Forest.Reading.{live_count, working_count}

module _ {P : Type 0} where
  -- Each parent has a lower rank than its children.
  abbrev pub IsRanked : Forest P → (NodeName → ℕ) → Type 0
  IsRanked f rank = (x p : NodeName) → parent f x ≡ Some p → rank p < rank x

  -- The links of a forest:
  --     order      no node is above itself, which a rank shows
  --     few      a live node has at most one tree child, a working node at most two
  --     stub_bare      a node that hangs by a stub link has no own page
  --     tree_links, stub_links, once      a node stands in the list of its link at its parent,
  --     once, and in no other
  pub record IsLinked (f : Forest P) : Type 0 where
    pub order : (rank : NodeName → ℕ) × IsRanked f rank
    pub few : (x : NodeName) → length (node f x).tree ≤ most_tree_children x
    pub stub_bare : (x p : NodeName) → (node f x).hang ≡ StubOf p → (node f x).own ≡ None
    pub tree_links : (x p : NodeName) → (x ∈ (node f p).tree) ↔ ((node f x).hang ≡ TreeOf p)
    pub stub_links : (x p : NodeName) → (x ∈ (node f p).stubs) ↔ ((node f x).hang ≡ StubOf p)
    pub once : (x : NodeName) → Once (node f x).tree × Once (node f x).stubs

  -- x has an own page, or else a parent
  abbrev pub HasPageOrParent : Forest P → NodeName → Type 0
  HasPageOrParent f x = (node f x).own ≡ None → IsSome (parent f x)

  -- The shape: the links, and each node has an own page or a parent.
  pub record IsWellShaped (f : Forest P) : Type 0 where
    pub linked : IsLinked f
    pub inherits : (x : NodeName) → IsNode f x → HasPageOrParent f x

  -- The number of each working node was counted, so that the next number is free.
  abbrev pub IsCounted : Forest P → Type 0
  IsCounted f = (k : ℕ) → IsNode f (Working k) → k ≤ f.made

  -- What holds of a forest before and after every rule: the shape, and that the next working node's
  -- number is free.
  pub record IsConsistent (f : Forest P) : Type 0 where
    pub shaped : IsWellShaped f
    pub counted : IsCounted f

  -- The working nodes are fewer than the live ones, or there are none of either.
  abbrev pub IsBounded : Forest P → Type 0
  IsBounded f = (working_count f < live_count f) ⊎ ((working_count f ≡ 0) × (live_count f ≡ 0))
