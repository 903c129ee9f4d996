-- Page nodes and forests of them. P is the type of pages: bytes, or `Unit` for a forest without
-- bytes.
use Rattle.std.specs.Prelude.{ℕ, ◌+◌, List, [], length, Bool, true, false, Option, Some, None, unwrap_or}
use Rattle.std.specs.Bool.{IsTrue}
use Rattle.vm_ids.specs.declared.node_name.NodeName.{NodeName}
use Rattle.vm_ids.specs.Forest.Names.{Live, Working}
use Rattle.vm_ids.specs.Forest.NameMap.{NameMap, get, contains_key, empty}

-- How a node hangs: it has no parent, or it hangs on its parent by a tree link or by a stub link.
pub data Hang : Type 0 where
  Root : Hang
  TreeOf : NodeName → Hang
  StubOf : NodeName → Hang

-- own: the own page, where there is one; tree: the tree children; stubs: the stub children
pub record Node (P : Type 0) : Type 0 where
  pub own : Option P
  pub hang : Hang
  pub tree : List NodeName
  pub stubs : List NodeName

-- made: the working nodes made so far; copies: the pages copied so far
pub record Forest (P : Type 0) : Type 0 where
  pub nodes : NameMap (Node P)
  pub made : ℕ
  pub copies : ℕ

-- the parent that the link names
abbrev pub parent_of : Hang → Option NodeName
parent_of Root = None
parent_of (TreeOf p) = Some p
parent_of (StubOf p) = Some p

-- the link is a stub link
abbrev pub is_stub : Hang → Bool
is_stub (StubOf p) = true
is_stub _ = false

-- the node of a page of a cache
abbrev pub is_live : NodeName → Bool
is_live (Live c p) = true
is_live (Working k) = false

-- The tree child of a live node is its history. A working node stands between its own parent and
-- two tree children.
abbrev pub most_tree_children : NodeName → ℕ
most_tree_children (Live c p) = 1
most_tree_children (Working k) = 2

-- a node without children
abbrev pub childless : {P : Type 0} → Option P → Hang → Node P
childless v h = record { own = v; hang = h; tree = []; stubs = [] }

module _ {P : Type 0} where
  -- the forest that a manager begins with
  abbrev pub no_forest : Forest P
  no_forest = record { nodes = empty; made = 0; copies = 0 }

  -- There is a node of this name.
  abbrev pub IsNode : Forest P → NodeName → Type 0
  IsNode f x = IsTrue (contains_key f.nodes x)

  -- The node named x. Where there is none, it is like a node without page, parent and children.
  unfoldable pub node : Forest P → NodeName → Node P
  node f x = unwrap_or (get f.nodes x) (childless None Root)

  -- the parent of x
  abbrev pub parent : Forest P → NodeName → Option NodeName
  parent f x = parent_of (node f x).hang

  -- how many children x has, tree children and stubs together
  abbrev pub child_count : Forest P → NodeName → ℕ
  child_count f x = length (node f x).tree + length (node f x).stubs
