-- What the steps of `link` do to the caches, node by node.
use Rattle.std.specs.Prelude.{◌≡◌, ◌+◌, ◌≤◌, [], ◌∷◌, None, Some}
use Rattle.vm_ids.specs.declared.numbers.NodeId.{NodeId}
use Rattle.local_cache.specs.Arena.{Arena, HasNode, find, hung, with_tree, with_working}
use Rattle.local_cache.specs.Own.{own_of}
use Rattle.local_cache.specs.Reading.{name_of}

-- x is the only tree child of p
abbrev pub set_one : Arena → NodeId → NodeId → Arena
set_one a p x = hung (with_tree a p (x ∷ [])) x (Some p)

-- x and y are the tree children of p
abbrev pub set_two : Arena → NodeId → NodeId → NodeId → Arena
set_two a p x y = hung (hung (with_tree a p (x ∷ y ∷ [])) y (Some p)) x (Some p)

-- From a to b a working node came between s and its tree child h, and d is its second child.
pub record IsPutBetween (a b : Arena) (d s h : NodeId) : Type 0 where
  pub working : NodeId
  pub fresh : find a working ≡ None
  pub is : b ≡ set_two (set_one (with_working a working) s working) working h d

-- All nodes that were there are there still under their numbers and names, each with its own page
-- where it was, and so are the tables. As many working nodes were made as there is room for fewer
-- nodes, at most one.
pub record IsGrown (a b : Arena) : Type 0 where
  pub held : (n : NodeId) → HasNode a n → HasNode b n
  pub names : (n : NodeId) → HasNode a n → name_of b n ≡ name_of a n
  pub own : (n : NodeId) → HasNode a n → own_of b n ≡ own_of a n
  pub tables : b.caches ≡ a.caches
  pub made : (a.made ≤ b.made) × (b.made ≤ a.made + 1)
  pub copies : b.copies ≡ a.copies
  pub nodes : b.room.nodes + b.made ≡ a.room.nodes + a.made
  pub caches : b.room.caches ≡ a.room.caches
  pub entries : b.room.entries ≡ a.room.entries
