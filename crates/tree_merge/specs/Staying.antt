-- What the steps of a merge need of the page forest, and what they leave of the caches as it was.
use Rattle.std.specs.Prelude.{◌≡◌, ◌≢◌, ℕ, ◌+◌, ◌<◌, ◌&&◌, cond, Some, None, is_some}
use Rattle.vm_ids.specs.declared.node_name.NodeName.{NodeName}
use Rattle.vm_ids.specs.declared.numbers.NodeId.{NodeId}
use Rattle.vm_ids.specs.Forest.Nodes.{Forest, node, parent, is_stub}
use Rattle.vm_ids.specs.Forest.Shape.{IsRanked}
use Rattle.vm_ids.specs.Forest.Changes.{cut}
use Rattle.vm_ids.specs.Forest.Settling.{take_place}
use Rattle.local_cache.specs.declared.links.Links.{Links}
use Rattle.local_cache.specs.Arena.{Arena, HasNode, find, tables_with, with_links}
use Rattle.local_cache.specs.Changes.{Rehung}
use Rattle.local_cache.specs.Reading.{forest_of, name_of}
use Rattle.local_cache.specs.Sound.{IsSound}

-- The node n is gone, from the tables too, and leaves its place. All other nodes keep their numbers
-- and names, no number is new, and the counters stay.
pub record IsGone (a b : Arena) (n : NodeId) : Type 0 where
  pub gone : find b n ≡ None
  pub held : (m : NodeId) → m ≢ n → is_some (find b m) ≡ is_some (find a m)
  pub name : (m : NodeId) → m ≢ n → name_of b m ≡ name_of a m
  pub caches : b.caches ≡ tables_with a.caches (name_of a n) None
  pub made : b.made ≡ a.made
  pub copies : b.copies ≡ a.copies
  pub room : b.room ≡ record a.room { nodes = a.room.nodes + 1 }

-- The node n left the list of its parent, if it has one: with these links of its own it is cut off.
pub record HasLeft (a b : Arena) (n : NodeId) : Type 0 where
  pub links : Links
  pub forest : forest_of (with_links b n links) ≡ cut (forest_of a) (name_of a n)
  pub sound : IsSound (with_links b n links)
  pub rehung : Rehung a (with_links b n links)
  pub held : HasNode b n

module _ {P : Type 0} where
  -- no node hangs on x
  abbrev pub HasNoChild : Forest P → NodeName → Type 0
  HasNoChild f x = (z : NodeName) → parent f z ≡ Some x → ⊥

  -- y may hang below w: some rank rises along all links, and from w to y
  abbrev pub IsBelow : Forest P → NodeName → NodeName → Type 0
  IsBelow f w y = (rank : NodeName → ℕ) × IsRanked f rank × (rank w < rank y)

  -- y in the place of w, or w without a parent where y would be a stub with an own page
  abbrev pub placed : Forest P → NodeName → NodeName → Forest P
  placed f w y =
      cond (is_stub (node f w).hang && is_some (node f y).own) (cut f w) (take_place f w y)
