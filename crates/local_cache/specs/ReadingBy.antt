-- The page forest that is read off the caches, where each node's own page is told by the node's
-- number.
use Rattle.std.specs.Prelude.{◌≡◌, map, Option, is_some}
use Rattle.std.specs.FinMap as ids
use Rattle.vm_ids.specs.Forest.NameMap as names
use Rattle.vm_ids.specs.Forest.Nodes.{Forest, Node}
use Rattle.vm_ids.specs.declared.numbers.NodeId.{NodeId}
use Rattle.local_cache.specs.declared.own_state.OwnState.{OwnState}
use Rattle.local_cache.specs.Arena.{Arena, cell}
use Rattle.local_cache.specs.Reading.{at_key, name_of, node_of, page_of}

-- the own state of a node as its own page, which is what `forest_of` reads
abbrev pub state_page : Arena → NodeId → Option OwnState
state_page a n = page_of (cell a n).own

module _ {P : Type 0} where
  -- the node under a number, with this own page or none
  abbrev pub node_with : Arena → NodeId → Option P → Node P
  node_with a n page =
      record {
        own = page;
        hang = (node_of a n).hang;
        tree = (node_of a n).tree;
        stubs = (node_of a n).stubs;
      }

  -- the forest whose own pages are those that `page` tells
  unfoldable pub forest_by : (NodeId → Option P) → Arena → Forest P
  forest_by page a = record {
    nodes =
        names.from_entries
        (map (λ k. (name_of a (at_key k), node_with a (at_key k) (page (at_key k))))
        (ids.keys a.cells));
    made = a.made;
    copies = a.copies;
  }

  -- `page` tells an own page of exactly those nodes whose own state has one
  abbrev pub Tells : (NodeId → Option P) → Arena → Type 0
  Tells page a = (n : NodeId) → is_some (page n) ≡ is_some (state_page a n)
