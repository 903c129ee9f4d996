-- The page forest that is read off the caches, whose pages are the own states.
use Rattle.std.specs.Prelude.{◌≡◌, ℕ, zero, suc, ◌≤◌, List, [], ◌∷◌, map, Bool, true, false, Option, Some, None}
use Rattle.std.specs.FinMap as ids
use Rattle.vm_ids.specs.declared.node_name.NodeName.{NodeName}
use Rattle.vm_ids.specs.declared.node_name.NodeName.TheVariants.{Working}
use Rattle.vm_ids.specs.Forest.NameMap as names
use Rattle.vm_ids.specs.Forest.Nodes.{Forest, Node, Hang}
use Rattle.vm_ids.specs.Forest.Nodes.Hang.{Root, TreeOf, StubOf}
use Rattle.vm_ids.specs.declared.numbers.NodeId.{NodeId}
use Rattle.local_cache.specs.declared.own_state.OwnState.{OwnState}
use Rattle.local_cache.specs.declared.own_state.OwnState.TheVariants.{Absent, Zero, Resident, Slot, OnSegment}
use Rattle.local_cache.specs.Arena.{Arena, cell, HasNode}

abbrev pub page_of : OwnState → Option OwnState
page_of Absent = None
page_of Zero = Some Zero
page_of (Resident d) = Some (Resident d)
page_of (Slot s) = Some (Slot s)
page_of OnSegment = Some OnSegment

abbrev pub name_of : Arena → NodeId → NodeName
name_of a n = (cell a n).name

-- up to k nodes, of which the first is the one given, and each next one stands behind the one
-- before
abbrev pub walk : Arena → ℕ → Option NodeId → List NodeId
walk a zero from = []
walk a (suc k) None = []
walk a (suc k) (Some n) = n ∷ walk a k (cell a n).links.behind

unfoldable pub stubs_of : Arena → NodeId → List NodeId
stubs_of a n = walk a (cell a n).links.stubs (cell a n).links.first

abbrev pub hang_by : Arena → Option NodeId → Bool → Hang
hang_by a None b = Root
hang_by a (Some p) true = StubOf (name_of a p)
hang_by a (Some p) false = TreeOf (name_of a p)

abbrev pub node_of : Arena → NodeId → Node OwnState
node_of a n = record {
  own = page_of (cell a n).own;
  hang = hang_by a (cell a n).links.parent (cell a n).links.by_stub;
  tree = map (name_of a) (cell a n).tree;
  stubs = map (name_of a) (stubs_of a n);
}

abbrev pub at_key : ℕ → NodeId
at_key k = record { 0 = k }

unfoldable pub forest_of : Arena → Forest OwnState
forest_of a = record {
  nodes =
      names.from_entries
      (map (λ k. (name_of a (at_key k), node_of a (at_key k))) (ids.keys a.cells));
  made = a.made;
  copies = a.copies;
}

-- Each name is that of one node, and the number of each working node was counted.
pub record AreNamesApart (a : Arena) : Type 0 where
  pub apart : (n m : NodeId) → HasNode a n → HasNode a m → name_of a n ≡ name_of a m → n ≡ m
  pub counted : (n : NodeId) (k : ℕ) → HasNode a n → name_of a n ≡ Working k → k ≤ a.made
