-- In which page frame the page of a name is seen.
use Rattle.std.specs.Prelude.{◌≡◌, ℕ, List, Option, Some, None, option_and_then, IsSome}
use Rattle.vm_ids.specs.declared.node_name.NodeName.{NodeName}
use Rattle.vm_ids.specs.declared.numbers.NodeId.{NodeId}
use Rattle.vm_ids.specs.Forest.Nodes.{Forest, node}
use Rattle.vm_ids.specs.Forest.Reading.{value_of}
use Rattle.vm_ids.specs.Forest.Rules.{heir}
use Rattle.global_map.specs.Pairs.{frame_of}
use Rattle.local_cache.specs.Arena.{Arena}
use Rattle.local_cache.specs.Own.{own_of}
use Rattle.local_cache.specs.Reading.{forest_of}
use Rattle.local_cache.specs.ReadingBy.{forest_by}
use Rattle.residency.specs.World.{page_by}

-- the frame of a node's own page, where that is in one; none where the node has no own page
abbrev pub own_frame : Arena → List (Option NodeId) → NodeId → Option (Option ℕ)
own_frame a map n = page_by None (Some (frame_of map n.0)) (λ slot. None) None (own_of a n)

-- the page forest whose pages are the frames that they are in
unfoldable pub frame_forest : Arena → List (Option NodeId) → Forest (Option ℕ)
frame_forest a map = forest_by (own_frame a map) a

-- the frame in which the page of this name is seen: that of its owner, where it is in one
abbrev pub seen_in : Arena → List (Option NodeId) → NodeName → Option ℕ
seen_in a map x = option_and_then (λ frame. frame) (value_of (frame_forest a map) x)

-- the node of this name has its page to itself: it owns it, and no heir is to get it
pub record IsAlone (a : Arena) (x : NodeName) : Type 0 where
  pub owned : IsSome (node (forest_of a) x).own
  pub last : heir (forest_of a) x ≡ None
