-- A map from nodes to frames, as the node of each frame.
use Rattle.std.specs.Prelude.{◌≡◌, ℕ, ◌≤◌, ◌^◌, ◌==◌, Bool, false, List, length, Option, Some, None, slice_index_or, count_by, map}
use Rattle.std.specs.List.{position_or_len}
use Rattle.probe_table.specs.Hashes.{hash_of_key}
use Rattle.vm_ids.specs.declared.numbers.NodeId.{NodeId}

-- what is bound is this node
abbrev pub is_node : ℕ → Option NodeId → Bool
is_node node None = false
is_node node (Some bound) = bound.0 == node

-- the node that is bound to a frame
abbrev pub node_of : List (Option NodeId) → ℕ → Option NodeId
node_of map frame = slice_index_or map frame None

-- the frame of a node, or a number past the last frame where it has none
abbrev pub frame_of : List (Option NodeId) → ℕ → ℕ
frame_of map node = position_or_len (is_node node) map

-- at how many frames a node stands
abbrev pub bound_times : List (Option NodeId) → ℕ → ℕ
bound_times map node = count_by (is_node node) map

-- each node stands at one frame at most
pub record IsOneToOne (map : List (Option NodeId)) : Type 0 where
  pub few : length map ≤ 2 ^ 16
  pub once : (node : ℕ) → bound_times map node ≤ 1

-- the hash under which a frame is entered in the table, if a node is bound to it
abbrev pub hash_at : Option NodeId → Option ℕ
hash_at None = None
hash_at (Some node) = Some (hash_of_key node.0)

-- the table that belongs to a map
abbrev pub hashes_of : List (Option NodeId) → List (Option ℕ)
hashes_of nodes = map hash_at nodes

-- each node stands at one frame at most, and the table is the one that belongs to the map
pub record IsIndexed (nodes : List (Option NodeId)) (table : List (Option ℕ)) : Type 0 where
  pub one_to_one : IsOneToOne nodes
  pub hashes : table ≡ hashes_of nodes
