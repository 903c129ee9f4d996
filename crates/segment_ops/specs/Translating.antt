-- Which nodes may come to a page frame while pages of a range are pushed and saved.
use Rattle.std.specs.Prelude.{◌≡◌, ℕ, true, ◌⊎◌, Some}
use Rattle.vm_ids.specs.declared.command.Extent.{Extent}
use Rattle.vm_ids.specs.declared.numbers.NodeId.{NodeId}
use Rattle.local_cache.specs.Arena.{Arena, node_at}
use Rattle.local_cache.specs.Own.{is_absent, own_of}
use Rattle.fault_path.specs.Faults.{IsOwner}
use Rattle.segment_ops.specs.Ranges.{IsPageOf}

-- the node is that of a page of the range
abbrev pub IsNodeIn : Arena → Extent → NodeId → Type 0
IsNodeIn a range n = (page : ℕ) × IsPageOf range page × (node_at a range.cache.0 page ≡ Some n)

-- it is the owner of such a node
abbrev pub IsReadBy : Arena → Extent → NodeId → Type 0
IsReadBy a range o = (n : NodeId) × IsNodeIn a range n × IsOwner a n o

-- it is that of a page of the range, or had no own page
abbrev pub IsSavedOrAbsent : Arena → Extent → NodeId → Type 0
IsSavedOrAbsent a range n = IsNodeIn a range n ⊎ (is_absent (own_of a n) ≡ true)
