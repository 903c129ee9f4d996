-- The nodes of pages, by the numbers of the pages.
use Rattle.std.specs.Prelude.{ℕ, ◌+◌, ◌≤◌, ◌<◌, ◌^◌, Option, None, Some, IsSome}
use Rattle.std.specs.Ordering.{nat_cmp}
use Rattle.std.specs.FinMap.{FinMap}
use Rattle.std.specs.FinMap as ids
use Rattle.mixed_map.specs.Mixed.{without_range}
use Rattle.vm_ids.specs.declared.node_name.NodeName.{NodeName}
use Rattle.vm_ids.specs.declared.node_name.NodeName.TheVariants.{Live, Working}
use Rattle.vm_ids.specs.declared.numbers.NodeId.{NodeId}
use Rattle.local_cache.specs.ManyNodes.{each, next_node}
use Rattle.local_cache.specs.NodeKeys.{page_number}

abbrev pub Pages : Type 0
Pages = FinMap nat_cmp NodeId

-- so many pages, from one on, with the next ones of some nodes
abbrev pub pages_from : Pages → ℕ → NodeId → ℕ → Pages
pages_from m page n count = each (λ k p. ids.insert p (page + k) (next_node n k)) count m

-- the same of the pages from that of a name on; a working name is no page's
abbrev pub with_pages : Pages → NodeName → NodeId → ℕ → Pages
with_pages m (Live cache page) n count = pages_from m (page_number cache.0 page.0) n count
with_pages m (Working k) n count = m

abbrev pub without_pages : Pages → NodeName → ℕ → Pages
without_pages m (Live cache page) count = without_range m (page_number cache.0 page.0) count
without_pages m (Working k) count = m

-- so many pages, from that of a name on, have nodes
abbrev pub HaveNodes : Pages → NodeName → ℕ → Type 0
HaveNodes m (Live cache page) count =
    (k : ℕ) → k < count → IsSome (ids.get m (page_number cache.0 page.0 + k))
HaveNodes m (Working k) count = Unit {0}

-- from the page of a name on a cache has so many; where they are more than one, there is a number
-- of a page behind them
abbrev pub IsShortFor : NodeName → ℕ → Type 0
IsShortFor (Live cache page) count =
    (cache.0 < 2 ^ 32) × (page.0 + count ≤ 2 ^ 32) × (1 < count → page.0 + count < 2 ^ 32)
IsShortFor (Working k) count = Unit {0}

-- the pages with another node, or none, at the page of this name
abbrev pub pages_with : Pages → NodeName → Option NodeId → Pages
pages_with m x None = without_pages m x 1
pages_with m x (Some n) = with_pages m x n 1
