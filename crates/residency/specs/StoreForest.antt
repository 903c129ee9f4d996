-- The page forest that a store, the caches and a mapper make together.
use Rattle.std.specs.Prelude.{ℕ, List, Option}
use Rattle.vm_ids.specs.Forest.Nodes.{Forest}
use Rattle.local_cache.specs.ReadingBy.{forest_by}
use Rattle.residency.specs.World.{World, own_page}

-- Each node's own page is the one that `own_page` tells: its bytes where the mapper tells what it
-- holds, and else no more than that there is one.
unfoldable pub store_forest : World → Forest (Option (List ℕ))
store_forest w = forest_by (own_page w) w.caches
