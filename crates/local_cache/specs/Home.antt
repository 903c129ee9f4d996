-- The pages of segments that nodes stand for.
use Rattle.std.specs.Prelude.{List, Option, None, option_and_then, option_map}
use Rattle.vm_ids.specs.declared.node_name.NodeName.{NodeName}
use Rattle.vm_ids.specs.declared.node_name.NodeName.TheVariants.{Live, Working}
use Rattle.vm_ids.specs.declared.numbers.NodeId.{NodeId}
use Rattle.local_cache.specs.declared.home.Home.{Home}
use Rattle.local_cache.specs.Arena.{Arena, Table, cell, table_at}

-- the page of a segment that a page of this name is; none where its cache is temporary or isn't
-- live, and for a working node
abbrev pub home_named : List (Option Table) → NodeName → Option Home
home_named tables (Working number) = None
home_named tables (Live cache page) =
    option_map (λ segment. record { segment = segment; page = page })
    (option_and_then (λ table. table.segment) (table_at tables cache.0))

-- the page of a segment that a node stands for, as the node of that page of the cache that the
-- segment names; none for a working node, a node of a temporary cache, and where there is no node
abbrev pub home_of : Arena → NodeId → Option Home
home_of a n = home_named a.caches (cell a n).name
