-- The page forest that a manager keeps for a machine, and the plain one that stands in where a
-- manager tells none.
use Rattle.std.specs.Prelude.{◌≡◌, ◌↔◌, ℕ, ◌+◌, List, [], ◌∷◌, ◌++◌, map, take, drop, Option, Some, None, option_map, option_and_then, slice_get, IsSome}
use Rattle.vm_ids.specs.declared.command.Extent.{Extent}
use Rattle.vm_ids.specs.declared.node_name.NodeName.{NodeName}
use Rattle.vm_ids.specs.declared.numbers.CacheId.{CacheId}
use Rattle.vm_ids.specs.Forest.Nodes.{Forest, no_forest, IsNode}
use Rattle.vm_ids.specs.Forest.Reading.{value_of}
use Rattle.vm_ids.specs.Forest.Commands.{make, page_name, pages_at}
use Rattle.vm_model.specs.Machine.{Machine, Page, Cache, cache_of}

-- The own page of a node is its bytes, or none where the mapper doesn't tell them.
abbrev pub PageForest : Type 0
PageForest = Forest (Option Page)

-- The page of a machine, as a forest has it: a machine without bytes has empty pages, whose bytes
-- aren't told.
abbrev pub told : Page → Option Page
told [] = None
told (b ∷ bs) = Some (b ∷ bs)

-- the pages of the cache with this number, each at its node
abbrev pub nodes_of : ℕ → Option Cache → List (NodeName × Option Page)
nodes_of number None = []
nodes_of number (Some c) = pages_at (record { 0 = number }) 0 (map told c.pages)

-- the pages of an extent of this cache, each at its node
abbrev pub nodes_in : Extent → Option Cache → List (NodeName × Option Page)
nodes_in e None = []
nodes_in e (Some c) =
    pages_at e.cache e.first.0 (map told (take e.pages (drop e.first.0 c.pages)))

-- the pages of these caches, the first of which has this number
abbrev pub nodes_from : ℕ → List (Option Cache) → List (NodeName × Option Page)
nodes_from number [] = []
nodes_from number (c ∷ cs) = nodes_of number c ++ nodes_from (number + 1) cs

-- The plain forest of a machine: each page of a live cache owns itself; there is no link and no
-- working node, and nothing was copied.
unfoldable pub plain_forest : Machine → PageForest
plain_forest m = make (nodes_from 1 m.caches) no_forest

-- the forest that is told, or else the plain one
abbrev pub forest_shown : Option PageForest → Machine → PageForest
forest_shown None m = plain_forest m
forest_shown (Some f) m = f

-- a page of a live cache
abbrev pub page_in : Machine → ℕ → ℕ → Option Page
page_in m cache page = option_and_then (λ (c : Cache). slice_get c.pages page) (cache_of m cache)

-- The live nodes are the pages of the live caches, and the value of each is that page.
pub record Agrees (m : Machine) (f : PageForest) : Type 0 where
  pub nodes : (cache : CacheId) (page : ℕ)
      → IsNode f (page_name cache page) ↔ IsSome (page_in m cache.0 page)
  pub values : (cache : CacheId) (page : ℕ)
      → value_of f (page_name cache page) ≡ option_map told (page_in m cache.0 page)
