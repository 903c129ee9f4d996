-- The number of a page, and the numbers under which nodes are found by their names.
use Rattle.std.specs.Prelude.{ℕ, ◌+◌, ◌*◌, ◌^◌, Option, Some, None, option_and_then}
use Rattle.std.specs.Ordering.{nat_cmp}
use Rattle.std.specs.FinMap.{FinMap}
use Rattle.std.specs.FinMap as ids
use Rattle.vm_ids.specs.declared.node_name.NodeName.{NodeName}
use Rattle.vm_ids.specs.declared.node_name.NodeName.TheVariants.{Live, Working}
use Rattle.local_cache.specs.Arena.{Cell}

-- the number of a page among those of all caches, each of which has 2 ^ 32 of them
abbrev pub page_number : ℕ → ℕ → ℕ
page_number cache page = cache * 2 ^ 32 + page

-- the number of the page that this name has
abbrev pub page_of_name : NodeName → Option ℕ
page_of_name (Live cache page) = Some (page_number cache.0 page.0)
page_of_name (Working k) = None

-- the number of the page that a node is named by
abbrev pub page_key : Cell → Option ℕ
page_key c = page_of_name c.name

-- the number of a working node
abbrev pub number_of_name : NodeName → Option ℕ
number_of_name (Live cache page) = None
number_of_name (Working k) = Some k

abbrev pub working_number : Cell → Option ℕ
working_number c = number_of_name c.name

-- the key of the node of a number
abbrev pub key_at : (Cell → Option ℕ) → FinMap nat_cmp Cell → ℕ → Option ℕ
key_at key m n = option_and_then key (ids.get m n)
