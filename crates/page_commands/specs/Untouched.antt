-- Pages of which nothing is in memory, and to whose nodes nothing is linked.
use Rattle.std.specs.Prelude.{◌≡◌, ℕ, ◌<◌, true, List}
use Rattle.vm_ids.specs.declared.node_name.NodeName.{NodeName}
use Rattle.vm_ids.specs.declared.numbers.CacheId.{CacheId}
use Rattle.vm_ids.specs.declared.numbers.NodeId.{NodeId}
use Rattle.vm_ids.specs.Forest.Forgetting.{forgotten}
use Rattle.vm_ids.specs.Forest.NameLists.{◌∈◌}
use Rattle.local_cache.specs.declared.own_state.OwnState.TheVariants.{OnSegment}
use Rattle.local_cache.specs.Arena.{Arena, Cell, cell}
use Rattle.local_cache.specs.Many.{AreAlike}
use Rattle.local_cache.specs.ManyNodes.{next_node}
use Rattle.residency.specs.declared.store.Store.{Store}
use Rattle.tree_merge.specs.Copying.{IsLone}
use Rattle.page_commands.specs.Homes.{is_named}
use Rattle.page_commands.specs.Readings.{GoesBy}

-- a node has neither parent nor children, and its own page is on its segment alone
pub record IsUntouched (c : Cell) : Type 0 where
  pub own : c.own ≡ OnSegment
  pub lone : IsLone c

-- so many nodes from one on are such ones, and alike
pub record AreUntouched (a : Arena) (n : NodeId) (count : ℕ) : Type 0 where
  pub alike : AreAlike a n count
  pub untouched : (k : ℕ) → k < count → IsUntouched (cell a (next_node n k))

-- Some of these pages, all of one cache, are forgotten: none where the cache isn't named.
pub record ForgetsSome (cache : CacheId) (names : List NodeName) (s : Store) (a : Arena) (t : Store)
    (b : Arena) : Type 0 where
  pub some : List NodeName
  pub among : (x : NodeName) → x ∈ some → (is_named a cache ≡ true) × (x ∈ names)
  pub rule : GoesBy (λ P put f. forgotten some put.zeros f) s a t b
