use Rattle.std.proofs.Common.{◌≡◌, ◌++◌, length}
use Rattle.vm_ids.specs.Forest.Reading.{path_of, chain_of}
use Rattle.local_cache.specs.Arena.{HasNode}
use Rattle.local_cache.specs.Reading.{name_of, forest_of}
use Rattle.history_tree.proofs.chains.chain.Given as goal

abbrev pub invariant-loop-items : goal.invariant-loop-items
invariant-loop-items l = record {
  held : HasNode l.caches l.at;
  so_far : l.items.items ++ chain_of (forest_of l.caches) (name_of l.caches l.at) ≡ chain_of (forest_of l.fn.caches) (name_of l.fn.caches l.fn.node);
}

abbrev pub decreases-loop-items : goal.decreases-loop-items
decreases-loop-items l = length (path_of (forest_of l.caches) (name_of l.caches l.at))
