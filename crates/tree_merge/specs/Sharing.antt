-- Many pages retired at once whose nodes stay for others: what it needs.
use Rattle.std.specs.Prelude.{ℕ, ◌<◌, length}
use Rattle.vm_ids.specs.declared.numbers.CacheId.{CacheId}
use Rattle.vm_ids.specs.declared.numbers.NodeId.{NodeId}
use Rattle.vm_ids.specs.declared.numbers.PageNo.{PageNo}
use Rattle.local_cache.specs.Arena.{Arena, Cell, cell}
use Rattle.local_cache.specs.Many.{AreAlike, AreNamed}
use Rattle.local_cache.specs.ManyNodes.{next_node}
use Rattle.local_cache.specs.Sound.{IsSound}
use Rattle.tree_merge.specs.Copying.{AreEmpty}

-- a node has a tree child
abbrev pub HasTreeChild : Cell → Type 0
HasTreeChild c = 0 < length c.tree

-- So many nodes, from d on, have tree children, and no own pages but zeros.
pub record AreShared (a : Arena) (d : NodeId) (count : ℕ) : Type 0 where
  pub alike : AreAlike a d count
  pub shared : (k : ℕ) → k < count → HasTreeChild (cell a (next_node d k))
  pub empty : AreEmpty a d count

-- So many pages of a cache, from one page on, may become working nodes.
--     shared  their nodes, from d on, have tree children
--     empty   and no own pages but zeros
pub record CanShareMany (a : Arena) (d : NodeId) (cache : CacheId) (page : PageNo) (count : ℕ)
    : Type 0 where
  pub sound : IsSound a
  pub pages : AreNamed a d cache page count
  pub shared : (k : ℕ) → k < count → HasTreeChild (cell a (next_node d k))
  pub empty : AreEmpty a d count
