-- Many pages retired at once: what it needs, and which arena it leaves.
use Rattle.std.specs.Prelude.{ℕ, ◌<◌, Option}
use Rattle.vm_ids.specs.declared.numbers.CacheId.{CacheId}
use Rattle.vm_ids.specs.declared.numbers.NodeId.{NodeId}
use Rattle.vm_ids.specs.declared.numbers.PageNo.{PageNo}
use Rattle.local_cache.specs.Arena.{Arena, cell}
use Rattle.local_cache.specs.Many.{AreNamed, without_many}
use Rattle.local_cache.specs.ManyNodes.{next_if, next_node}
use Rattle.local_cache.specs.Sound.{IsSound}
use Rattle.tree_merge.specs.Copying.{AreEmpty, IsLeafOf, left_many}

-- So many pages of a cache, from one page on, may go.
--     leaves  their nodes, from d on, have no children, and hang on the parents
--     empty   and have no own pages but zeros
pub record CanRetireMany (a : Arena) (parent : Option NodeId) (d : NodeId) (cache : CacheId)
    (page : PageNo) (count : ℕ) : Type 0 where
  pub sound : IsSound a
  pub pages : AreNamed a d cache page count
  pub leaves : (k : ℕ) → k < count → IsLeafOf (next_if parent k) (cell a (next_node d k))
  pub empty : AreEmpty a d count

-- the arena in which so many nodes, from d on, left their parents, if they had any, and are gone
abbrev pub retired_many : Arena → (parent : Option NodeId) → (d : NodeId) → ℕ → Arena
retired_many a parent d count = without_many (left_many a parent d count) d count
