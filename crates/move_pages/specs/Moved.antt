-- What one page of a move does.
use Rattle.std.specs.Prelude.{◌≡◌, ◌≢◌, ℕ, zero, suc, ◌+◌, ◌≤◌, Some, None}
use Rattle.vm_ids.specs.declared.node_name.NodeName.TheVariants.{Live}
use Rattle.vm_ids.specs.declared.numbers.CacheId.{CacheId}
use Rattle.vm_ids.specs.declared.numbers.NodeId.{NodeId}
use Rattle.vm_ids.specs.declared.numbers.PageNo.{PageNo}
use Rattle.vm_ids.specs.Forest.Laws.Linking.{ArePages}
use Rattle.vm_ids.specs.Forest.Rules.{move_page}
use Rattle.vm_ids.specs.Forest.Shape.{IsConsistent}
use Rattle.local_cache.specs.declared.own_state.OwnState.TheVariants.{Zero}
use Rattle.local_cache.specs.Arena.{Arena, find, node_at, with_name, with_new}
use Rattle.local_cache.specs.Own.{own_of}
use Rattle.local_cache.specs.Reading.{forest_of}
use Rattle.local_cache.specs.Sound.{IsSound}
use Rattle.local_cache.specs.Whole.{SameCaches}
use Rattle.tree_merge.specs.declared.released.Released.{Released}
use Rattle.tree_merge.specs.declared.released.Released.TheVariants.{Dropped}
use Rattle.tree_merge.specs.Copying.{IsEmpty, page_after}
use Rattle.tree_merge.specs.Stepping.{IsRetiredAlone}

-- From a to b a page was moved: the destination's node was retired, the source's node took its
-- name, and a fresh node of zeros that of the source. The fresh node may have the number of the one
-- that went; all others have their own states.
pub record IsMoved (a b : Arena) (from : CacheId) (from_page : PageNo) (to : CacheId)
    (to_page : PageNo) (released : Released) : Type 0 where
  pub between : Arena
  pub cleared : IsRetiredAlone a between to to_page released
  pub origin : NodeId
  pub source : node_at between from.0 from_page.0 ≡ Some origin
  pub fresh : NodeId
  pub free : find (with_name between origin (Live to to_page)) fresh ≡ None
  pub is : b ≡ with_new (with_name between origin (Live to to_page)) fresh
      (Live from from_page) Zero
  pub zero : own_of b fresh ≡ Zero
  pub others : (m : NodeId) → m ≢ fresh → own_of b m ≡ own_of between m

-- And so it was by the rule, in caches that are as they have to be then.
pub record IsMovedAlone (a b : Arena) (from : CacheId) (from_page : PageNo) (to : CacheId)
    (to_page : PageNo) (released : Released) : Type 0 where
  pub forest : forest_of b ≡ move_page (forest_of a) (Live to to_page) (Live from from_page) Zero
  pub sound : IsSound b
  pub consistent : IsConsistent (forest_of b)
  pub moved : IsMoved a b from from_page to to_page released
  pub sizes : SameCaches a b
  pub room : a.room.nodes ≤ b.room.nodes + 1

-- From a to b a page was moved alone, and its old node dropped an own page that was none or zeros.
pub record IsMovedBare (a b : Arena) (from : CacheId) (from_page : PageNo) (to : CacheId)
    (to_page : PageNo) : Type 0 where
  pub pages : ArePages (forest_of a) (Live to to_page) (Live from from_page)
  pub node : NodeId
  pub at : node_at a to.0 to_page.0 ≡ Some node
  pub empty : IsEmpty (own_of a node)
  pub alone : IsMovedAlone a b from from_page to to_page (Dropped node (own_of a node))

-- From a to b so many pages were, from one page of each cache on, one after the other.
abbrev pub AreMovedBare : (a b : Arena) → (from : CacheId) → (from_page : PageNo)
    → (to : CacheId) → (to_page : PageNo) → (count : ℕ) → Type 0
AreMovedBare a b from from_page to to_page zero = b ≡ a
AreMovedBare a b from from_page to to_page (suc k) =
    (c : Arena) × AreMovedBare a c from from_page to to_page k
    × IsMovedBare c b from (page_after from_page k) to (page_after to_page k)
