-- Pages whose nodes are alike can be retired at once.
use Rattle.std.proofs.Common.{◌≡◌, ℕ}
use Rattle.vm_ids.specs.declared.node_name.NodeName.TheVariants.{Live}
use Rattle.vm_ids.specs.declared.numbers.CacheId.{CacheId}
use Rattle.vm_ids.specs.declared.numbers.NodeId.{NodeId}
use Rattle.vm_ids.specs.declared.numbers.PageNo.{PageNo}
use Rattle.local_cache.specs.Arena.{Arena, cell}
use Rattle.local_cache.specs.Many.{as_working_many}
use Rattle.local_cache.specs.Reading.{name_of}
use Rattle.local_cache.specs.Sound.{IsSound}
use Rattle.tree_merge.specs.Copyable.{AreLeaves}
use Rattle.tree_merge.specs.Retiring.{retired_many}
use Rattle.tree_merge.specs.Sharing.{AreShared}
use Rattle.tree_merge.specs.Stepping.{AreRetired}
use Rattle.tree_merge.proofs.AlikeNodes.{alike_named}
use Rattle.tree_merge.proofs.RetiredPages.Leaves.{leaves_retired}
use Rattle.tree_merge.proofs.RetiredPages.SharedPages.{pages_shared}

module _ (a : Arena) (sound : IsSound a) (d : NodeId) (cache : CacheId) (page : PageNo) (named : name_of a d ≡ Live cache page) (count : ℕ) where
  pub leaves_at_once : AreLeaves a d count → AreRetired a (retired_many a (cell a d).links.parent d count) cache page count
  leaves_at_once all =
      leaves_retired a (cell a d).links.parent d cache page count
      (record { sound = sound; pages = alike_named a d count all.alike cache page named; leaves = all.leaves; empty = all.empty })

  pub shared_at_once : AreShared a d count → AreRetired a (as_working_many a d count) cache page count
  shared_at_once all =
      pages_shared a d cache page count
      (record { sound = sound; pages = alike_named a d count all.alike cache page named; shared = all.shared; empty = all.empty })
