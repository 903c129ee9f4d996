-- A page was retired alone.
use Rattle.std.proofs.Common.{◌≡◌, ◌≤◌, Some, ap, ◌∙◌}
use Rattle.vm_ids.specs.declared.numbers.CacheId.{CacheId}
use Rattle.vm_ids.specs.declared.numbers.NodeId.{NodeId}
use Rattle.vm_ids.specs.declared.numbers.PageNo.{PageNo}
use Rattle.vm_ids.specs.Forest.Rules.{retire}
use Rattle.local_cache.specs.Arena.{Arena, node_at}
use Rattle.local_cache.specs.Reading.{forest_of, name_of}
use Rattle.local_cache.specs.Sound.{IsSound}
use Rattle.local_cache.specs.Whole.{SameCaches}
use Rattle.tree_merge.specs.declared.released.Released.{Released}
use Rattle.tree_merge.specs.Releasing.{IsRetired}
use Rattle.tree_merge.specs.Stepping.{IsRetiredAlone}
use Rattle.tree_merge.proofs.Leaving.Detached.{page_held, page_name, retired_room, retired_vacant}
use Rattle.tree_merge.proofs.Leaving.Sizes.{sizes_retired}
use Rattle.tree_merge.proofs.Releases.{retire_released}

module _ (a b : Arena) (cache : CacheId) (page : PageNo) (r : Released) where
  -- as what retiring its node says
  pub node_alone : IsSound a → (n : NodeId) → node_at a cache.0 page.0 ≡ Some n → forest_of b ≡ retire (forest_of a) (name_of a n) → IsSound b → IsRetired a b n r → IsRetiredAlone a b cache page r
  node_alone was n at forest sound retired = record {
    forest = forest ∙ ap (retire (forest_of a)) (page_name a was cache page n at);
    sound = sound;
    vacant = retired_vacant a was cache page n at b r retired;
    node = n;
    at = at;
    retired = retired;
    told = retire_released a b n (page_held a was cache page n at) r retired;
  }

  pub alone_sizes : IsRetiredAlone a b cache page r → SameCaches a b
  alone_sizes is = sizes_retired a b is.node r is.retired

  pub alone_room : IsRetiredAlone a b cache page r → a.room.nodes ≤ b.room.nodes
  alone_room is = retired_room a b is.node r is.retired
