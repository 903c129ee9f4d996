-- One page was retired alone, and the store followed.
use Rattle.std.proofs.Common.{◌≡◌}
use Rattle.vm_ids.specs.declared.node_name.NodeName.TheVariants.{Live}
use Rattle.vm_ids.specs.declared.numbers.CacheId.{CacheId}
use Rattle.vm_ids.specs.declared.numbers.PageNo.{PageNo}
use Rattle.local_cache.specs.Arena.{Arena, HasNode}
use Rattle.local_cache.specs.Reading.{name_of}
use Rattle.local_cache.specs.Sound.{IsSound}
use Rattle.residency.specs.declared.store.Store.{Store}
use Rattle.tree_merge.specs.declared.released.Released.{Released}
use Rattle.tree_merge.specs.Stepping.{IsRetiredAlone}
use Rattle.tree_merge.proofs.PagesAlone.Retired.{alone_room}
use Rattle.page_commands.specs.Following.{CanFollow}
use Rattle.page_commands.specs.Homes.{MayGo}
use Rattle.page_commands.specs.Steps.{IsStoreTied, IsUnpinned}
use Rattle.page_commands.specs.Translating.{DropsFreed}
use Rattle.page_commands.proofs.SeenFrames.Leaving.{retire_frames}
use Rattle.page_commands.proofs.NodesGone.Elsewhere.{IsFollowed}
use Rattle.page_commands.proofs.NodesGone.Retired.{retire_can, retire_forest, retire_kept}
use Rattle.page_commands.proofs.RetiredPages.Parts.{RetiresPage}
use Rattle.page_commands.proofs.TiedStores.Sized.{released_fewer}

module _ (s : Store) (a b : Arena) (cache : CacheId) (page : PageNo) (r : Released) (is : IsRetiredAlone a b cache page r) (sound : IsSound a) (tied : IsStoreTied s a) (unpinned : IsUnpinned s a (Live cache page)) (may : MayGo a (Live cache page)) where
  there : HasNode a is.node
  there = (sound.kept.listed.nodes cache.0 page.0 is.node is.at).0

  pub one_named : name_of a is.node ≡ Live cache page
  one_named = (sound.kept.listed.nodes cache.0 page.0 is.node is.at).1

  pub one_can : CanFollow s b r
  one_can = retire_can s a b is.node (Live cache page) there one_named r is.retired is.told tied unpinned may

  pub one_retires : (t : Store) → IsFollowed s t b r → DropsFreed s t → RetiresPage (Live cache page) s a t b
  one_retires t after tables = record {
    rule = record {
      nodes = is.forest;
      forest = retire_forest s a b is.node (Live cache page) there one_named r is.retired is.told tied unpinned may t after sound is.sound is.forest;
      frames = retire_frames s a b is.node (Live cache page) there one_named r is.retired is.told tied unpinned may t after sound is.sound is.forest;
    };
    kept = retire_kept s a b is.node (Live cache page) there one_named r is.retired is.told tied unpinned may t after is.sound tables;
    room = alone_room a b cache page r is;
    fewer = released_fewer a b r is.told;
  }
