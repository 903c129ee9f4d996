-- One page is retired whose node has children: the node becomes a working node.
use Rattle.std.proofs.Common.{◌≡◌, ◌<◌, refl, ap, ◌∙◌, arith}
use Rattle.vm_ids.specs.declared.node_name.NodeName.TheVariants.{Live}
use Rattle.vm_ids.specs.declared.numbers.CacheId.{CacheId}
use Rattle.vm_ids.specs.declared.numbers.NodeId.{NodeId}
use Rattle.vm_ids.specs.declared.numbers.PageNo.{PageNo}
use Rattle.vm_ids.specs.Forest.Nodes.{child_count, is_live}
use Rattle.vm_ids.specs.Forest.Rules.{retire}
use Rattle.local_cache.specs.Arena.{Arena, HasNode, as_working, cell}
use Rattle.local_cache.specs.Reading.{forest_of, name_of}
use Rattle.local_cache.specs.Sound.{IsSound}
use Rattle.local_cache.proofs.Names.WorkingName.{vacated}
use Rattle.tree_merge.specs.declared.released.Released.TheVariants.{Nothing}
use Rattle.tree_merge.specs.Releasing.{IsRetired, IsStill}
use Rattle.tree_merge.specs.Sharing.{HasTreeChild}
use Rattle.tree_merge.specs.Stepping.{IsRetiredAlone}
use Rattle.tree_merge.proofs.ChildLists.Names.{counted}
use Rattle.tree_merge.proofs.Leaving.Retired.{retired-forest, retired-sound, retired_parent}
use Rattle.tree_merge.proofs.Releases.{retire_released}

-- What it needs: d is the node of the page.
pub record CanSharePage (a : Arena) (d : NodeId) (cache : CacheId) (page : PageNo) : Type 0 where
  pub sound : IsSound a
  pub held : HasNode a d
  pub shared : HasTreeChild (cell a d)
  pub named : name_of a d ≡ Live cache page

-- What it does: it is the rule, and all nodes stay with their own pages.
pub record PageShared (a b : Arena) (d : NodeId) (cache : CacheId) (page : PageNo) : Type 0 where
  pub forest : forest_of b ≡ retire (forest_of a) (Live cache page)
  pub sound : IsSound b
  pub still : IsStill a b
  pub retired : IsRetired a b d Nothing

module _ (a : Arena) (d : NodeId) (cache : CacheId) (page : PageNo) (can : CanSharePage a d cache page) where
  children : 0 < child_count (forest_of a) (name_of a d)
  children = let all = counted a can.sound d can.held in omega (arith, can.shared)

  pub page_shared : PageShared a (as_working a d) d cache page
  page_shared = record {
    forest = retired-forest a can.sound d can.held (ap is_live can.named) children ∙ ap (retire (forest_of a)) can.named;
    sound = retired-sound a can.sound d can.held (ap is_live can.named) children;
    still = retire_released a (as_working a d) d can.held Nothing (retired_parent a (as_working a d) d children refl);
    retired = retired_parent a (as_working a d) d children refl;
  }

  -- so the page is retired alone
  pub shared_alone : IsRetiredAlone a (as_working a d) cache page Nothing
  shared_alone =
      let at = can.sound.kept.listed.pages cache.0 page.0 d can.held can.named in
      record {
        forest = page_shared.forest;
        sound = page_shared.sound;
        vacant = vacated a d cache page can.named at;
        node = d;
        at = at;
        retired = page_shared.retired;
        told = page_shared.still;
      }
