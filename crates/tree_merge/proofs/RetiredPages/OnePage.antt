-- One page is retired whose node has neither parent nor children: the node goes.
use Rattle.std.proofs.Common.{◌≡◌, ◌≢◌, None, refl, sym, ap, ◌∙◌, arith}
use Rattle.std.specs.Prelude.{length}
use Rattle.vm_ids.specs.declared.node_name.NodeName.TheVariants.{Live}
use Rattle.vm_ids.specs.declared.numbers.CacheId.{CacheId}
use Rattle.vm_ids.specs.declared.numbers.NodeId.{NodeId}
use Rattle.vm_ids.specs.declared.numbers.PageNo.{PageNo}
use Rattle.vm_ids.specs.Forest.Changes.{cut, free}
use Rattle.vm_ids.specs.Forest.Nodes.{child_count}
use Rattle.vm_ids.specs.Forest.Rules.{retire}
use Rattle.local_cache.specs.Arena.{Arena, HasNode, IsVacant, cell, without}
use Rattle.local_cache.specs.Own.{own_of}
use Rattle.local_cache.specs.Reading.{forest_of, name_of}
use Rattle.local_cache.specs.Sound.{IsSound}
use Rattle.local_cache.specs.Whole.{SameCaches}
use Rattle.local_cache.proofs.Changes.SameNodes.{rehung_itself}
use Rattle.local_cache.proofs.Tables.Sizes.{sizes_by}
use Rattle.tree_merge.specs.declared.released.Released.TheVariants.{Dropped}
use Rattle.tree_merge.specs.Copying.{IsLone}
use Rattle.tree_merge.specs.Releasing.{IsRetired}
use Rattle.tree_merge.specs.Staying.{IsGone}
use Rattle.tree_merge.specs.Stepping.{IsRetiredAlone}
use Rattle.tree_merge.proofs.ChildLists.Names.{counted}
use Rattle.tree_merge.proofs.Leaving.Detached.{retired_vacant}
use Rattle.tree_merge.proofs.Leaving.Freed.{Freed, drop-Freed}
use Rattle.tree_merge.proofs.Leaving.Retired.{retire_none, retired_leaf}
use Rattle.tree_merge.proofs.Place.Cut.{no_parent-Step}
use Rattle.tree_merge.proofs.Releases.{retire_released}

-- What it needs: d is the node of the page.
pub record CanRetirePage (a : Arena) (d : NodeId) (cache : CacheId) (page : PageNo) : Type 0 where
  pub sound : IsSound a
  pub held : HasNode a d
  pub lone : IsLone (cell a d)
  pub named : name_of a d ≡ Live cache page

-- What it does: it is the rule, d is gone with its own page, and other nodes stay, as do the sizes
-- of the caches.
pub record PageGone (a b : Arena) (d : NodeId) (cache : CacheId) (page : PageNo) : Type 0 where
  pub forest : forest_of b ≡ retire (forest_of a) (Live cache page)
  pub sound : IsSound b
  pub gone : IsGone a b d
  pub owns : (m : NodeId) → m ≢ d → own_of b m ≡ own_of a m
  pub retired : IsRetired a b d (Dropped d (own_of a d))
  pub vacant : IsVacant b cache page
  pub sizes : SameCaches a b

module _ (a : Arena) (d : NodeId) (cache : CacheId) (page : PageNo) (can : CanRetirePage a d cache page) where
  leaf : child_count (forest_of a) (name_of a d) ≡ 0
  leaf = counted a can.sound d can.held ∙ omega (arith, ap length can.lone.tree, can.lone.stubs)

  went : Freed a (without a d) d (free (cut (forest_of a) (name_of a d)) (name_of a d))
  went = drop-Freed a a (without a d) can.sound d can.held leaf (no_parent-Step a can.sound d can.held can.lone.root).forest can.sound (rehung_itself a) refl

  retired : IsRetired a (without a d) d (Dropped d (own_of a d))
  retired = retired_leaf a (without a d) d (Dropped d (own_of a d)) leaf refl went.gone went.owns

  pub page_gone : PageGone a (without a d) d cache page
  page_gone = record {
    forest = went.forest ∙ sym (retire_none (forest_of a) (name_of a d) leaf) ∙ ap (retire (forest_of a)) can.named;
    sound = went.sound;
    gone = went.gone;
    owns = went.owns;
    retired = retired;
    vacant = retired_vacant a can.sound cache page d (can.sound.kept.listed.pages cache.0 page.0 d can.held can.named) (without a d) (Dropped d (own_of a d)) retired;
    sizes = sizes_by a (without a d) (name_of a d) None went.gone.caches;
  }

  -- so the page is retired alone
  pub page_alone : IsRetiredAlone a (without a d) cache page (Dropped d (own_of a d))
  page_alone = record {
    forest = page_gone.forest;
    sound = page_gone.sound;
    vacant = page_gone.vacant;
    node = d;
    at = can.sound.kept.listed.pages cache.0 page.0 d can.held can.named;
    retired = page_gone.retired;
    told = retire_released a (without a d) d can.held (Dropped d (own_of a d)) page_gone.retired;
  }
