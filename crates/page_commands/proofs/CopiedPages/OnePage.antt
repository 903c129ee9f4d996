-- One page is copied whose node dropped no frame and no slot: the store is as it was.
use Rattle.std.proofs.Common.{◌≡◌, false, refl}
use Rattle.vm_ids.specs.declared.node_name.NodeName.TheVariants.{Live}
use Rattle.vm_ids.specs.declared.numbers.CacheId.{CacheId}
use Rattle.vm_ids.specs.declared.numbers.PageNo.{PageNo}
use Rattle.vm_ids.specs.Forest.Shape.{IsConsistent}
use Rattle.local_cache.specs.Arena.{Arena, HasNode}
use Rattle.local_cache.specs.Own.{own_of}
use Rattle.local_cache.specs.Reading.{forest_of, name_of}
use Rattle.local_cache.specs.Sound.{IsSound}
use Rattle.residency.specs.declared.store.Store.{Store}
use Rattle.residency.specs.World.{world}
use Rattle.tree_merge.specs.declared.released.Released.TheVariants.{Dropped}
use Rattle.tree_merge.specs.Stepping.{IsCopiedBare}
use Rattle.page_commands.specs.Steps.{IsStoreTied}
use Rattle.page_commands.proofs.CopiedPages.OneFollowed.{one_copies}
use Rattle.page_commands.proofs.CopiedPages.Parts.{CopiesPage}
use Rattle.page_commands.proofs.FreedFrames.Freed.{same_freed}
use Rattle.page_commands.proofs.RetiredPages.OnePage.{nothing_freed, page_unclean, page_unpinned}

module _ (t : Store) (a b : Arena) (to : CacheId) (to_page : PageNo) (from : CacheId) (from_page : PageNo) (is : IsCopiedBare a b to to_page from from_page)
    (sound : IsSound a) (tied : IsStoreTied t a) where
  held : HasNode a is.node
  held = (sound.kept.listed.nodes to.0 to_page.0 is.node is.at).0

  named : name_of a is.node ≡ Live to to_page
  named = (sound.kept.listed.nodes to.0 to_page.0 is.node is.at).1

  pub bare_copies : IsConsistent (forest_of a) → CopiesPage false (Live to to_page) (Live from from_page) t a t b
  bare_copies consistent =
      one_copies t a b false to to_page from from_page (Dropped is.node (own_of a is.node)) is.copied sound tied
      (page_unpinned t a is.node to to_page sound held named is.empty tied) (page_unclean t a is.node to to_page sound held named is.empty)
      t (λ told size. nothing_freed (world told size b t) is.node (own_of a is.node) is.empty) (same_freed t t refl refl) consistent is.pages
