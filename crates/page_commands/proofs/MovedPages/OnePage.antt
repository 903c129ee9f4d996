-- One page is moved, and the store follows.
use Rattle.std.proofs.Common.{◌≡◌, ◌+◌, ◌≤◌, ℕ, false, Option, refl}
use Rattle.vm_ids.specs.Held.{Held}
use Rattle.vm_ids.specs.declared.node_name.NodeName.TheVariants.{Live}
use Rattle.vm_ids.specs.declared.numbers.CacheId.{CacheId}
use Rattle.vm_ids.specs.declared.numbers.PageNo.{PageNo}
use Rattle.vm_ids.specs.Forest.Laws.Linking.{ArePages}
use Rattle.vm_ids.specs.Forest.Rules.{move_page}
use Rattle.vm_ids.specs.Forest.Shape.{IsConsistent}
use Rattle.local_cache.specs.declared.own_state.OwnState.TheVariants.{Zero}
use Rattle.local_cache.specs.Arena.{Arena, HasNode}
use Rattle.local_cache.specs.Own.{own_of}
use Rattle.local_cache.specs.Reading.{forest_of, name_of}
use Rattle.local_cache.specs.Sound.{IsSound}
use Rattle.residency.specs.declared.store.Store.{Store}
use Rattle.residency.specs.World.{world}
use Rattle.tree_merge.specs.declared.released.Released.{Released}
use Rattle.tree_merge.specs.declared.released.Released.TheVariants.{Dropped}
use Rattle.move_pages.specs.Moved.{IsMoved, IsMovedBare}
use Rattle.page_commands.specs.Following.{followed}
use Rattle.page_commands.specs.Homes.{IsUnclean, is_named}
use Rattle.page_commands.specs.Steps.{IsStoreTied, IsUnpinned}
use Rattle.page_commands.specs.Translating.{DropsFreed}
use Rattle.page_commands.proofs.NamedNodes.Moved.{move_forest, move_kept}
use Rattle.page_commands.proofs.SeenFrames.Coming.{move_frames}
use Rattle.page_commands.proofs.FreedFrames.Freed.{same_freed}
use Rattle.page_commands.proofs.MovedPages.Parts.{MovesPage, grown_page}
use Rattle.page_commands.proofs.RetiredPages.OnePage.{nothing_freed, page_unclean, page_unpinned}
use Rattle.page_commands.proofs.TiedStores.Named.{temporary_home}

-- A page that was moved, and what was released is followed in the store.
module _ (s : Store) (a : Arena) (sound : IsSound a) (tied : IsStoreTied s a) (from : CacheId) (from_page : PageNo) (to : CacheId) (to_page : PageNo)
    (unpinned : IsUnpinned s a (Live to to_page)) (unclean : IsUnclean a (Live to to_page)) (out : IsUnpinned s a (Live from from_page)) (temporary : is_named a from ≡ false)
    (r : Released) (d : Arena) (m : IsMoved a d from from_page to to_page r) where
  pub page_moves : IsConsistent (forest_of a) → ArePages (forest_of a) (Live to to_page) (Live from from_page)
      → forest_of d ≡ move_page (forest_of a) (Live to to_page) (Live from from_page) Zero → IsSound d → a.room.nodes ≤ d.room.nodes + 1
      → (t : Store) → ((told : Option Held) (size : Option ℕ) → world told size d t ≡ followed (world told size d s) r) → DropsFreed s t
      → MovesPage (Live to to_page) (Live from from_page) s a t d
  page_moves consistent are forest sound_d room t after tables =
      let home = temporary_home a from temporary from_page in
      record {
        rule = record {
          nodes = forest;
          forest = move_forest s a sound tied from from_page to to_page unpinned unclean r d m t after home sound_d;
          frames = move_frames s a sound tied from from_page to to_page unpinned unclean r d m t after sound_d;
        };
        kept = move_kept s a sound tied from from_page to to_page unpinned unclean r d m t after home sound_d out tables;
        grows = grown_page a d (Live to to_page) (Live from from_page) consistent are forest room;
      }

-- A page whose old node dropped no frame and no slot: the store is as it was.
module _ (t : Store) (a b : Arena) (from : CacheId) (from_page : PageNo) (to : CacheId) (to_page : PageNo) (is : IsMovedBare a b from from_page to to_page)
    (sound : IsSound a) (tied : IsStoreTied t a) where
  held : HasNode a is.node
  held = (sound.kept.listed.nodes to.0 to_page.0 is.node is.at).0

  named : name_of a is.node ≡ Live to to_page
  named = (sound.kept.listed.nodes to.0 to_page.0 is.node is.at).1

  pub bare_moves : IsConsistent (forest_of a) → IsUnpinned t a (Live from from_page) → is_named a from ≡ false → MovesPage (Live to to_page) (Live from from_page) t a t b
  bare_moves consistent out temporary =
      page_moves t a sound tied from from_page to to_page
      (page_unpinned t a is.node to to_page sound held named is.empty tied) (page_unclean t a is.node to to_page sound held named is.empty) out temporary
      (Dropped is.node (own_of a is.node)) b is.alone.moved consistent is.pages is.alone.forest is.alone.sound is.alone.room
      t (λ told size. nothing_freed (world told size b t) is.node (own_of a is.node) is.empty) (same_freed t t refl refl)
