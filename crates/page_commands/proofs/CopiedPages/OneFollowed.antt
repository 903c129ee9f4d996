-- One page was copied alone, and the store followed.
use Rattle.std.proofs.Common.{◌≡◌, ◌+◌, ◌⊎◌, Bool, true, false, [], None, cond, refl, ap, ◌∙◌}
use Rattle.vm_ids.specs.declared.node_name.NodeName.{NodeName}
use Rattle.vm_ids.specs.declared.node_name.NodeName.TheVariants.{Live, Working}
use Rattle.vm_ids.specs.declared.numbers.CacheId.{CacheId}
use Rattle.vm_ids.specs.declared.numbers.PageNo.{PageNo}
use Rattle.vm_ids.specs.Forest.Laws.Linking.{ArePages}
use Rattle.vm_ids.specs.Forest.Nodes.{IsNode}
use Rattle.vm_ids.specs.Forest.Rules.{detach, link, stub}
use Rattle.vm_ids.specs.Forest.Shape.{IsConsistent}
use Rattle.local_cache.specs.declared.own_state.OwnState.TheVariants.{Absent}
use Rattle.local_cache.specs.Arena.{Arena}
use Rattle.local_cache.specs.Reading.{forest_of}
use Rattle.local_cache.specs.Sound.{IsSound}
use Rattle.residency.specs.declared.store.Store.{Store}
use Rattle.residency.specs.Seeing.{frame_forest}
use Rattle.residency.specs.StoreForest.{store_forest}
use Rattle.tree_merge.specs.declared.released.Released.{Released}
use Rattle.tree_merge.specs.Stepping.{IsCopiedAlone, IsHung}
use Rattle.tree_merge.proofs.PagesAlone.Copied.{copied_room, copied_rule}
use Rattle.tree_merge.proofs.PagesAlone.Detached.{links_of}
use Rattle.page_commands.specs.Following.{CanFollow}
use Rattle.page_commands.specs.Homes.{IsUnclean, MayGo}
use Rattle.page_commands.specs.Steps.{ForAnyMapper, IsStoreTied, IsUnpinned, Releases}
use Rattle.page_commands.specs.Translating.{DropsFreed}
use Rattle.page_commands.proofs.CopiedPages.Parts.{CopiesPage, grown_page}
use Rattle.page_commands.proofs.SeenFrames.Linking.{linked_frames, stubbed_frames}
use Rattle.page_commands.proofs.NodesGone.Elsewhere.{IsFollowed, StaysPut, can_with, followed_with, retired_put}
use Rattle.page_commands.proofs.LinkedNodes.Grown.{grown_kept, linked_forest, relinked_kept, stubbed_forest}
use Rattle.page_commands.proofs.RetiredPages.Detached.{detached_can, detached_forest, detached_frames, detached_kept}
use Rattle.page_commands.proofs.TiedStores.Kept.{kept_both}
use Rattle.page_commands.proofs.TiedStores.Named.{unclean_may}

-- A node was hung on another one: the store is as it was, and the rule holds of pages and of frames
-- too.
record HangsPage (is_small : Bool) (x y : NodeName) (t : Store) (a b : Arena) : Type 0 where
  pub forest : ForAnyMapper t a t b (λ old new. store_forest new ≡ cond is_small (stub (store_forest old) x y) (link (store_forest old) x y))
  pub frames : frame_forest b t.map ≡ cond is_small (stub (frame_forest a t.map) x y) (link (frame_forest a t.map) x y)
  pub kept : Releases [] t a t b

hangs_page : (is_small : Bool) (x y : NodeName) (t : Store) (a b : Arena) → IsSound a → IsSound b → IsStoreTied t a → ((z : NodeName) → IsNode (link (forest_of a) x y) z → IsNode (forest_of a) z ⊎ (z ≡ Working (a.made + 1)))
    → IsHung is_small a b x y → HangsPage is_small x y t a b
hangs_page true x y t a b sound after tied few hung = record {
  forest = stubbed_forest a b hung.1 t sound x y hung.0;
  frames = stubbed_frames a b hung.1 t.map sound x y hung.0;
  kept = relinked_kept a b hung.1 t tied after;
}
hangs_page false x y t a b sound after tied few hung = record {
  forest = linked_forest a b sound after hung.1 x y hung.0 few t;
  frames = linked_frames a b sound after hung.1 x y hung.0 few t.map;
  kept = grown_kept a b sound after hung.1 x y hung.0 few t tied;
}

module _ (s : Store) (a b : Arena) (is_small : Bool) (to : CacheId) (to_page : PageNo) (from : CacheId) (from_page : PageNo) (r : Released) (is : IsCopiedAlone is_small a b to to_page from from_page r)
    (sound : IsSound a) (tied : IsStoreTied s a) (unpinned : IsUnpinned s a (Live to to_page)) (unclean : IsUnclean a (Live to to_page)) where
  abbrev x : NodeName
  x = Live to to_page

  abbrev y : NodeName
  y = Live from from_page

  -- the arena behind the fresh node
  abbrev m : Arena
  m = is.between

  may : MayGo a (Live to to_page)
  may = unclean_may a x unclean

  put : StaysPut r
  put = retired_put a is.detached.between is.detached.retired.node r is.detached.retired.retired

  pub copied_can : CanFollow s b r
  copied_can = can_with s m b r put (detached_can s a m to to_page Absent r is.detached sound tied unpinned may)

  module _ (t : Store) (after : IsFollowed s t b r) (tables : DropsFreed s t) where
    followed : IsFollowed s t is.between r
    followed = followed_with s t m b r put after

    kept : Releases [] s a t is.between
    kept = detached_kept s a m to to_page Absent r is.detached sound tied unpinned may (λ _. unclean) refl t followed tables

    forest : ForAnyMapper s a t is.between (λ old new. store_forest new ≡ detach (store_forest old) (Live to to_page) None)
    forest = detached_forest s a m to to_page Absent r is.detached sound tied unpinned may (λ _. unclean) refl t followed tables

    frames : frame_forest is.between t.map ≡ detach (frame_forest a s.map) (Live to to_page) None
    frames = detached_frames s a m to to_page Absent r is.detached sound tied unpinned may (λ _. unclean) refl t followed tables

    module _ (consistent : IsConsistent (forest_of a)) (pages : ArePages (forest_of a) (Live to to_page) (Live from from_page)) where
      hangs : HangsPage is_small (Live to to_page) (Live from from_page) t is.between b
      hangs = hangs_page is_small x y t m b is.detached.sound is.sound kept.tied (links_of a m consistent x y pages is.detached.forest) is.hung

      pub one_copies : CopiesPage is_small (Live to to_page) (Live from from_page) s a t b
      one_copies =
          let nodes = copied_rule a b to to_page from from_page is_small r is in
          record {
            rule = record {
              nodes = nodes;
              forest = λ told size fit.
                  hangs.forest told size (kept.gives_back told size fit).tied
                  ∙ ap (λ f. cond is_small (stub f x y) (link f x y)) (forest told size fit);
              frames = hangs.frames ∙ ap (λ f. cond is_small (stub f x y) (link f x y)) frames;
            };
            kept = kept_both s a t m t b tied kept hangs.kept;
            grows = grown_page is_small a b x y consistent pages nodes (copied_room a b to to_page from from_page is_small r is);
          }
