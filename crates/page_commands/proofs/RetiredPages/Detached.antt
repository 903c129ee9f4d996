-- One page was retired alone, a fresh node made for it, and the store followed.
use Rattle.std.proofs.Common.{◌≡◌, ◌+◌, ◌≤◌, false, true, length, arith}
use Rattle.vm_ids.specs.declared.node_name.NodeName.TheVariants.{Live}
use Rattle.vm_ids.specs.declared.numbers.CacheId.{CacheId}
use Rattle.vm_ids.specs.declared.numbers.PageNo.{PageNo}
use Rattle.vm_ids.specs.Forest.Rules.{detach}
use Rattle.local_cache.specs.declared.own_state.OwnState.{OwnState}
use Rattle.local_cache.specs.Arena.{Arena}
use Rattle.local_cache.specs.Own.{own_states}
use Rattle.local_cache.specs.Sound.{IsSound}
use Rattle.residency.specs.declared.store.Store.{Store}
use Rattle.residency.specs.Seeing.{frame_forest}
use Rattle.residency.specs.StoreForest.{store_forest}
use Rattle.residency.specs.World.{is_clean}
use Rattle.tree_merge.specs.declared.released.Released.{Released}
use Rattle.tree_merge.specs.Stepping.{IsDetachedAlone}
use Rattle.tree_merge.proofs.Leaving.Detached.{new_room}
use Rattle.page_commands.specs.Following.{CanFollow}
use Rattle.page_commands.specs.Homes.{IsUnclean, MayGo, cleaned}
use Rattle.page_commands.specs.Steps.{ForAnyMapper, IsStoreTied, IsUnpinned, Releases, fresh_frame, fresh_page, is_fresh}
use Rattle.page_commands.specs.Translating.{DropsFreed}
use Rattle.page_commands.proofs.NamedNodes.Detached.{detach_forest, detach_kept, fresh_in}
use Rattle.page_commands.proofs.NamedNodes.Fresh.{fresh_more}
use Rattle.page_commands.proofs.NodesGone.Elsewhere.{IsFollowed, StaysPut, can_with, followed_with, retired_put}
use Rattle.page_commands.proofs.RetiredPages.OneFollowed.{one_can, one_named, one_retires}
use Rattle.page_commands.proofs.RetiredPages.Parts.{RetiresPage}
use Rattle.page_commands.proofs.SeenFrames.Coming.{detach_frames}

module _ (s : Store) (a b : Arena) (cache : CacheId) (page : PageNo) (state : OwnState) (r : Released) (is : IsDetachedAlone a b cache page state r) (sound : IsSound a) (tied : IsStoreTied s a) (unpinned : IsUnpinned s a (Live cache page)) (may : MayGo a (Live cache page)) where
  put : StaysPut r
  put = retired_put a is.between is.retired.node r is.retired.retired

  pub detached_can : CanFollow s b r
  detached_can = can_with s is.between b r put (one_can s a is.between cache page r is.retired sound tied unpinned may)

  module _ (unclean : is_clean state ≡ false → IsUnclean a (Live cache page)) (fresh : is_fresh a (Live cache page) state ≡ true) (t : Store) (after : IsFollowed s t b r) (tables : DropsFreed s t) where
    retired : RetiresPage (Live cache page) s a t is.between
    retired = one_retires s a is.between cache page r is.retired sound tied unpinned may t (followed_with s t is.between b r put after) tables

    pub detached_kept : Releases (cleaned state (Live cache page)) s a t b
    detached_kept =
        detach_kept s a tied cache page state unclean is.retired.node (one_named s a is.between cache page r is.retired sound tied unpinned may) t is.between r is.retired.retired retired.kept
        is.fresh is.free fresh b is.is is.sound

    pub detached_forest : ForAnyMapper s a t b (λ old new. store_forest new ≡ detach (store_forest old) (Live cache page) (fresh_page old (Live cache page) state))
    detached_forest =
        detach_forest s a tied cache page state unclean is.retired.node (one_named s a is.between cache page r is.retired sound tied unpinned may) t is.between r is.retired.retired retired.kept
        is.fresh is.free fresh b is.is is.sound is.retired.vacant retired.rule.forest

    pub detached_frames : frame_forest b t.map ≡ detach (frame_forest a s.map) (Live cache page) (fresh_frame state)
    detached_frames =
        detach_frames t.map is.between is.retired.sound.kept is.fresh is.free cache page is.retired.vacant state
        (fresh_in a is.between retired.kept.sizes (Live cache page) state fresh) b is.is is.sound.kept.named s.map a retired.rule.frames

    pub detached_room : a.room.nodes ≤ b.room.nodes + 1
    detached_room = omega (arith, retired.room, new_room is.between b is.fresh (Live cache page) state is.is)

    pub detached_more : length (own_states b) ≤ length (own_states a) + 1
    detached_more = omega (arith, retired.fewer, fresh_more is.between b is.fresh is.free (Live cache page) state is.is)
