-- A range of a named cache, in a world in which every page is still.
use Rattle.std.proofs.Common.{◌≡◌, ℕ, ◌+◌, ◌<◌, ◌≤◌, Some, is_some, sym, ap, ◌∙◌, arith}
use Rattle.std.specs.Option.{IsSome}
use Rattle.vm_ids.specs.declared.command.Extent.{Extent}
use Rattle.vm_ids.specs.declared.numbers.NodeId.{NodeId}
use Rattle.vm_ids.specs.Forest.Shape.{IsWellShaped}
use Rattle.local_cache.specs.Arena.{node_at}
use Rattle.local_cache.specs.Changes.{Like}
use Rattle.local_cache.specs.Home.{home_of}
use Rattle.local_cache.specs.Reading.{forest_of}
use Rattle.local_cache.specs.Sound.{IsSound}
use Rattle.local_cache.specs.Whole.{IsWhole}
use Rattle.local_cache.proofs.Tables.Sizes.{sizes_same}
use Rattle.residency.specs.World.{Still, World}
use Rattle.residency.proofs.Forests.StillForest.{still_caches_sound, still_like}
use Rattle.fault_path.proofs.Calls.Kept.{still_shaped}
use Rattle.segment_ops.specs.Ranges.{HasRange, IsNamed}
use Rattle.segment_ops.specs.Translating.{IsReadBy}
use Rattle.segment_ops.proofs.Dropped.{owner_before}
use Rattle.segment_ops.proofs.Granting.{range_home}
use Rattle.segment_ops.proofs.SyncedPages.{same_node}
use Rattle.segment_ops.proofs.Unsaved.{range_node}

module _ {old w : World} (still : Still old w) (whole : IsWhole old.caches) where
  pub now_sound : IsSound w.caches
  now_sound = still_caches_sound old w still whole.sound

  pub now_shaped : IsWellShaped (forest_of w.caches)
  now_shaped = still_shaped old w still whole.sound whole.consistent.shaped

  module _ (range : Extent) where
    like : Like old.caches w.caches
    like = still_like old.caches w.caches still.stays.caches

    -- a page's node was its node before
    pub node_first : (page : ℕ) (n : NodeId) → node_at w.caches range.cache.0 page ≡ Some n → node_at old.caches range.cache.0 page ≡ Some n
    node_first page n at = sym (same_node old.caches w.caches like range.cache.0 page) ∙ at

    -- whoever owns a page of the rest of the range owned one of the range
    pub read_first : (at left : ℕ) → range.first.0 ≤ at → at + left ≤ range.first.0 + range.pages → (o : NodeId) → IsReadBy w.caches (record range { first = record { 0 = at }; pages = left }) o → IsReadBy old.caches range o
    read_first at left from few o read =
        let page = read.1.0 in
        (read.0, (read.1.0, (omega (arith, from, read.1.1.0), omega (arith, few, read.1.1.1)), node_first read.1.0 read.0 read.1.2), owner_before old w still whole.sound read.0 o read.2)

    pub now_there : HasRange old.caches range → (page : ℕ) → page < range.first.0 + range.pages → IsSome (node_at w.caches range.cache.0 page)
    now_there here page below = ap is_some (same_node old.caches w.caches like range.cache.0 page) ∙ range_node old.caches whole range here page below

    module _ (named : IsNamed old.caches range) where
      pub now_named : IsNamed w.caches range
      now_named = (named.0, (sizes_same old.caches w.caches like.caches).segments range.cache.0 ∙ named.1)
