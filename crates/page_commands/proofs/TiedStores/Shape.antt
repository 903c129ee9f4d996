-- Without its pages the forest of a store is that of the own states: the same nodes are thin, and
-- the same pages can be copied.
use Rattle.std.proofs.Common.{◌≡◌, false, List, sym, ap, ◌∙◌}
use Rattle.vm_ids.specs.declared.node_name.NodeName.{NodeName}
use Rattle.vm_ids.specs.Forest.Nodes.{Forest, IsNode}
use Rattle.vm_ids.specs.Forest.PageMap.{bare, no_page}
use Rattle.vm_ids.specs.Forest.Saving.{is_unsaved}
use Rattle.vm_ids.proofs.Forest.Laws.PageMap.{is_unsaved-map}
use Rattle.vm_ids.specs.Forest.Commands.{firsts}
use Rattle.vm_ids.specs.Forest.Laws.Commands.{ArePagesOnce, CanCopy}
use Rattle.vm_ids.specs.Forest.Settling.{thin}
use Rattle.vm_ids.specs.Forest.Shape.{IsConsistent}
use Rattle.vm_ids.proofs.Forest.BareThin.{bare-IsNode, bare-consistent, bare-thin}
use Rattle.local_cache.specs.Reading.{forest_of}
use Rattle.local_cache.specs.Sound.{IsSound}
use Rattle.local_cache.proofs.Forest.ReadingBy.{bare-of}
use Rattle.residency.specs.StoreForest.{store_forest}
use Rattle.residency.specs.World.{World, own_page}
use Rattle.residency.proofs.Worlds.Telling.{tells}

-- Two forests with the same bare form
module _ {P Q : Type 0} (f : Forest P) (g : Forest Q) (same : bare f ≡ bare g) where
  pub like_IsNode : (x : NodeName) → IsNode f x → IsNode g x
  like_IsNode x is = sym (bare-IsNode f g same x) ∙ is

  pub like_pages : (xs : List NodeName) → ArePagesOnce f xs → ArePagesOnce g xs
  like_pages xs pages = record {
    once = pages.once;
    live = λ x i. (like_IsNode x (pages.live x i).0, (pages.live x i).1);
  }

  pub like_can : (pairs : List (NodeName × NodeName)) → CanCopy f pairs → CanCopy g pairs
  like_can pairs can = record {
    destinations = like_pages (firsts pairs) can.destinations;
    sources = λ x i. (like_IsNode x (can.sources x i).0, (can.sources x i).1, (can.sources x i).2);
  }

  pub like_saved : (x : NodeName) → is_unsaved f x ≡ false → is_unsaved g x ≡ false
  like_saved x saved = sym (is_unsaved-map no_page g x) ∙ sym (ap (λ k. is_unsaved k x) same) ∙ is_unsaved-map no_page f x ∙ saved

-- The forest of a store

-- without its pages it is that of the own states
pub store_bare : (w : World) → IsSound w.caches → bare (forest_of w.caches) ≡ bare (store_forest w)
unfolding store_forest
store_bare w sound = sym (bare-of (own_page w) w.caches sound.kept.named (tells w))

pub store_consistent : (w : World) → IsSound w.caches → IsConsistent (forest_of w.caches) → IsConsistent (store_forest w)
store_consistent w sound c = bare-consistent (forest_of w.caches) (store_forest w) (store_bare w sound) c

pub store_thin : (w : World) → IsSound w.caches → thin (forest_of w.caches) ≡ thin (store_forest w)
store_thin w sound = bare-thin (forest_of w.caches) (store_forest w) (store_bare w sound)

pub store_pages : (w : World) → IsSound w.caches → (xs : List NodeName) → ArePagesOnce (forest_of w.caches) xs → ArePagesOnce (store_forest w) xs
store_pages w sound = like_pages (forest_of w.caches) (store_forest w) (store_bare w sound)

pub store_can : (w : World) → IsSound w.caches → (pairs : List (NodeName × NodeName)) → CanCopy (forest_of w.caches) pairs → CanCopy (store_forest w) pairs
store_can w sound = like_can (forest_of w.caches) (store_forest w) (store_bare w sound)

pub store_saved : (w : World) → IsSound w.caches → (x : NodeName) → is_unsaved (forest_of w.caches) x ≡ false → is_unsaved (store_forest w) x ≡ false
store_saved w sound = like_saved (forest_of w.caches) (store_forest w) (store_bare w sound)
