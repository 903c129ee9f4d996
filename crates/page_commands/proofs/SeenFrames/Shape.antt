-- Without its pages the forest of frames is that of the own states.
use Rattle.std.proofs.Common.{◌≡◌, false, List, Option, sym}
use Rattle.vm_ids.specs.declared.node_name.NodeName.{NodeName}
use Rattle.vm_ids.specs.declared.numbers.NodeId.{NodeId}
use Rattle.vm_ids.specs.Forest.PageMap.{bare}
use Rattle.vm_ids.specs.Forest.Saving.{is_unsaved}
use Rattle.vm_ids.specs.Forest.Laws.Commands.{ArePagesOnce, CanCopy}
use Rattle.vm_ids.specs.Forest.Settling.{thin}
use Rattle.vm_ids.specs.Forest.Shape.{IsConsistent}
use Rattle.vm_ids.proofs.Forest.BareThin.{bare-consistent, bare-thin}
use Rattle.local_cache.specs.Arena.{Arena}
use Rattle.local_cache.specs.Reading.{forest_of}
use Rattle.local_cache.specs.Sound.{IsSound}
use Rattle.local_cache.proofs.Forest.ReadingBy.{bare-of}
use Rattle.residency.specs.Seeing.{frame_forest, own_frame}
use Rattle.page_commands.proofs.SeenFrames.OwnFrames.{frame_tells}
use Rattle.page_commands.proofs.TiedStores.Shape.{like_can, like_pages, like_saved}

module _ (a : Arena) (map : List (Option NodeId)) (sound : IsSound a) where
  pub frame_bare : bare (forest_of a) ≡ bare (frame_forest a map)
  unfolding frame_forest
  frame_bare = sym (bare-of (own_frame a map) a sound.kept.named (frame_tells a map))

  pub frame_consistent : IsConsistent (forest_of a) → IsConsistent (frame_forest a map)
  frame_consistent c = bare-consistent (forest_of a) (frame_forest a map) frame_bare c

  pub frame_thin : thin (forest_of a) ≡ thin (frame_forest a map)
  frame_thin = bare-thin (forest_of a) (frame_forest a map) frame_bare

  pub frame_pages : (xs : List NodeName) → ArePagesOnce (forest_of a) xs → ArePagesOnce (frame_forest a map) xs
  frame_pages = like_pages (forest_of a) (frame_forest a map) frame_bare

  pub frame_can : (pairs : List (NodeName × NodeName)) → CanCopy (forest_of a) pairs → CanCopy (frame_forest a map) pairs
  frame_can = like_can (forest_of a) (frame_forest a map) frame_bare

  pub frame_saved : (x : NodeName) → is_unsaved (forest_of a) x ≡ false → is_unsaved (frame_forest a map) x ≡ false
  frame_saved = like_saved (forest_of a) (frame_forest a map) frame_bare
