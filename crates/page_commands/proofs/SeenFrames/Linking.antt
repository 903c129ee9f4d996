-- A fresh node is linked to its source, and every page is in the frame that it was in.
use Rattle.std.proofs.Common.{◌≡◌, ◌⊎◌, ◌+◌, List, Option, refl, ◌∙◌}
use Rattle.vm_ids.specs.declared.node_name.NodeName.{NodeName}
use Rattle.vm_ids.specs.declared.node_name.NodeName.TheVariants.{Working}
use Rattle.vm_ids.specs.declared.numbers.NodeId.{NodeId}
use Rattle.vm_ids.specs.Forest.Nodes.{IsNode}
use Rattle.vm_ids.specs.Forest.Rules.{link, stub}
use Rattle.history_tree.specs.Hanging.{IsGrown}
use Rattle.history_tree.proofs.OtherPages.{link-by}
use Rattle.local_cache.specs.Arena.{Arena}
use Rattle.local_cache.specs.Changes.{Relinked}
use Rattle.local_cache.specs.Reading.{forest_of}
use Rattle.local_cache.specs.ReadingBy.{forest_by}
use Rattle.local_cache.specs.Sound.{IsSound}
use Rattle.page_stubs.proofs.Rules.OtherPages.{stub-by}
use Rattle.residency.specs.Seeing.{frame_forest, own_frame}
use Rattle.page_commands.proofs.SeenFrames.OwnFrames.{frame_as, frame_tells}
use Rattle.page_commands.proofs.LinkedNodes.Grown.{grown_own}

-- by a stub link
pub stubbed_frames : (a b : Arena) → Relinked a b → (map : List (Option NodeId)) → IsSound a → (d o : NodeName) → forest_of b ≡ stub (forest_of a) d o → frame_forest b map ≡ stub (frame_forest a map) d o
unfolding frame_forest
stubbed_frames a b links map sound d o forest =
    (λ i. forest_by (λ m. frame_as a b map map m m (links.own m) (λ r. refl) i) b) ∙ stub-by (own_frame a map) a b sound.kept.named (frame_tells a map) links d o forest

-- by a tree link
pub linked_frames : (a b : Arena) → IsSound a → IsSound b → IsGrown a b → (d o : NodeName) → forest_of b ≡ link (forest_of a) d o → ((y : NodeName) → IsNode (link (forest_of a) d o) y → IsNode (forest_of a) y ⊎ (y ≡ Working (a.made + 1))) → (map : List (Option NodeId)) → frame_forest b map ≡ link (frame_forest a map) d o
unfolding frame_forest
linked_frames a b sound after grown d o forest few map =
    link-by a b sound.kept.named after.kept.named grown d o forest (own_frame a map) (own_frame b map) (frame_tells a map) (frame_tells b map) (λ n h. frame_as a b map map n n (grown_own a b sound after grown d o forest few n) (λ r. refl))
