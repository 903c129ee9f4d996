-- One rule on the page forest, in its three readings: with own states, with pages, with frames.
use Rattle.std.specs.Prelude.{◌≡◌, ℕ, List, map, Option, None}
use Rattle.vm_ids.specs.declared.node_name.NodeName.{NodeName}
use Rattle.vm_ids.specs.Forest.Nodes.{Forest}
use Rattle.local_cache.specs.declared.own_state.OwnState.{OwnState}
use Rattle.local_cache.specs.declared.own_state.OwnState.TheVariants.{Zero, OnSegment}
use Rattle.local_cache.specs.Arena.{Arena}
use Rattle.local_cache.specs.Reading.{forest_of}
use Rattle.residency.specs.declared.store.Store.{Store}
use Rattle.residency.specs.Seeing.{frame_forest}
use Rattle.residency.specs.StoreForest.{store_forest}
use Rattle.residency.specs.World.{World}
use Rattle.page_commands.specs.Homes.{named_page}
use Rattle.page_commands.specs.Steps.{ForAnyMapper, zeros_told}

-- The pages that a rule may put into a forest: one of zeros, and that which the segment of the page
-- of a name holds.
pub record NewPages (P : Type 0) : Type 0 where
  pub zeros : P
  pub held : NodeName → P

-- each page of a list with the one that its segment holds
abbrev pub held_pages : {P : Type 0} → NewPages P → List NodeName → List (NodeName × P)
held_pages put names = map (λ x. (x, put.held x)) names

-- their own states
abbrev pub new_states : NewPages OwnState
new_states = record { zeros = Zero; held = λ x. OnSegment }

-- the pages themselves, where the mapper tells what pages hold
abbrev pub new_pages : World → NewPages (Option (List ℕ))
new_pages w = record { zeros = zeros_told w; held = named_page w }

-- their frames: none
abbrev pub new_frames : NewPages (Option ℕ)
new_frames = record { zeros = None; held = λ x. None }

-- From before to after all three readings of the forest went by one rule.
--     nodes    that of own states
--     forest   that of pages, whatever the mapper holds
--     frames   that of frames
pub record GoesBy (rule : (P : Type 0) → NewPages P → Forest P → Forest P) (s : Store) (a : Arena)
    (t : Store) (b : Arena) : Type 0 where
  pub nodes : forest_of b ≡ rule OwnState new_states (forest_of a)
  pub forest : ForAnyMapper s a t b
      (λ old new. store_forest new ≡ rule (Option (List ℕ)) (new_pages old) (store_forest old))
  pub frames : frame_forest b t.map ≡ rule (Option ℕ) new_frames (frame_forest a s.map)
