-- The steps of settle, one after the other.
use Rattle.std.proofs.Common.{◌≡◌, ℕ, ◌+◌, ◌<◌, ◌≤◌, Option, sym, ap, ◌∙◌, subst, arith}
use Rattle.vm_ids.specs.Held.{Held}
use Rattle.vm_ids.specs.declared.node_name.NodeName.{NodeName}
use Rattle.vm_ids.specs.Forest.NameMap.{len}
use Rattle.vm_ids.specs.Forest.Settling.{settle}
use Rattle.vm_ids.specs.Forest.Shape.{IsConsistent}
use Rattle.vm_ids.specs.Forest.Laws.Settling.{IsSettled}
use Rattle.vm_ids.proofs.Forest.Laws.Settling.{settle_by_steps, settle_ends, settled_has_nothing_thin, step-consistent, step-len}
use Rattle.local_cache.specs.Arena.{Arena}
use Rattle.local_cache.specs.Reading.{forest_of, name_of}
use Rattle.local_cache.specs.Sound.{IsSound}
use Rattle.residency.specs.declared.store.Store.{Store}
use Rattle.residency.specs.Seeing.{frame_forest}
use Rattle.residency.specs.StoreForest.{store_forest}
use Rattle.residency.specs.World.{world}
use Rattle.page_commands.specs.Steps.{AreSettleSteps, ForAnyMapper}
use Rattle.page_commands.proofs.NodesGone.Merged.{IsSettleStep}
use Rattle.page_commands.proofs.SeenFrames.Shape.{frame_consistent, frame_thin}
use Rattle.page_commands.proofs.TiedStores.Shape.{store_consistent, store_thin}

-- One step of settle
module _ (s : Store) (a : Arena) (t : Store) (b : Arena) (sound : IsSound a) (consistent : IsConsistent (forest_of a)) (is : IsSettleStep s a t b) where
  abbrev w : NodeName
  w = name_of a is.merged.node

  step_fewer : len (forest_of b).nodes < len (forest_of a).nodes
  step_fewer = subst (λ g. len g.nodes < len (forest_of a).nodes) (sym is.merged.forest) (step-len (forest_of a) w consistent is.merged.least)

  step_nodes : settle (forest_of b) ≡ settle (forest_of a)
  step_nodes = ap settle is.merged.forest ∙ sym (settle_by_steps (forest_of a) w consistent is.merged.least)

  step_consistent : IsConsistent (forest_of b)
  step_consistent = subst IsConsistent (sym is.merged.forest) (step-consistent (forest_of a) w consistent is.merged.least)

  step_room : a.room.nodes ≤ b.room.nodes
  step_room = let more : b.room.nodes ≡ a.room.nodes + 1 = ap (λ k. k.nodes) is.merged.gone.room in omega arith

  step_forest : ForAnyMapper s a t b (λ old new. settle (store_forest new) ≡ settle (store_forest old))
  step_forest told size fit =
      let f = store_forest (world told size a s) in
      ap settle (is.forest told size fit)
      ∙ sym (settle_by_steps f w (store_consistent (world told size a s) sound consistent) (sym (store_thin (world told size a s) sound) ∙ is.merged.least))

  step_frames : settle (frame_forest b t.map) ≡ settle (frame_forest a s.map)
  step_frames =
      let f = frame_forest a s.map in
      ap settle is.frames ∙ sym (settle_by_steps f w (frame_consistent a s.map sound consistent) (sym (frame_thin a s.map sound) ∙ is.merged.least))

  pub one_step : AreSettleSteps s a t b
  one_step = record {
    nodes = step_nodes;
    forest = step_forest;
    frames = step_frames;
    consistent = step_consistent;
    counters = (is.merged.gone.made, is.merged.gone.copies);
    room = step_room;
    fewer = step_fewer;
  }

-- Nothing is thin
module _ (s : Store) (a : Arena) (sound : IsSound a) (settled : IsSettled (forest_of a)) where
  pub end_nodes : settle (forest_of a) ≡ forest_of a
  end_nodes = settle_ends (forest_of a) (settled_has_nothing_thin (forest_of a) settled)

  pub end_forest : (told : Option Held) (size : Option ℕ) → settle (store_forest (world told size a s)) ≡ store_forest (world told size a s)
  end_forest told size = settle_ends (store_forest (world told size a s)) (sym (store_thin (world told size a s) sound) ∙ settled_has_nothing_thin (forest_of a) settled)

  pub end_frames : settle (frame_forest a s.map) ≡ frame_forest a s.map
  end_frames = settle_ends (frame_forest a s.map) (sym (frame_thin a s.map sound) ∙ settled_has_nothing_thin (forest_of a) settled)
