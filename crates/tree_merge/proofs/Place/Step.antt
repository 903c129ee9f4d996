-- A step that changes links and lists alone, by the forest that it leaves.
use Rattle.std.proofs.Common.{◌≡◌}
use Rattle.vm_ids.specs.Forest.Nodes.{Forest}
use Rattle.local_cache.specs.declared.own_state.OwnState.{OwnState}
use Rattle.local_cache.specs.Arena.{Arena}
use Rattle.local_cache.specs.Changes.{Rehung}
use Rattle.local_cache.specs.Reading.{forest_of}
use Rattle.local_cache.specs.Sound.{IsSound}

-- b is a after a step that reads as the forest g
pub record Step (a b : Arena) (g : Forest OwnState) : Type 0 where
  pub forest : forest_of b ≡ g
  pub sound : IsSound b
  pub rehung : Rehung a b
