-- Which nodes come to frames from one moment to a later one.
use Rattle.std.specs.Prelude.{◌≡◌, ℕ, false, Some, ◌⊎◌}
use Rattle.vm_ids.specs.declared.node_name.NodeName.{NodeName}
use Rattle.vm_ids.specs.declared.numbers.NodeId.{NodeId}
use Rattle.vm_ids.specs.Forest.Rules.{heir}
use Rattle.global_map.specs.Pairs.{node_of}
use Rattle.local_cache.specs.Arena.{Arena}
use Rattle.local_cache.specs.Home.{home_of}
use Rattle.local_cache.specs.Own.{own_of}
use Rattle.local_cache.specs.Reading.{forest_of, name_of}
use Rattle.residency.specs.World.{FrameStays, StaysOrLeaves, World}
use Rattle.fault_path.specs.Faults.{is_at_hand}

-- Only these nodes may have come to a frame: each frame with another node had it before, and has
-- the bytes that it had. Each other own state stays, the mark of a dirty page included, or the page
-- left its frame.
pub record OnlyCome (may : NodeId → Type 0) (old new : World) : Type 0 where
  pub frames : (f : ℕ) (n : NodeId) → node_of new.map f ≡ Some n → FrameStays f old new ⊎ may n
  pub states : (n : NodeId)
      → StaysOrLeaves (home_of old.caches n) (own_of old.caches n) (own_of new.caches n) ⊎ may n

-- the page of n is saved for its heir, and m is one of the two
pub record IsOfSave (a : Arena) (n m : NodeId) : Type 0 where
  pub heir_name : NodeName
  pub is_heir : heir (forest_of a) (name_of a n) ≡ Some heir_name
  pub one : (m ≡ n) ⊎ (name_of a m ≡ heir_name)

-- m is n, whose page isn't at hand
abbrev pub IsBroughtIn : Arena → NodeId → NodeId → Type 0
IsBroughtIn a n m = (m ≡ n) × (is_at_hand (own_of a n) ≡ false)

-- The page of n, whose owner is o, is made ready for a write, and m is n, or its heir, or the owner
-- where its page isn't at hand.
abbrev pub IsOfWrite : Arena → NodeId → NodeId → NodeId → Type 0
IsOfWrite a n o m =
    (m ≡ n) ⊎ ((heir (forest_of a) (name_of a n) ≡ Some (name_of a m)) ⊎ IsBroughtIn a o m)
