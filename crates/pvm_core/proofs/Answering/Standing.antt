-- What a manager stands for stays, while the mapper may be reached: its page forest, and with it
-- its machine.
use Rattle.std.proofs.Common.{◌≡◌, ℕ, Option}
use Rattle.vm_ids.specs.Counting.{MapperCounts}
use Rattle.vm_ids.specs.Held.{Held}
use Rattle.local_cache.specs.Arena.{Arena}
use Rattle.residency.specs.declared.store.Store.{Store}
use Rattle.residency.specs.StoreForest.{store_forest}
use Rattle.residency.specs.World.{world}
use Rattle.fault_path.specs.Faults.{Kept}
use Rattle.vm_model.specs.PageForest.{PageForest}
use Rattle.contexts.specs.Actors.{Actors}
use Rattle.pvm_core.specs.Manager.{IsManagerSound, IsValid, Manager, forest_of, machine_by, machine_of}
use Rattle.pvm_core.specs.Reaching.{Reach}
use Rattle.pvm_core.proofs.Answering.Kept.{kept_by, kept_forest, kept_machine, kept_sound, kept_valid, seen}

-- the manager with these caches, this store and these actors stands for what p does
pub record Stands (p : Manager) (b : Arena) (u : Store) (t : Actors) (live : ℕ) (h g : Option Held) (c d : MapperCounts) : Type 0 where
  pub sound : IsManagerSound b u t live
  pub valid : IsValid (seen b u t) g
  pub forest : forest_of (seen b u t) g ≡ forest_of p h
  pub machine : machine_of (seen b u t) g ≡ machine_of p h
  pub by : (f : PageForest) → machine_by (seen b u t) f ≡ machine_by p f
  pub reach : Reach (machine_of p h) h g c d

pub stands : (a b : Arena) (s u : Store) (h g : Option Held) (i j : Option ℕ) → Kept (world h i a s) (world g j b u) → (t : Actors) (live : ℕ) → IsManagerSound a s t live → (c d : MapperCounts) → store_forest (world g j b u) ≡ store_forest (world h i a s) → Reach (machine_of (seen a s t) h) h g c d
    → IsValid (seen a s t) h → Stands (seen a s t) b u t live h g c d
stands a b s u h g i j k t live sound c d forest reach valid = record {
  sound = kept_sound a b s u h g i j k t live sound valid.right.tied.placed.bound;
  valid = kept_valid a b s u h g i j k t forest c d reach valid;
  forest = kept_forest a b s u h g i j k t forest;
  machine = kept_machine a b s u h g i j k t forest;
  by = kept_by a b s u h g i j k t;
  reach = reach;
}
