-- More room was made for nodes and slots: the manager is sound still, and stands for what it did.
use Rattle.std.proofs.Common.{◌≡◌, ℕ, ◌≤◌, ◌++◌, false, replicate, Option, Some}
use Rattle.vm_ids.specs.Held.{Held, segments_of}
use Rattle.local_cache.specs.Arena.{Arena}
use Rattle.local_cache.specs.Reading as arena
use Rattle.local_cache.specs.Sound as arena_sound
use Rattle.residency.specs.declared.store.Store.{Store}
use Rattle.vm_model.specs.PageForest.{PageForest}
use Rattle.contexts.specs.Actors.{Actors}
use Rattle.pvm_core.specs.Manager.{IsManagerSound, IsValid, forest_of, machine_by, state_at}
use Rattle.pvm_core.proofs.NewCaches.Begun.{roomy_by, roomy_forest, roomy_machine, roomy_sound, roomy_valid}
use Rattle.pvm_core.proofs.Answering.Kept.{seen}

-- a manager with the caches a and the store s has b and u in place of them
pub record IsRoomy (a b : Arena) (s u : Store) (t : Actors) (live : ℕ) : Type 0 where
  pub sound : IsManagerSound b u t live
  pub valid : (h : Option Held) → IsValid (seen a s t) h → IsValid (seen b u t) h
  pub forest : (h : Option Held) → forest_of (seen b u t) h ≡ forest_of (seen a s t) h
  pub state : (h : Option Held) → state_at (seen b u t) h ≡ state_at (seen a s t) h
  pub by : (f : PageForest) → machine_by (seen b u t) f ≡ machine_by (seen a s t) f

pub roomy : (a b : Arena) (s u : Store) (t : Actors) (live : ℕ) → b ≡ record a { room = b.room } → u ≡ record s { slots = u.slots } → (k : ℕ) × (u.slots ≡ s.slots ++ replicate k false) → a.room.nodes ≤ b.room.nodes → arena.forest_of b ≡ arena.forest_of a
    → arena_sound.IsSound b → IsManagerSound a s t live → IsRoomy a b s u t live
roomy a b s u t live room slots more no_less forest sound i = record {
  sound = roomy_sound a b s u t live room slots more no_less forest sound i;
  valid = roomy_valid a b s u t live room slots more no_less forest sound i;
  forest = roomy_forest a b s u t live room slots more no_less forest sound i;
  state = λ h j. record {
    machine = roomy_machine a b s u t live room slots more no_less forest sound i h j;
    forest = Some (roomy_forest a b s u t live room slots more no_less forest sound i h j);
    segments = segments_of h;
  };
  by = roomy_by a b s u t live room slots more no_less forest sound i;
}
