-- Steps after which a manager stands for the machine and the page forest for which it stood: pages
-- were granted, room was reserved, a range was pushed.
use Rattle.std.proofs.Common.{◌≡◌, ◌≤◌, ℕ, Option, sym, ap, subst, ◌∙◌}
use Rattle.vm_ids.specs.Counting.{MapperCounts}
use Rattle.vm_ids.specs.Held.{Held, segments_of}
use Rattle.local_cache.specs.Arena.{Arena}
use Rattle.local_cache.specs.Reading as arena
use Rattle.local_cache.specs.Sound as arena_sound
use Rattle.local_cache.proofs.Tables.Sizes.{sizes_same}
use Rattle.residency.specs.Causes.{Later}
use Rattle.residency.specs.StoreForest.{store_forest}
use Rattle.residency.specs.World.{IsStoreRight, world}
use Rattle.residency.specs.declared.store.Store.{Store}
use Rattle.residency.proofs.Forests.WrittenForest.{store_copies}
use Rattle.contexts.specs.Actors.{Actors}
use Rattle.pvm_core.specs.Writes.{KeepsNodes}
use Rattle.segment_ops.specs.Keeping.{StaysWhole}
use Rattle.pvm_core.specs.Manager.{IsManagerSound, IsValid, Manager, machine_of, world_of}
use Rattle.pvm_core.specs.Saving.{KeepsForest, KeepsMachine}
use Rattle.pvm_core.proofs.Answering.Kept.{seen}
use Rattle.pvm_core.proofs.Answering.Reaching.{reach_none, reach_quiet}
use Rattle.pvm_core.proofs.Answering.Standing.{Stands, stands}
use Rattle.pvm_core.proofs.Homes.Pushed.{values_reached}
use Rattle.pvm_core.proofs.Readiness.Granted.{granted_by, granted_forest, granted_machine, granted_sound, granted_valid}
use Rattle.pvm_core.proofs.Readiness.Readying.{keeps_then}
use Rattle.fault_path.specs.Answers.{IsAnswered}
use Rattle.pvm_core.proofs.Homes.Homed.{reached}
use Rattle.pvm_core.proofs.Spanning.Reserved.{reserved}

-- the manager with these caches, this store and these actors is sound and valid, and keeps what p
-- stands for
pub record Keeps (p : Manager) (b : Arena) (u : Store) (t : Actors) (live : ℕ) (h g : Option Held) (c d : MapperCounts) : Type 0 where
  pub sound : IsManagerSound b u t live
  pub valid : IsValid (seen b u t) g
  pub machine : KeepsMachine p (seen b u t) h g c d
  pub forest : KeepsForest p (seen b u t) h g

-- some pages were granted, and the mapper may have been asked
pub keeps_granted : (a b : Arena) (s : Store) (t : Actors) (live : ℕ) (h g : Option Held) (i j : Option ℕ) (c d : MapperCounts) → IsManagerSound a s t live → KeepsNodes a b → g ≡ h → store_forest (world g j b s) ≡ store_forest (world h i a s) → IsStoreRight (world g j b s) → Later c d
    → IsValid (seen a s t) h → Keeps (seen a s t) b s t live h g c d
keeps_granted a b s t live h g i j c d sound nodes held forest right later valid = record {
  sound = granted_sound a b s t live nodes sound;
  valid = granted_valid a b s t live nodes sound h g i j held forest right valid;
  machine = record {
    machine = granted_machine a b s t live nodes sound h g i j held forest;
    by = granted_by a b s t live nodes sound;
    same = nodes.same;
    made = nodes.made;
    reach = reach_quiet (machine_of (seen a s t) h) h g c d (ap segments_of held) later;
  };
  forest = record { forest = granted_forest a b s t live nodes sound h g i j held forest; copies = nodes.copies };
}

-- and then room was reserved
pub keeps_reserved : (p : Manager) (a b : Arena) (s : Store) (t : Actors) (live : ℕ) (h g : Option Held) (c d : MapperCounts) → Keeps p a s t live h g c d → b ≡ record a { room = b.room } → a.room.nodes ≤ b.room.nodes → arena.forest_of b ≡ arena.forest_of a → arena_sound.IsSound b
    → Keeps p b s t live h g c d
keeps_reserved p a b s t live h g c d k kept no_less forest sound =
    let roomy = reserved a b s t live kept no_less forest sound k.sound in
    record {
      sound = roomy.sound;
      valid = roomy.valid g k.valid;
      machine = keeps_then p (seen a s t) (seen b s t) h g g c d d k.machine (record {
        machine = ap (λ s. s.machine) (roomy.state g);
        by = roomy.by;
        same = sizes_same a b (ap (λ (x : Arena). x.caches) kept);
        made = ap (λ (x : Arena). x.made) kept;
        reach = reach_none (machine_of (seen a s t) g) g d;
      });
      forest = record { forest = roomy.forest g ∙ k.forest.forest; copies = ap (λ (x : Arena). x.copies) kept ∙ k.forest.copies };
    }

-- pages of a range were pushed
module _ (a b : Arena) (s u : Store) (h g : Option Held) (i j : Option ℕ) (t : Actors) (live : ℕ) (sound : IsManagerSound a s t live) (c d : MapperCounts) (stays : StaysWhole (world h i a s) (world g j b u) c d) (forest : store_forest (world g j b u) ≡ store_forest (world h i a s)) (valid : IsValid (seen a s t) h) where
  pub stands_pushed : Stands (seen a s t) b u t live h g c d
  stands_pushed = stands a b s u h g i j stays.kept t live sound c d forest (values_reached (seen a s t) h sound.nodes sound.apart i j b u g c d stays.later stays.told) valid

  pub keeps_pushed : Keeps (seen a s t) b u t live h g c d
  keeps_pushed =
      let k = stands_pushed in
      record {
        sound = k.sound;
        valid = k.valid;
        machine = record { machine = k.machine; by = k.by; same = sizes_same a b stays.kept.nodes.caches; made = stays.kept.made; reach = k.reach };
        forest = record { forest = k.forest; copies = sym (store_copies (world_of (seen b u t) g)) ∙ ap (λ f. f.copies) k.forest ∙ store_copies (world_of (seen a s t) h) };
      }

-- a page was brought in, or wasn't
pub stands_answered : (a b : Arena) (s u : Store) (h g : Option Held) (i j : Option ℕ) (t : Actors) (live : ℕ) → IsManagerSound a s t live → (c d : MapperCounts) → IsAnswered (world h i a s) (world g j b u) c d → store_forest (world g j b u) ≡ store_forest (world h i a s) → IsValid (seen a s t) h → Stands (seen a s t) b u t live h g c d
stands_answered a b s u h g i j t live sound c d answered forest valid = stands a b s u h g i j answered.kept t live sound c d forest (reached (seen a s t) h sound.nodes sound.apart i j b u g c d answered.later answered.told) valid

-- the machine that a manager keeps is that of the manager which is seen
pub keeps_seen : {p r q : Manager} {h g : Option Held} {c d : MapperCounts} → p ≡ r → KeepsMachine p q h g c d → KeepsMachine r q h g c d
keeps_seen {q = q} {h = h} {g = g} {c = c} {d = d} same keeps = subst (λ (p : Manager). KeepsMachine p q h g c d) same keeps
