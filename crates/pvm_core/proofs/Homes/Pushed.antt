-- Pushes of what nodes read to their homes are those that the machine may make.
use Rattle.std.proofs.Common.{◌≡◌, ℕ, Option, Some, None, ap, ◌∙◌}
use Rattle.std.specs.Prelude.{IfSome}
use Rattle.vm_ids.specs.Counting.{MapperCounts}
use Rattle.vm_ids.specs.Held.{Held}
use Rattle.vm_ids.specs.declared.numbers.NodeId.{NodeId}
use Rattle.vm_ids.specs.Forest.Reading.{value_of}
use Rattle.local_cache.specs.Arena.{Arena}
use Rattle.local_cache.specs.Reading.{name_of}
use Rattle.local_cache.specs.Whole.{IsWhole}
use Rattle.residency.specs.declared.store.Store.{Store}
use Rattle.residency.specs.Causes.{Later}
use Rattle.residency.specs.Pushing.{told_bytes}
use Rattle.residency.specs.World.{world}
use Rattle.segment_ops.specs.Pushing.{MayPushValue, TellsValues, value_at}
use Rattle.pvm_core.specs.Manager.{AreApart, Manager, forest_of, machine_of, shown}
use Rattle.pvm_core.proofs.Homes.Homed.{IsValue, pages_reached, shown_told}
use Rattle.pvm_core.proofs.Answering.Kept.{sizeless}
use Rattle.pvm_core.specs.Reaching.{Reach}

module _ (p : Manager) (h : Option Held) (nodes : IsWhole p.caches) (apart : AreApart p.caches) (i : Option ℕ) where
  valued : (n : NodeId) → IsValue p h nodes apart (value_at (world h i p.caches p.store)) n
  valued n = by_told h (shown_told (value_at (world h i p.caches p.store) n) ∙ ap (λ f. shown (value_of f (name_of p.caches n))) (sizeless h i p.caches p.store))
    where
      by_told : (g : Option Held) → told_bytes (value_at (world h i p.caches p.store) n) ≡ shown (value_of (forest_of p h) (name_of p.caches n)) → IfSome g (λ _. told_bytes (value_at (world h i p.caches p.store) n) ≡ shown (value_of (forest_of p h) (name_of p.caches n)))
      by_told None e = tt
      by_told (Some g) e = e

  -- what a call pushed whose pushes are of what nodes read
  pub values_reached : (j : Option ℕ) (b : Arena) (s : Store) (g : Option Held) (c d : MapperCounts) → Later c d → TellsValues (world h i p.caches p.store) (world g j b s) c d → Reach (machine_of p h) h g c d
  values_reached j b s g c d =
      pages_reached p h nodes apart (value_at (world h i p.caches p.store)) (MayPushValue (world h i p.caches p.store)) i j b s g c d (λ n may. (may, valued n))
