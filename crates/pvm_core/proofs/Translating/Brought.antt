-- Translations stay right where a page is brought in.
use Rattle.std.proofs.Common.{ℕ, Option}
use Rattle.vm_ids.specs.Held.{Held}
use Rattle.vm_ids.specs.declared.numbers.NodeId.{NodeId}
use Rattle.local_cache.specs.Arena.{Arena}
use Rattle.residency.specs.declared.store.Store.{Store}
use Rattle.residency.specs.Translating.{TablesAfter}
use Rattle.residency.specs.World.{IsTied, OthersStayBut, Still, world}
use Rattle.residency.proofs.Translations.Kept.{still_drops_but}
use Rattle.pvm_core.specs.Translated.{KeepsTranslations}
use Rattle.pvm_core.proofs.Translating.Dropped.{dropped_right}
use Rattle.pvm_core.proofs.Translating.Writable.{still_writable}

pub brought_right : (told now : Option Held) (size then : Option ℕ) (a b : Arena) (s t : Store) (n : NodeId) → IsTied (world told size a s) → Still (world told size a s) (world now then b t) → TablesAfter s t → OthersStayBut n (world told size a s) (world now then b t)
    → KeepsTranslations a b s t
brought_right told now size then a b s t n tied still tables others u = dropped_right _ a b s t u (still_drops_but told now size then a b s t tied still.stays tables n others) (still_writable a b still.stays.caches)
