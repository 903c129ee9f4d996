use Rattle.std.proofs.Common.{◌≡◌, ◌≤◌, ◌-◌, Some, drop, length}
use Rattle.std.specs.Prelude.{slice_get}
use Rattle.std.specs.List.{position_from}
use Rattle.seg_manager.specs.Inner.{first_with}
use Rattle.seg_manager.specs.declared.tables.Named.{Named}
use Rattle.seg_manager.proofs.named_caches.place_with.Given as goal

-- none before it has the number, and what stands at the end has no lesser one
abbrev pub invariant-loop-first : goal.invariant-loop-first
invariant-loop-first l =
    record {
      ordered : l.first ≤ l.end;
      within : l.end ≤ length l.caches;
      below : position_from (first_with l.cache.0) 0 l.caches ≡ position_from (first_with l.cache.0) l.first (drop l.first l.caches);
      above : (d : Named) → slice_get l.caches l.end ≡ Some d → l.cache.0 ≤ d.cache.0;
    }

abbrev pub decreases-loop-first : goal.decreases-loop-first
decreases-loop-first l = l.end - l.first
