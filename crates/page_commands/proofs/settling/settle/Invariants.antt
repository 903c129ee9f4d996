use Rattle.std.proofs.Common.{◌≡◌, ◌≤◌, [], length}
use Rattle.vm_ids.specs.Forest.NameMap.{len}
use Rattle.vm_ids.specs.Forest.Settling.{settle as rule_settle}
use Rattle.vm_ids.specs.Forest.Shape.{IsConsistent}
use Rattle.local_cache.specs.Own.{own_states}
use Rattle.local_cache.specs.Reading.{forest_of}
use Rattle.residency.specs.Seeing.{frame_forest}
use Rattle.residency.specs.StoreForest.{store_forest}
use Rattle.page_commands.specs.Steps.{ForAnyMapper, IsWorkingUnpinned, Releases}
use Rattle.page_commands.proofs.settling.settle.Given as goal

abbrev pub invariant-loop : goal.invariant-loop
invariant-loop l = record {
  nodes : rule_settle (forest_of l.caches) ≡ rule_settle (forest_of l.fn.caches);
  forest : ForAnyMapper l.fn.store l.fn.caches l.store l.caches (λ old new. rule_settle (store_forest new) ≡ rule_settle (store_forest old));
  frames : rule_settle (frame_forest l.caches l.store.map) ≡ rule_settle (frame_forest l.fn.caches l.fn.store.map);
  kept : Releases [] l.fn.store l.fn.caches l.store l.caches;
  consistent : IsConsistent (forest_of l.caches);
  unpinned : IsWorkingUnpinned l.store l.caches;
  made : l.caches.made ≡ l.fn.caches.made;
  copies : l.caches.copies ≡ l.fn.caches.copies;
  room : l.fn.caches.room.nodes ≤ l.caches.room.nodes;
  fewer : length (own_states l.caches) ≤ length (own_states l.fn.caches);
}

abbrev pub decreases-loop : goal.decreases-loop
decreases-loop l = len (forest_of l.caches).nodes
