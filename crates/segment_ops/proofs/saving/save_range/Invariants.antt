use Rattle.std.proofs.Common.{◌≡◌, ℕ, ◌+◌, ◌*◌, ◌-◌, ◌≤◌, ◌<◌, ◌^◌, true, false, Err}
use Rattle.vm_ids.specs.Forest.Commands.{extent_names, page_name}
use Rattle.vm_ids.specs.Forest.NameMap.{len}
use Rattle.vm_ids.specs.Forest.Saving.{is_unsaved, saves}
use Rattle.vm_ids.specs.declared.numbers.NodeId.{NodeId}
use Rattle.local_cache.specs.Own.{is_absent, own_of}
use Rattle.local_cache.specs.Reading.{forest_of}
use Rattle.residency.specs.Between.{world_at}
use Rattle.residency.specs.StoreForest.{store_forest}
use Rattle.residency.specs.Translating.{Drops}
use Rattle.residency.specs.World.{World}
use Rattle.segment_ops.specs.Keeping.{StaysWhole}
use Rattle.fault_path.specs.Coming.{OnlyCome}
use Rattle.segment_ops.specs.Saving.{AreSavedNow, IsOfSaves}
use Rattle.segment_ops.specs.Translating.{IsSavedOrAbsent}
use Rattle.segment_ops.proofs.saving.save_range.Given as goal

abbrev pub invariant-loop-page : goal.invariant-loop-page
invariant-loop-page g l =
    let M = g.M.Mapper in
    let old : World = world_at M l.fn.mapper l.fn.caches l.fn.store in
    let now : World = world_at M l.mapper l.caches l.store in
    record {
      stays : StaysWhole old now (M.counts l.fn.mapper) (M.counts l.mapper);
      forest : store_forest now ≡ saves l.done (extent_names l.range) (store_forest old);
      saved : (p : ℕ) → l.range.first.0 ≤ p → p < l.page → is_unsaved (store_forest now) (page_name l.range.cache p) ≡ false;
      absent : (n : NodeId) → is_absent (own_of l.caches n) ≡ true → is_absent (own_of l.fn.caches n) ≡ true;
      drops : Drops (IsSavedOrAbsent l.fn.caches l.range) l.fn.caches l.fn.store l.caches l.store;
      frames : OnlyCome (IsOfSaves {T = ℕ} (Err l.done) (extent_names l.range) old) old now;
      first : l.range.first.0 ≤ l.page;
      end : l.page ≤ l.range.first.0 + l.range.pages;
      done : l.done ≤ len (forest_of l.fn.caches).nodes;
      copies : l.caches.copies ≡ l.fn.caches.copies + l.done;
      idle : AreSavedNow l.fn.caches (extent_names l.range) → (l.store ≡ l.fn.store) × (l.caches ≡ l.fn.caches) × (l.mapper ≡ l.fn.mapper) × (l.chooser ≡ l.fn.chooser);
    }

abbrev pub decreases-loop-page : goal.decreases-loop-page
decreases-loop-page g l = (len (forest_of l.fn.caches).nodes - l.done) * 2 ^ 33 + (l.end - l.page)
