use Rattle.std.proofs.Common.{◌≡◌, ◌+◌, ◌<◌, ℕ, count_by, take, true, false, sym, ap, ◌∙◌, subst}
use Rattle.vm_ids.specs.Counting.{no_counts}
use Rattle.vm_model.specs.Machine.{locks}
use Rattle.regions.specs.declared.region.RegionView.{RegionView}
use Rattle.local_cache.specs.Arena.{Arena, locks_of}
use Rattle.local_cache.specs.Whole.{size_of}
use Rattle.residency.specs.declared.store.Store.{Store}
use Rattle.segment_ops.specs.Ranges.{HasRange, IsPageOf}
use Rattle.pvm_core.specs.Holding.{HoldsLocked, KeepsPages, LocksMore}
use Rattle.contexts.specs.Placed.{HasItsPages}
use Rattle.pvm_core.proofs.Locking.LockedPages.{keeps_then}
use Rattle.pvm_core.proofs.Locking.Regions.{all_at, next_locked, next_unlocked, pages_locked, placed_range, viewed}
use Rattle.pvm_core.proofs.page_locks.let_all_go.Goals as goal
use Rattle.pvm_core.proofs.page_locks.let_all_go.Goals.{then-view, else-view}

pub let_go-requires-clause-right : goal.let_go-requires-clause-right
let_go-requires-clause-right c =
    let r = c.requires.right in
    (r.0, r.1, (c.loop-place.invariant.pages.alike r.0 r.1 no_counts r.2).right)

pub let_go-requires-clause-whole : goal.let_go-requires-clause-whole
let_go-requires-clause-whole c = let r = c.requires.right in (c.loop-place.invariant.pages.alike r.0 r.1 no_counts r.2).whole

pub let_go-requires-clause-range : goal.let_go-requires-clause-range
let_go-requires-clause-range c =
    let r = c.requires.right in
    let same = (c.loop-place.invariant.pages.alike r.0 r.1 no_counts r.2).same in
    let v = viewed c.args.regions.now.regions c.loop-place.place c.unwrap-view.result (sym c.nth.ensures ∙ c.unwrap-view.ensures) in
    let placed = all_at (HasItsPages (size_of c.args.caches.now)) c.args.regions.now.regions c.loop-place.place v.region c.requires.placed v.here in
    subst (λ (view : RegionView). HasRange c.loop-place.caches view.mapping.extent) v.is (placed_range c.args.caches.now c.loop-place.caches v.region same placed)

pub let_go-requires-clause-locked : goal.let_go-requires-clause-locked
let_go-requires-clause-locked c =
    let v = viewed c.args.regions.now.regions c.loop-place.place c.unwrap-view.result (sym c.nth.ensures ∙ c.unwrap-view.ensures) in
    let locked : v.region.locked ≡ true = ap (λ (view : RegionView). view.locked) v.is ∙ c.if-view.true in
    subst (λ (view : RegionView). (page : ℕ) → IsPageOf view.mapping.extent page → 0 < locks_of c.loop-place.caches view.mapping.extent.cache.0 page) v.is
    (pages_locked c.args.caches.now c.loop-place.caches c.loop-place.caches c.args.regions.now.regions c.loop-place.place v.region v.here c.loop-place.invariant.locks c.requires.locked locked)

pub loop-place-preserved : goal.loop-place-preserved
loop-place-preserved c =
    let i = c.loop-place.invariant in
    let a = c.args.caches.now in
    let b = c.loop-place.caches in
    let s = c.args.store.now in
    let rs = c.args.regions.now.regions in
    let v = viewed rs c.loop-place.place c.unwrap-view.result (sym c.nth.ensures ∙ c.unwrap-view.ensures) in
    elim c.if-view.branch [
      | then-view w ↦ (
          let e = w.let_go.ensures in
          let locked : v.region.locked ≡ true = ap (λ (view : RegionView). view.locked) v.is ∙ w.if-view.true in
          let less = subst (λ (view : RegionView). LocksMore view.mapping.extent w.let_go.new.caches b) (sym v.is) e.locks in
          record {
            pages = subst (λ (d : Arena). KeepsPages a d s c.if-view.store) (sym w.caches-is) (subst (λ (u : Store). KeepsPages a w.let_go.new.caches s u) (sym w.store-is) (keeps_then a b w.let_go.new.caches s c.loop-place.store w.let_go.new.store i.pages e.pages));
            held = subst (λ (d : Arena). HoldsLocked d c.if-view.store) (sym w.caches-is) (subst (λ (u : Store). HoldsLocked w.let_go.new.caches u) (sym w.store-is) e.held);
            locks = subst (λ (d : Arena). (cache page : ℕ) → locks_of a cache page ≡ locks_of d cache page + count_by (locks cache page) (take (c.loop-place.place + 1) rs)) (sym w.caches-is)
                (next_locked a b w.let_go.new.caches rs c.loop-place.place v.region v.here i.locks locked less);
          })
      | else-view w ↦ (
          let free : v.region.locked ≡ false = ap (λ (view : RegionView). view.locked) v.is ∙ w.if-view.false in
          record {
            pages = subst (λ (d : Arena). KeepsPages a d s c.if-view.store) (sym w.caches-is) (subst (λ (u : Store). KeepsPages a b s u) (sym w.store-is) i.pages);
            held = subst (λ (d : Arena). HoldsLocked d c.if-view.store) (sym w.caches-is) (subst (λ (u : Store). HoldsLocked b u) (sym w.store-is) i.held);
            locks = subst (λ (d : Arena). (cache page : ℕ) → locks_of a cache page ≡ locks_of d cache page + count_by (locks cache page) (take (c.loop-place.place + 1) rs)) (sym w.caches-is)
                (next_unlocked a b b rs c.loop-place.place v.region v.here i.locks free);
          })
    ]
