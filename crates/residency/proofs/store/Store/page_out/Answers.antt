use Rattle.std.proofs.Common.{rules, refl, arith, ◌≡◌, ◌≤◌, ◌<◌, ◌+◌, ap, ◌∙◌, sym, List, Bool, false, ◌-◌, min, length}
use Rattle.std.specs.List.{count_by}
use Rattle.std.specs.Option.{option_map_or}
use Rattle.vm_ids.proofs.Places.{bit-le}
use Rattle.global_map.specs.Pairs.{node_of}
use Rattle.local_cache.specs.Own.{own_of}
use Rattle.residency.specs.Between.{world_at}
use Rattle.residency.specs.Causes.{is_dirty}
use Rattle.residency.proofs.Pushes.PushedPages.{tells_none}
use Rattle.residency.proofs.Pushes.Told.{tells_marks, tells_then}
use Rattle.frame_pool.specs.Pool.{held_count, pinned_count}
use Rattle.residency.specs.Pushing.{MayPush}
use Rattle.residency.specs.World.{World, own_page}
use Rattle.residency.specs.declared.store.Store.{Store}
use Rattle.residency.proofs.Worlds.Arms.{on_err}
use Rattle.residency.proofs.Worlds.Counted.{one_fewer, pinned_held, none_left, some_left}
use Rattle.residency.proofs.Moves.Picked.{none_counted, some_counted}
use Rattle.residency.proofs.Worlds.Composed.{others_marks, others_same, others_then, still, still_marks, still_then}
use Rattle.residency.proofs.Translations.Lost.{lost_then, tables_same, tables_then}
use Rattle.residency.proofs.store.Store.page_out.Goals as goal

pub returns-then-evictable_count-eq0-clause-fewer : goal.returns-then-evictable_count-eq0-clause-fewer
returns-then-evictable_count-eq0-clause-fewer g c =
    let w : World = world_at g.M.Mapper c.loop-done.mapper c.loop-done.caches c.loop-done.self in
    let most : held_count c.loop-done.self.frames ≤ pinned_count c.loop-done.self.frames = none_left w c.loop-done.invariant.still.stays.right (none_counted c.loop-done.self.frames (sym c.evictable_count.ensures ∙ c.if-evictable_count-eq0.true)) in
    let least : pinned_count c.loop-done.self.frames ≤ held_count c.loop-done.self.frames = pinned_held w c.loop-done.invariant.still.stays.right in
    let same : pinned_count c.loop-done.self.frames ≡ pinned_count c.args.self.now.frames = ap (λ (xs : List Bool). count_by (λ h. h) xs) c.loop-done.invariant.pinned in
    omega (arith, c.loop-done.invariant.fewer, c.loop-done-test.true)

pub pick-frame-requires-clause-some : goal.pick-frame-requires-clause-some
pick-frame-requires-clause-some g c =
    let some : c.evictable_count.result ≡ 0 → ⊥ = c.if-evictable_count-eq0.false in
    some_counted c.loop-done.self.frames (omega (arith, c.evictable_count.ensures))

pub loop-done-init : goal.loop-done-init
loop-done-init g c =
    let w : World = world_at g.M.Mapper c.args.mapper.now c.args.caches.now c.args.self.now in
    record {
      still = still w c.requires.right;
      pinned = refl;
      fewer = search rules;
      others = others_same w;
      later = search rules;
      pulls = search rules;
      told = tells_none {May = MayPush w} {pages = own_page w} w w (g.M.Mapper.counts c.args.mapper.now) (g.M.Mapper.counts c.args.mapper.now) refl (omega arith);
      dirty = search rules;
      few = search rules;
      pushes = search rules;
      tables = tables_same c.args.self.now c.args.self.now refl refl;
    }

pub loop-done-preserved : goal.loop-done-preserved
loop-done-preserved g c =
    let fewer : held_count c.evict.new.self.frames + 1 ≡ held_count c.loop-done.self.frames = one_fewer c.loop-done.self.frames c.pick-frame.result.0 c.evict.new.self.frames.held c.pick-frame.ensures.may c.in_ok-evict.ensures.free in
    let before : World = world_at g.M.Mapper c.args.mapper.now c.args.caches.now c.args.self.now in
    let w : World = world_at g.M.Mapper c.loop-done.mapper c.loop-done.caches c.loop-done.self in
    let after : World = world_at g.M.Mapper c.evict.new.mapper c.evict.new.caches c.evict.new.self in
    record {
      still = still_then before w after c.loop-done.invariant.still (still_marks w after (length c.pick-frame.new.self) c.pick-frame.ensures.length c.in_ok-evict.ensures.still);
      pinned = c.in_ok-evict.ensures.pinned ∙ c.loop-done.invariant.pinned;
      fewer = omega (arith, c.loop-done.invariant.fewer);
      others = others_then before w after c.loop-done.invariant.still.stays.caches c.loop-done.invariant.others (others_marks w after (length c.pick-frame.new.self) c.in_ok-evict.ensures.others);
      later = search rules;
      pulls = search rules;
      told = tells_then before w c.loop-done.invariant.still.stays after (g.M.Mapper.counts c.args.mapper.now) (g.M.Mapper.counts c.loop-done.mapper) (g.M.Mapper.counts c.evict.new.mapper)
          (record { faults = c.evict.ensures.counts.faults.later; pulls = c.evict.ensures.counts.pulls_later; pushes = c.evict.ensures.counts.pushes_later })
          c.loop-done.invariant.told (tells_marks w after (length c.pick-frame.new.self) (g.M.Mapper.counts c.loop-done.mapper) (g.M.Mapper.counts c.evict.new.mapper) c.pick-frame.ensures.length c.in_ok-evict.ensures.told);
      tables = tables_then c.args.self.now c.loop-done.self c.evict.new.self (lost_then before w after c.loop-done.invariant.others (others_marks w after (length c.pick-frame.new.self) c.in_ok-evict.ensures.others)) c.loop-done.invariant.tables c.in_ok-evict.ensures.tables;
      dirty = omega (arith, c.loop-done.invariant.dirty, c.in_ok-evict.ensures.dirty);
      few = omega (arith, c.loop-done.invariant.few, c.in_ok-evict.ensures.dirty, bit-le (option_map_or (λ n. is_dirty (own_of c.loop-done.caches n)) (node_of c.loop-done.self.map c.pick-frame.result.0) false));
      pushes = λ below. omega (arith, c.loop-done.invariant.dirty, c.in_ok-evict.ensures.dirty, c.evict.ensures.counts.pushed below, c.evict.ensures.counts.pushes_later, c.loop-done.invariant.pushes (omega (arith, below, c.evict.ensures.counts.pushes_later)));
    }

pub returns-clause-fewer : goal.returns-clause-fewer
returns-clause-fewer g c =
    let w : World = world_at g.M.Mapper c.loop-done.mapper c.loop-done.caches c.loop-done.self in
    let least : pinned_count c.loop-done.self.frames ≤ held_count c.loop-done.self.frames = pinned_held w c.loop-done.invariant.still.stays.right in
    let same : pinned_count c.loop-done.self.frames ≡ pinned_count c.args.self.now.frames = ap (λ (xs : List Bool). count_by (λ h. h) xs) c.loop-done.invariant.pinned in
    omega (arith, c.loop-done.invariant.fewer, c.loop-done-test.false)

pub returns-in_err-evict-clause-failed : goal.returns-in_err-evict-clause-failed
returns-in_err-evict-clause-failed g c =
    let w : World = world_at g.M.Mapper c.loop-done.mapper c.loop-done.caches c.loop-done.self in
    let some : pinned_count c.loop-done.self.frames < held_count c.loop-done.self.frames = some_left w c.pick-frame.result.0 c.loop-done.invariant.still.stays.right c.pick-frame.ensures.may in
    let pins : pinned_count c.loop-done.self.frames ≡ pinned_count c.args.self.now.frames = ap (λ (xs : List Bool). count_by (λ h. h) xs) c.loop-done.invariant.pinned in
    let as_before : held_count c.evict.new.self.frames ≡ held_count c.loop-done.self.frames = ap (λ (s : Store). held_count s.frames) c.in_err-evict.ensures.failed in
    let few : held_count c.args.self.now.frames < held_count c.evict.new.self.frames + min c.args.count (held_count c.args.self.now.frames - pinned_count c.args.self.now.frames) = omega (arith, c.loop-done.invariant.fewer, c.loop-done-test.true) in
    on_err _ c.from_residual.result few

pub returns-in_err-evict-clause-told : goal.returns-in_err-evict-clause-told
returns-in_err-evict-clause-told g c =
    let before : World = world_at g.M.Mapper c.args.mapper.now c.args.caches.now c.args.self.now in
    let w : World = world_at g.M.Mapper c.loop-done.mapper c.loop-done.caches c.loop-done.self in
    let after : World = world_at g.M.Mapper c.evict.new.mapper c.evict.new.caches c.evict.new.self in
    tells_then before w c.loop-done.invariant.still.stays after (g.M.Mapper.counts c.args.mapper.now) (g.M.Mapper.counts c.loop-done.mapper) (g.M.Mapper.counts c.evict.new.mapper)
    (record { faults = c.evict.ensures.counts.faults.later; pulls = c.evict.ensures.counts.pulls_later; pushes = c.evict.ensures.counts.pushes_later })
    c.loop-done.invariant.told (tells_marks w after (length c.pick-frame.new.self) (g.M.Mapper.counts c.loop-done.mapper) (g.M.Mapper.counts c.evict.new.mapper) c.pick-frame.ensures.length c.in_err-evict.ensures.told)

pub returns-in_err-evict-clause-tables : goal.returns-in_err-evict-clause-tables
returns-in_err-evict-clause-tables g c =
    let before : World = world_at g.M.Mapper c.args.mapper.now c.args.caches.now c.args.self.now in
    let w : World = world_at g.M.Mapper c.loop-done.mapper c.loop-done.caches c.loop-done.self in
    let after : World = world_at g.M.Mapper c.evict.new.mapper c.evict.new.caches c.evict.new.self in
    tables_then c.args.self.now c.loop-done.self c.evict.new.self (lost_then before w after c.loop-done.invariant.others (others_marks w after (length c.pick-frame.new.self) c.in_err-evict.ensures.others)) c.loop-done.invariant.tables c.in_err-evict.ensures.tables
