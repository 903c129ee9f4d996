use Rattle.std.proofs.Common.{is_some, inl, refl, sym, ap, subst, ◌∙◌, ◌≡◌, ◌+◌, true, false}
use Rattle.std.specs.Prelude.{OnOk}
use Rattle.vm_ids.specs.declared.numbers.FrameId.{FrameId}
use Rattle.frame_pool.specs.Pool.{held_count, is_pinned}
use Rattle.residency.specs.Between.{world_at}
use Rattle.residency.specs.Causes.{pushes_for}
use Rattle.residency.specs.Freeing.{MakesFree}
use Rattle.residency.specs.declared.store.Store.{Store}
use Rattle.residency.specs.World.{IsMadeFree, Still, World}
use Rattle.global_map.specs.Pairs.{node_of}
use Rattle.residency.proofs.Worlds.After.{pin_set}
use Rattle.fault_path.specs.Gathering.{Gathers, IsGathered, NoneGathered}
use Rattle.fault_path.proofs.Calls.Gathered.{one_gathers}
use Rattle.residency.proofs.Worlds.Arms.{if_ok, on_err_then}
use Rattle.fault_path.proofs.Frames.ComingFrames.{come_by, none_come}
use Rattle.fault_path.proofs.Frames.GatheredFrames.{beside_gathered, beside_none, beside_still, beside_told, free_gathered}
use Rattle.residency.specs.Frames.{with_pinned}
use Rattle.residency.specs.Translating.{Drops, TablesAfter}
use Rattle.residency.proofs.Translations.Kept.{still_drops, stays_drops}
use Rattle.fault_path.specs.Translating.{Nobody}
use Rattle.fault_path.proofs.gathering.make_free_beside.Goals as goal

pub returns-then-is_pinned-clause-gathered : goal.returns-then-is_pinned-clause-gathered
returns-then-is_pinned-clause-gathered g c =
    let old : World = world_at g.M.Mapper c.args.mapper.now c.args.caches.now c.args.store.now in
    let w : World = world_at g.M.Mapper c.make_free.new.mapper c.make_free.new.caches c.make_free.new.self in
    let e = c.make_free.ensures.free in
    let done = if_ok (λ f. IsMadeFree f.0 old w) (λ f. IsGathered f.0 old w) c.make_free.result (λ f free. free_gathered old w f.0 c.requires.right e.still free) e.done in
    one_gathers c.make_free.result old w _ _ done (on_err_then _ _ c.make_free.result (λ same. record { still = e.still; pinned = same }) e.pinned) e.told e.later c.make_free.ensures.held _ e.traffic e.few

pub returns-clause-gathered : goal.returns-clause-gathered
returns-clause-gathered g c =
    let old : World = world_at g.M.Mapper c.args.mapper.now c.args.caches.now c.args.store.now in
    let w : World = world_at g.M.Mapper c.make_free-fresh.new.mapper c.make_free-fresh.new.caches c.make_free-fresh.new.self in
    let pinned = λ (s : Store). world_at g.M.Mapper c.args.mapper.now c.args.caches.now s in
    let loose : is_pinned c.args.store.now.frames c.args.frame.0 ≡ false = sym (c.is_pinned.ensures ∙ ap (λ p. is_pinned p c.args.frame.0) c.frames.ensures) ∙ c.if-is_pinned.false in
    let before = g.M.Mapper.counts c.args.mapper.now in
    let now = g.M.Mapper.counts c.make_free-fresh.new.mapper in
    let r = c.make_free-fresh.result in
    let e : MakesFree r (pushes_for c.args.store.now.frames.held) (pin_set old c.args.frame.0 true) w before now
    = subst (λ (s : Store). MakesFree r (pushes_for s.frames.held) (pinned s) w before now) c.pin.ensures c.make_free-fresh.ensures.free in
    let done = if_ok (λ f. IsMadeFree f.0 (pin_set old c.args.frame.0 true) w) (λ f. IsGathered f.0 old (pin_set w c.args.frame.0 false)) r
    (λ f free. beside_gathered old w c.args.frame.0 c.requires.right c.requires.held loose e.still f.0 free) e.done in
    let none = on_err_then (w.frames.pinned ≡ (pin_set old c.args.frame.0 true).frames.pinned) (NoneGathered old (pin_set w c.args.frame.0 false)) r
    (λ same. beside_none old w c.args.frame.0 c.requires.right c.requires.held loose e.still same) e.pinned in
    let held = subst (λ (s : Store). OnOk r (held_count w.frames + pushes_for s.frames.held ≡ held_count s.frames + 1)) c.pin.ensures c.make_free-fresh.ensures.held in
    subst (λ (s : Store). Gathers r (λ (f : FrameId). IsGathered f.0) 0 1 old (world_at g.M.Mapper c.make_free-fresh.new.mapper c.make_free-fresh.new.caches s) before now) (sym c.unpin.ensures)
    (one_gathers r old (pin_set w c.args.frame.0 false) before now done none (beside_told old w c.args.frame.0 c.requires.right c.requires.held loose e.still _ _ e.later e.told) e.later held _ e.traffic e.few)

pub returns-then-is_pinned-clause-drops : goal.returns-then-is_pinned-clause-drops
returns-then-is_pinned-clause-drops g c = still_drops _ _ _ _ c.args.caches.now c.make_free.new.caches c.args.store.now c.make_free.new.self c.requires.right.tied c.make_free.ensures.free.still.stays c.make_free.ensures.tables c.make_free.ensures.free.others

pub returns-clause-drops : goal.returns-clause-drops
returns-clause-drops g c =
    let old : World = world_at g.M.Mapper c.args.mapper.now c.args.caches.now c.args.store.now in
    let w : World = world_at g.M.Mapper c.make_free-fresh.new.mapper c.make_free-fresh.new.caches c.make_free-fresh.new.self in
    let pinned = λ (s : Store). world_at g.M.Mapper c.args.mapper.now c.args.caches.now s in
    let loose : is_pinned c.args.store.now.frames c.args.frame.0 ≡ false = sym (c.is_pinned.ensures ∙ ap (λ p. is_pinned p c.args.frame.0) c.frames.ensures) ∙ c.if-is_pinned.false in
    let still : Still (pin_set old c.args.frame.0 true) w = subst (λ (s : Store). Still (pinned s) w) c.pin.ensures c.make_free-fresh.ensures.free.still in
    let whole = beside_still old w c.args.frame.0 c.requires.right c.requires.held loose still in
    let loosed : Store = record c.make_free-fresh.new.self { frames = with_pinned c.make_free-fresh.new.self.frames c.args.frame.0 false } in
    let tables : TablesAfter c.args.store.now loosed = subst (λ (s : Store). TablesAfter s loosed) c.pin.ensures c.make_free-fresh.ensures.tables in
    subst (λ (s : Store). Drops Nobody c.args.caches.now c.args.store.now c.make_free-fresh.new.caches s) (sym c.unpin.ensures)
    (stays_drops _ _ _ _ c.args.caches.now c.make_free-fresh.new.caches c.args.store.now loosed c.requires.right.tied whole.stays tables Nobody
    (λ f n at. inl (sym (ap (λ (s : Store). node_of s.map f) c.pin.ensures) ∙ sym (c.make_free-fresh.ensures.free.others.frames f (ap is_some at)).node ∙ at)))

pub returns-clause-tables : goal.returns-clause-tables
returns-clause-tables g c =
    let loosed : Store = record c.make_free-fresh.new.self { frames = with_pinned c.make_free-fresh.new.self.frames c.args.frame.0 false } in
    subst (TablesAfter c.args.store.now) (sym c.unpin.ensures) (subst (λ (s : Store). TablesAfter s loosed) c.pin.ensures c.make_free-fresh.ensures.tables)

pub returns-then-is_pinned-clause-frames : goal.returns-then-is_pinned-clause-frames
returns-then-is_pinned-clause-frames g c = none_come _ _ c.make_free.ensures.free.others

pub returns-clause-frames : goal.returns-clause-frames
returns-clause-frames g c =
    let old : World = world_at g.M.Mapper c.args.mapper.now c.args.caches.now c.args.store.now in
    let first : World = world_at g.M.Mapper c.args.mapper.now c.args.caches.now c.pin.new.self in
    let w : World = world_at g.M.Mapper c.make_free-fresh.new.mapper c.make_free-fresh.new.caches c.make_free-fresh.new.self in
    let v : World = world_at g.M.Mapper c.make_free-fresh.new.mapper c.make_free-fresh.new.caches c.unpin.new.self in
    come_by Nobody first w old v (ap (λ (s : Store). s.map) (sym c.pin.ensures)) (ap (λ (s : Store). s.frames.bytes) (sym c.pin.ensures)) refl (ap (λ (s : Store). s.map) c.unpin.ensures) (ap (λ (s : Store). s.frames.bytes) c.unpin.ensures) refl
    (none_come first w c.make_free-fresh.ensures.free.others)
