use Rattle.std.proofs.Common.{◌≡◌, false, sym, ap, ◌∙◌, rules}
use Rattle.local_cache.specs.declared.own_state.OwnState.TheVariants.{Absent}
use Rattle.residency.specs.Between.{world_at}
use Rattle.local_cache.specs.Own.{is_absent, own_of}
use Rattle.residency.proofs.Forests.StillForest.{still_forest}
use Rattle.fault_path.proofs.Calls.Answered.{still_answered, still_missed_by}
use Rattle.fault_path.proofs.Calls.Kept.{absent_is}
use Rattle.pvm_core.proofs.Accesses.Loading.{owner_held}
use Rattle.pvm_core.proofs.Locking.LockedPages.{on_ok, owned_bare, owned_has}
use Rattle.pvm_core.proofs.Translating.Brought.{brought_right}
use Rattle.pvm_core.proofs.Translating.Dropped.{dropped_right}
use Rattle.pvm_core.proofs.Translating.Writable.{tables_writable}
use Rattle.pvm_core.proofs.page_locks.bring_own.Goals as goal

pub returns-then-is_absent-clause-forest : goal.returns-then-is_absent-clause-forest
returns-then-is_absent-clause-forest g c =
    let absent : own_of c.args.caches.now c.args.node ≡ Absent = absent_is (own_of c.args.caches.now c.args.node) (sym (c.is_absent.ensures.absent ∙ ap is_absent c.own_state.ensures) ∙ c.if-is_absent.true) in
    let same = owned_bare (world_at g.M.Mapper c.args.mapper.now c.args.caches.now c.args.store.now) c.requires.right.sound c.args.node c.requires.node absent in
    on_ok c.own.result (λ e. e ∙ same) c.own.ensures.forest

pub returns-in_err-bring_in-clause-answered : goal.returns-in_err-bring_in-clause-answered
returns-in_err-bring_in-clause-answered g c =
    let e = c.in_err-bring_in.ensures in
    still_answered _ _ e.still _ _ c.requires.right.sound c.requires.right.shaped e.pinned e.later e.told

pub returns-in_err-bring_in-clause-missed : goal.returns-in_err-bring_in-clause-missed
returns-in_err-bring_in-clause-missed g c = still_missed_by _ _ c.in_err-bring_in.ensures.still (g.M.Mapper.counts c.args.mapper.now) (g.M.Mapper.counts c.bring_in.new.mapper) c.from_residual.result (search rules)

pub returns-clause-answered : goal.returns-clause-answered
returns-clause-answered g c =
    let e = c.in_ok-bring_in.ensures in
    still_answered _ _ e.still _ _ c.requires.right.sound c.requires.right.shaped e.pinned e.later e.told

pub returns-clause-forest : goal.returns-clause-forest
returns-clause-forest g c =
    let some : is_absent (own_of c.args.caches.now c.args.node) ≡ false = sym (c.is_absent.ensures.absent ∙ ap is_absent c.own_state.ensures) ∙ c.if-is_absent.false in
    still_forest _ _ c.in_ok-bring_in.ensures.still ∙ owned_has _ c.requires.right.sound c.args.node c.requires.node some

pub returns-then-is_absent-clause-translated : goal.returns-then-is_absent-clause-translated
returns-then-is_absent-clause-translated g c = λ u.
    let a = c.args.caches.now in
    let n = c.own.new in
    let e = c.own.ensures in
    let o = owner_held a c.requires.right.sound c.requires.right.shaped c.args.node c.requires.node in
    dropped_right _ a n.caches c.args.store.now n.store u (e.drops o.0 o.1) (tables_writable a n.caches e.answered.kept.nodes.caches)

pub returns-in_err-bring_in-clause-translated : goal.returns-in_err-bring_in-clause-translated
returns-in_err-bring_in-clause-translated g c =
    let M = g.M.Mapper in
    let n = c.bring_in.new in
    let e = c.in_err-bring_in.ensures in
    brought_right (M.held c.args.mapper.now) (M.held n.mapper) (M.page_bytes c.args.mapper.now) (M.page_bytes n.mapper) c.args.caches.now n.caches c.args.store.now n.self c.args.node c.requires.right.store.tied e.still e.tables e.others

pub returns-clause-translated : goal.returns-clause-translated
returns-clause-translated g c =
    let M = g.M.Mapper in
    let n = c.bring_in.new in
    let e = c.in_ok-bring_in.ensures in
    brought_right (M.held c.args.mapper.now) (M.held n.mapper) (M.page_bytes c.args.mapper.now) (M.page_bytes n.mapper) c.args.caches.now n.caches c.args.store.now n.self c.args.node c.requires.right.store.tied e.still e.tables e.others
