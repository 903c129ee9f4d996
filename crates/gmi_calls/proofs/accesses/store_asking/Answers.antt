use Rattle.std.proofs.Common.{Err, length}
use Rattle.std.proofs.result.Match.{err_is}
use Rattle.vm_ids.specs.declared.command.Command.TheVariants as commands
use Rattle.gmi_calls.specs.Calling.{done_by}
use Rattle.gmi_calls.proofs.Accessing.{denied_call, failed_call, granted_call}
use Rattle.gmi_calls.proofs.Called.{eager_quiet}
use Rattle.gmi_calls.proofs.Storing.{IsStored, stored, stored_allowed, stored_denied, stored_fault, stored_there}
use Rattle.gmi_calls.proofs.accesses.store_asking.Given.{Over}
use Rattle.gmi_calls.proofs.accesses.store_asking.Goals.{In_ok-place}
use Rattle.gmi_calls.proofs.accesses.store_asking.Goals as goal

pub returns-in_err-place : goal.returns-in_err-place
returns-in_err-place g c =
    let m = c.args.machine.now in
    rw (err_is c.from_residual.result _ c.from_residual.ensures.1)
    (eager_quiet g.M.Mapper _ m m (commands.Store c.args.actor c.args.address c.args.piece.now) (Err c.in_err-place.field-0.0) tt c.requires.ready c.requires.ready.whole c.in_err-place.ensures.refused tt)

-- the place of the store is found
found : (g : Over) (c : In_ok-place g) → IsStored c.args.machine.now c.args.actor.0 c.args.address (length c.args.piece.now) c.in_ok-place.place
found g c = stored c.args.machine.now c.args.actor.0 c.args.address (length c.args.piece.now) c.in_ok-place.place c.in_ok-place.ensures.page c.in_ok-place.ensures.there

pub may_store-requires : goal.may_store-requires
may_store-requires g c = record { there = stored_there c.args.machine.now c.args.actor.0 c.args.address (length c.args.piece.now) c.in_ok-place.place _ (found g (goal.at.may_store-requires g c).In_ok-place) c.requires.ready }

pub returns-in-Ok-true : goal.returns-in-Ok-true
returns-in-Ok-true g c =
    let m = c.args.machine.now in
    let E = c.in-Ok-true.ensures in
    let at = found g (goal.at.returns-in-Ok-true g c).In_ok-place in
    granted_call g.M.Mapper _ _ m (commands.Store c.args.actor c.args.address c.args.piece.now) _ E.asked c.requires.ready tt c.store.new.self (done_by c.store.result) c.store.ensures.whole c.store.ensures.outcome
    (stored_allowed m c.args.actor.0 c.args.address (length c.args.piece.now) c.in_ok-place.place _ c.in-Ok-true.field-0 c.in-Ok-true.field-0-test at E.answer) tt

pub returns-in-Ok-false : goal.returns-in-Ok-false
returns-in-Ok-false g c =
    let m = c.args.machine.now in
    let E = c.in-Ok-false.ensures in
    let at = found g (goal.at.returns-in-Ok-false g c).In_ok-place in
    denied_call g.M.Mapper _ _ m (commands.Store c.args.actor c.args.address c.args.piece.now) _ E.asked c.requires.ready tt c.in_ok-place.ensures.awaits
    (stored_denied m c.args.actor.0 c.args.address (length c.args.piece.now) c.in_ok-place.place _ c.in-Ok-false.field-0 c.in-Ok-false.field-0-test at E.named E.answer) tt

pub returns-in-Err : goal.returns-in-Err
returns-in-Err g c =
    let m = c.args.machine.now in
    let p = c.in-Err.page in
    let E = c.in-Err.ensures in
    let at = found g (goal.at.returns-in-Err g c).In_ok-place in
    failed_call g.M.Mapper _ _ m (commands.Store c.args.actor c.args.address c.args.piece.now) _ E.asked c.requires.ready tt c.in_ok-place.ensures.awaits p E.asked.reached.failed
    (stored_fault m c.args.actor.0 c.args.address (length c.args.piece.now) c.in_ok-place.place p at E.fault) tt
