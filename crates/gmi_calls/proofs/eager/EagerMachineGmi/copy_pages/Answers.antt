use Rattle.std.proofs.Common.{Err}
use Rattle.std.proofs.result.Match.{err_is}
use Rattle.vm_ids.specs.declared.command.Command.TheVariants as commands
use Rattle.gmi_calls.specs.Calling.{done_by}
use Rattle.gmi_calls.proofs.Accessing.{denied_call, failed_call, granted_call, none_before, range_allowed, range_denied}
use Rattle.gmi_calls.proofs.Called.{eager_left}
use Rattle.gmi_calls.proofs.eager.EagerMachineGmi.copy_pages.Goals as goal

pub returns-in_err-check_copy : goal.returns-in_err-check_copy
returns-in_err-check_copy g c =
    let m = c.args.self.now in
    rw (err_is c.from_residual.result _ c.from_residual.ensures.1)
    (eager_left g.M.Mapper _ m m (commands.Copy c.args.span) (Err c.in_err-check_copy.field-0.0) tt c.requires.valid c.requires.valid.whole c.in_err-check_copy.ensures.refused tt)

pub returns-in-Ok-true : goal.returns-in-Ok-true
returns-in-Ok-true g c =
    let m = c.args.self.now in
    let s = c.args.span in
    let E = c.in-Ok-true.ensures in
    (granted_call g.M.Mapper _ _ m (commands.Copy s) _ E.asked c.requires.valid tt c.copy_pages.new.self (done_by c.copy_pages.result) c.copy_pages.ensures.whole c.copy_pages.ensures.outcome
    (range_allowed m s.to.0 s.to_page.0 s.pages _ c.in-Ok-true.field-0 c.in-Ok-true.field-0-test E.answer) tt).call

pub returns-in-Ok-false : goal.returns-in-Ok-false
returns-in-Ok-false g c =
    let m = c.args.self.now in
    let s = c.args.span in
    let E = c.in-Ok-false.ensures in
    (denied_call g.M.Mapper _ _ m (commands.Copy s) _ E.asked c.requires.valid tt c.in_ok-check_copy.ensures.awaits
    (range_denied m s.to.0 s.to_page.0 s.pages _ c.in-Ok-false.field-0 c.in-Ok-false.field-0-test c.requires.some E.named E.answer) tt).call

pub returns-in-Err : goal.returns-in-Err
returns-in-Err g c =
    let m = c.args.self.now in
    let s = c.args.span in
    let p = c.in-Err.page in
    let E = c.in-Err.ensures in
    (failed_call g.M.Mapper _ _ m (commands.Copy s) _ E.asked c.requires.valid tt c.in_ok-check_copy.ensures.awaits p E.asked.reached.failed
    (E.fault.0, (E.fault.1, E.fault.2, none_before m s.to.0 s.to_page.0 p.0 _ E.before)) tt).call
