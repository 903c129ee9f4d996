use Rattle.std.proofs.Common.{Err, refl}
use Rattle.std.proofs.result.Match.{err_is}
use Rattle.vm_ids.specs.declared.command.Command.TheVariants as commands
use Rattle.vm_ids.specs.declared.reply.FaultAt.TheVariants as faults
use Rattle.vm_ids.specs.declared.reply.Trouble.TheVariants as troubles
use Rattle.gmi_calls.specs.Calling.{done_by}
use Rattle.gmi_calls.proofs.Called.{asks_awaited, cache_said, call_is, eager_call, eager_left, fault_for, no_cache_said, plain_for, ready_plain}
use Rattle.gmi_calls.proofs.eager.EagerMachineGmi.destroy.Goals as goal

pub returns-in_err-check_destroy : goal.returns-in_err-check_destroy
returns-in_err-check_destroy g c =
    let m = c.args.self.now in
    let command = commands.Destroy c.args.cache in
    rw (err_is c.from_residual.result _ c.from_residual.ensures.1)
    (eager_left g.M.Mapper _ m m command (Err c.in_err-check_destroy.field-0.0) tt c.requires.valid c.requires.valid.whole c.in_err-check_destroy.ensures.refused (no_cache_said m m _ command c.args.cache.0 c.in_err-check_destroy.field-0.0 c.in_err-check_destroy.ensures.refused))

pub returns-in-Ok : goal.returns-in-Ok
returns-in-Ok g c =
    let m = c.args.self.now in
    let next = c.destroy.new.self in
    let command = commands.Destroy c.args.cache in
    let answer = done_by c.destroy.result in
    let E = c.in-Ok.ensures in
    let D = c.destroy.ensures in
    eager_call g.M.Mapper _ _ m next command answer (ready_plain _ m next command answer D.outcome D.whole E.ready)
    (call_is _ _ _ _ m next command answer _ E.pushed c.requires.valid.whole D.whole tt (plain_for _ m next command answer E.pushed.rises D.outcome) (cache_said m next _ command c.args.cache.0 answer D.outcome E.there))
    (asks_awaited m next command answer _ _ (λ s. c.in_ok-check_destroy.ensures.awaits.allowed s refl) (λ may. may) D.outcome) E.page

pub returns-in-Err : goal.returns-in-Err
returns-in-Err g c =
    let m = c.args.self.now in
    let command = commands.Destroy c.args.cache in
    let E = c.in-Err.ensures in
    let at = faults.Page c.in-Err.page in
    eager_call g.M.Mapper _ _ m m command (Err (troubles.Mapper at)) E.ready
    (call_is _ _ _ _ m m command (Err (troubles.Mapper at)) _ E.pushed c.requires.valid.whole c.requires.valid.whole tt
    (fault_for _ m command at E.pushed.rises E.pushed.failed (λ s. E.fault) (λ s. c.in_ok-check_destroy.ensures.awaits.allowed s refl)) E.there) tt E.page
