use Rattle.std.proofs.Common.{Ok, Err, sym, subst}
use Rattle.vm_ids.specs.declared.command.Command.TheVariants as commands
use Rattle.vm_ids.specs.declared.reply.FaultAt.TheVariants as faults
use Rattle.vm_ids.specs.declared.reply.Reply.TheVariants.{Done}
use Rattle.vm_ids.specs.declared.reply.Trouble.TheVariants.{Mapper}
use Rattle.vm_model.specs.Answering.{Answered}
use Rattle.vm_model.specs.Outcome.{IsNotRefused}
use Rattle.gmi_calls.proofs.Called.{call_is, fault_for, plain_for}
use Rattle.gmi_calls.proofs.segments.push_extent.Goals as goal

pub returns-in-Ok-clause-sync : goal.returns-in-Ok-clause-sync
returns-in-Ok-clause-sync g c = λ done.
    let m = c.args.machine.now in
    let e = c.args.extent.now in
    let P = c.in-Ok.ensures.pushed in
    call_is _ _ _ _ m m (commands.Sync e) (Ok Done) _ P c.requires.ready.whole c.requires.ready.whole tt (plain_for _ m m (commands.Sync e) (Ok Done) P.rises done) c.in-Ok.ensures.there

pub returns-in-Ok-clause-flush : goal.returns-in-Ok-clause-flush
returns-in-Ok-clause-flush g c = λ done.
    let m = c.args.machine.now in
    let e = c.args.extent.now in
    let P = c.in-Ok.ensures.pushed in
    call_is _ _ _ _ m m (commands.Flush e) (Ok Done) _ P c.requires.ready.whole c.requires.ready.whole tt (plain_for _ m m (commands.Flush e) (Ok Done) P.rises done) c.in-Ok.ensures.there

pub returns-in-Err-clause-sync : goal.returns-in-Err-clause-sync
returns-in-Err-clause-sync g c = λ done.
    let m = c.args.machine.now in
    let e = c.args.extent.now in
    let P = c.in-Err.ensures.pushed in
    let at = faults.Page c.in-Err.page in
    call_is _ _ _ _ m m (commands.Sync e) (Err (Mapper at)) _ P c.requires.ready.whole c.requires.ready.whole tt
    (fault_for _ m (commands.Sync e) at P.rises P.failed (λ s. c.in-Err.ensures.fault) (λ s. subst (λ (x : Answered). IsNotRefused x.answer) (sym (done s)) tt))
    c.in-Err.ensures.there

pub returns-in-Err-clause-flush : goal.returns-in-Err-clause-flush
returns-in-Err-clause-flush g c = λ done.
    let m = c.args.machine.now in
    let e = c.args.extent.now in
    let P = c.in-Err.ensures.pushed in
    let at = faults.Page c.in-Err.page in
    call_is _ _ _ _ m m (commands.Flush e) (Err (Mapper at)) _ P c.requires.ready.whole c.requires.ready.whole tt
    (fault_for _ m (commands.Flush e) at P.rises P.failed (λ s. c.in-Err.ensures.fault) (λ s. subst (λ (x : Answered). IsNotRefused x.answer) (sym (done s)) tt))
    c.in-Err.ensures.there
