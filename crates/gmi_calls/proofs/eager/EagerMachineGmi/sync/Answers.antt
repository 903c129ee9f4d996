use Rattle.std.proofs.Common.{Err}
use Rattle.std.proofs.result.Match.{err_is}
use Rattle.vm_ids.specs.declared.command.Command.TheVariants as commands
use Rattle.gmi_calls.specs.Calling.{done_by}
use Rattle.gmi_calls.proofs.Called.{eager_call, eager_left, refusal_said}
use Rattle.gmi_calls.proofs.eager.EagerMachineGmi.sync.Goals as goal

pub returns : goal.returns
returns g c =
    let m = c.args.self.now in
    let command = commands.Sync c.args.extent in
    let P = c.push_extent.ensures in
    eager_call g.M.Mapper _ _ m m command (done_by c.push_extent.result) P.ready (P.sync c.in_ok-seg.ensures.sync) (P.asks_first command) P.page

pub returns-in_err-seg : goal.returns-in_err-seg
returns-in_err-seg g c =
    let m = c.args.self.now in
    let e = c.args.extent in
    rw (err_is c.from_residual.result _ c.from_residual.ensures.1)
    (eager_left g.M.Mapper _ m m (commands.Sync e) (Err c.in_err-seg.field-0.0) tt c.requires.valid c.requires.valid.whole c.in_err-seg.ensures.sync (refusal_said m m _ (commands.Sync e) e c.in_err-seg.field-0.0 c.in_err-seg.ensures.sync))
