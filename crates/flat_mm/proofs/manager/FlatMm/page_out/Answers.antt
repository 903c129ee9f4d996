use Rattle.std.proofs.Common.{Ok, arith, refl}
use Rattle.vm_ids.specs.declared.command.Command.TheVariants as commands
use Rattle.vm_ids.specs.declared.reply.Reply.TheVariants as replies
use Rattle.gmi_calls.proofs.Called.{eager_quiet}
use Rattle.flat_mm.specs.Manager.{machine_in}
use Rattle.flat_mm.proofs.Acting.{fits_less}
use Rattle.flat_mm.proofs.Calls.{flat_access}
use Rattle.flat_mm.proofs.manager.FlatMm.page_out.Goals as goal

pub returns : goal.returns
returns g c =
    let p = c.args.self.now in
    let m = machine_in p in
    let command = commands.PageOut c.args.count in
    flat_access g.M.Mapper c.args.mapper.now c.args.mapper.now p p command (Ok replies.Done) (fits_less p p command (Ok replies.Done) (λ m next. refl) (omega arith)) c.requires.kept
    (eager_quiet g.M.Mapper c.args.mapper.now m m command (Ok replies.Done) tt c.requires.ready c.requires.ready.whole (λ h. refl) tt)
