use Rattle.std.proofs.Common.{Ok, sym, subst}
use Rattle.vm_ids.specs.Accessing.{command_for}
use Rattle.vm_ids.specs.declared.access.Access.{Access}
use Rattle.vm_ids.specs.declared.command.Command.TheVariants as commands
use Rattle.vm_ids.specs.declared.reply.Reply.TheVariants.{Bytes}
use Rattle.gmi_calls.specs.Backing.{eager}
use Rattle.gmi_calls.specs.Parking.{AccessCall}
use Rattle.gmi_calls.specs.Reaching.{NoPages}
use Rattle.gmi_calls.proofs.Called.{eager_quiet}
use Rattle.gmi_calls.proofs.accesses.carry_out.Goals as goal

pub returns-in_ok-piece-in-Load : goal.returns-in_ok-piece-in-Load
returns-in_ok-piece-in-Load g c =
    let m = c.args.machine.now in
    let mapper = c.args.mapper.now in
    let answer = Ok (Bytes c.in_ok-piece-in-Load.piece) in
    subst (λ (access : Access). AccessCall g.M.Mapper eager NoPages mapper m (command_for c.args.actor access) answer mapper m) (sym c.in-Load.is)
    (eager_quiet g.M.Mapper mapper m m (commands.Load c.args.actor c.in-Load.address c.in-Load.length) answer tt c.requires.ready c.requires.ready.whole c.in_ok-piece-in-Load.ensures.outcome tt)
