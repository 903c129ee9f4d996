use Rattle.vm_ids.specs.declared.command.Command.TheVariants as commands
use Rattle.gmi_calls.proofs.Called.{eager_left}
use Rattle.gmi_calls.proofs.eager.EagerMachineGmi.lock.Goals as goal

pub returns : goal.returns
returns g c = eager_left g.M.Mapper _ _ _ (commands.Lock c.args.region) _ tt c.requires.valid c.lock.ensures.whole c.lock.ensures.outcome tt
