use Rattle.std.proofs.Common.{refl}
use Rattle.vm_ids.specs.declared.command.Command.TheVariants as commands
use Rattle.gmi_calls.proofs.Called.{eager_done}
use Rattle.gmi_calls.proofs.eager.EagerMachineGmi.make_temp.Goals as goal

pub returns : goal.returns
returns g c = eager_done _ _ (commands.MakeTemp c.args.pages) _ refl c.make_temp.ensures.whole c.make_temp.ensures.outcome (λ h. tt)
