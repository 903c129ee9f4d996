use Rattle.std.proofs.Common.{refl}
use Rattle.vm_ids.specs.declared.command.Command.TheVariants as commands
use Rattle.gmi_calls.proofs.Called.{eager_done}
use Rattle.gmi_calls.proofs.eager.EagerMachineGmi.split.Goals as goal

pub returns : goal.returns
returns g c = eager_done _ _ (commands.Split c.args.region c.args.pages) _ refl c.split.ensures.whole c.split.ensures.outcome (λ h. tt)
