use Rattle.std.proofs.Common.{refl}
use Rattle.vm_ids.specs.declared.command.Command.TheVariants as commands
use Rattle.gmi_calls.proofs.Called.{eager_done}
use Rattle.gmi_calls.proofs.eager.EagerMachineGmi.unmap.Goals as goal

pub returns : goal.returns
returns g c = eager_done _ _ (commands.Unmap c.args.region) _ refl c.unmap.ensures.whole c.unmap.ensures.outcome (λ h. tt)
