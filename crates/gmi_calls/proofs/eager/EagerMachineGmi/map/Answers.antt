use Rattle.std.proofs.Common.{refl}
use Rattle.vm_ids.specs.declared.command.Command.TheVariants as commands
use Rattle.gmi_calls.proofs.Called.{eager_done}
use Rattle.gmi_calls.proofs.eager.EagerMachineGmi.map.Goals as goal

pub returns : goal.returns
returns g c = eager_done _ _ (commands.Map c.args.actor c.args.mapping) _ refl c.map.ensures.whole c.map.ensures.outcome (λ h. tt)
