use Rattle.std.proofs.Common.{refl}
use Rattle.vm_ids.specs.declared.command.Command.TheVariants as commands
use Rattle.gmi_calls.proofs.Called.{eager_done}
use Rattle.gmi_calls.proofs.eager.EagerMachineGmi.protect.Goals as goal

pub returns : goal.returns
returns g c = eager_done _ _ (commands.Protect c.args.region c.args.prot) _ refl c.protect.ensures.whole c.protect.ensures.outcome (λ h. tt)
