use Rattle.std.proofs.Common.{refl}
use Rattle.vm_ids.specs.declared.command.Command.TheVariants as commands
use Rattle.gmi_calls.proofs.Called.{eager_done}
use Rattle.gmi_calls.proofs.eager.EagerMachineGmi.exit_actor.Goals as goal

pub returns : goal.returns
returns g c = eager_done _ _ (commands.ExitActor c.args.actor) _ refl c.exit_actor.ensures.whole c.exit_actor.ensures.outcome (λ h. tt)
