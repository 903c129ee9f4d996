use Rattle.std.proofs.Common.{subst}
use Rattle.std.specs.Prelude.{OnErr}
use Rattle.vm_ids.specs.declared.command.Command.TheVariants as commands
use Rattle.vm_ids.specs.declared.reply.Reply.TheVariants.{Done}
use Rattle.vm_model.specs.Machine.{Machine}
use Rattle.vm_model.specs.Answering.{answer_by}
use Rattle.vm_model.specs.Outcome.{PlainOutcome}
use Rattle.vm_model.proofs.eager_machine.EagerMachine.check_flush.Goals as goal

pub returns-clause-refused : goal.returns-clause-refused
returns-clause-refused c = subst (λ (m : Machine). OnErr c.check_flush.result (PlainOutcome m (commands.Invalidate c.args.extent.now) (answer_by (λ _. Done) c.check_flush.result) m)) c.self.view_is c.check_flush.ensures.refused
