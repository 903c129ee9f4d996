use Rattle.std.proofs.Common.{subst}
use Rattle.std.specs.Prelude.{OnErr, OnOk}
use Rattle.vm_ids.specs.declared.command.Command.TheVariants as commands
use Rattle.vm_ids.specs.declared.reply.Reply.TheVariants.{Done}
use Rattle.vm_model.specs.Machine.{Machine}
use Rattle.vm_model.specs.Answering.{answer_by}
use Rattle.vm_model.specs.Allowed.{MayFailToOpen}
use Rattle.vm_model.specs.Outcome.{PlainOutcome}
use Rattle.vm_model.proofs.eager_machine.EagerMachine.check_open.Goals as goal

pub returns-clause-refused : goal.returns-clause-refused
returns-clause-refused c = subst (λ (m : Machine). OnErr c.check_open.result (PlainOutcome m (commands.OpenSegment c.args.seg) (answer_by (λ _. Done) c.check_open.result) m)) c.self.view_is c.check_open.ensures.refused

pub returns-clause-fault : goal.returns-clause-fault
returns-clause-fault c = subst (λ (m : Machine). OnOk c.check_open.result (MayFailToOpen m c.args.seg)) c.self.view_is c.check_open.ensures.fault
