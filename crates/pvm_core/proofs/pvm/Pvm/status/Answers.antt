use Rattle.std.proofs.Common.{length}
use Rattle.vm_ids.specs.declared.command.Command.TheVariants as commands
use Rattle.vm_ids.specs.declared.reply.Reply.TheVariants as replies
use Rattle.vm_model.specs.Answering.{answer_by}
use Rattle.pvm_core.specs.Manager.{caches_shown}
use Rattle.pvm_core.proofs.Acting.{told, told_of}
use Rattle.contexts.proofs.RegionRows.{status_outcome}
use Rattle.pvm_core.proofs.pvm.Pvm.status.Goals as goal

pub returns : goal.returns
returns c = record {
  answers = λ h v.
      let i = c.self.inside in
      told i.caches i.store i.contexts _ c.self.view_is h v (commands.Status c.args.region) (told_of c.args.region) (answer_by replies.Status c.ok_or.result) c.self.invariant.sound.nodes
      (λ f g k. status_outcome (caches_shown f 1 i.caches.caches) (length i.store.frames.held) i.contexts g k c.args.region c.status.result c.ok_or.result c.status.ensures c.ok_or.ensures.value);
}
