use Rattle.std.proofs.Common.{length, sym, ◌∙◌}
use Rattle.std.specs.Prelude.{Ok}
use Rattle.std.proofs.result.Match.{err_is}
use Rattle.vm_ids.specs.declared.command.Command.TheVariants as commands
use Rattle.vm_ids.specs.declared.reply.Reply.TheVariants as replies
use Rattle.vm_model.specs.Answering.{answer_by}
use Rattle.pvm_core.specs.Manager.{caches_shown}
use Rattle.pvm_core.proofs.Acting.{found, told}
use Rattle.contexts.proofs.RegionRows.{find_err, find_ok}
use Rattle.pvm_core.proofs.pvm.Pvm.find.Goals as goal

pub returns-in_err-find : goal.returns-in_err-find
returns-in_err-find c = record {
  answers = λ h v.
      let i = c.self.inside in
      told i.caches i.store i.contexts _ c.self.view_is h v (commands.Find c.args.actor c.args.address) (found c.args.actor c.args.address) (answer_by replies.Region c.from_residual.result) c.self.invariant.sound.nodes
      (λ f g k. find_err (caches_shown f 1 i.caches.caches) (length i.store.frames.held) i.contexts g k c.args.actor c.args.address c.in_err-find.field-0.0 c.from_residual.result
      (sym c.in_err-find.was ∙ c.find.ensures) (err_is c.from_residual.result _ c.from_residual.ensures.1));
}

pub returns : goal.returns
returns c = record {
  answers = λ h v.
      let i = c.self.inside in
      told i.caches i.store i.contexts _ c.self.view_is h v (commands.Find c.args.actor c.args.address) (found c.args.actor c.args.address) (Ok (replies.Region c.in_ok-find.field-0)) c.self.invariant.sound.nodes
      (λ f g k. find_ok (caches_shown f 1 i.caches.caches) (length i.store.frames.held) i.contexts g k c.args.actor c.args.address c.in_ok-find.field-0 (sym c.in_ok-find.was ∙ c.find.ensures));
}
