use Rattle.std.proofs.Common.{Err, subst, sym, ap, ◌∙◌}
use Rattle.vm_ids.specs.declared.reply.Reply.TheVariants as replies
use Rattle.mix_process.specs.Starting.{Checks}
use Rattle.mix_process.proofs.Starts.ImageCalls.{checked_err, checked_ok}
use Rattle.mix_process.proofs.mix.Mix.check_image.Goals as goal
use Rattle.mix_process.proofs.mix.Mix.check_image.Goals.{in-Ok, in-Err}

pub returns : goal.returns
returns g c = λ told valid unlimited cache there. elim c.match-chain.branch [
  | in-Ok w ↦ subst (λ r. Checks cache.pages c.args.pages r) (sym w.result-is) (checked_ok g.G.Gmi c.args.self.now.gmi told valid unlimited c.args.image c.args.pages c.requires cache there replies.Chain c.chain.result _ w.in-Ok.is c.chain.ensures.answers)
  | in-Err w ↦ subst (λ r. Checks cache.pages c.args.pages r) (sym (w.result-is ∙ ap (λ t. Err t) w.bad_image.ensures)) (checked_err g.G.Gmi c.args.self.now.gmi told valid unlimited c.args.image c.args.pages c.requires cache there replies.Chain c.chain.result w.in-Err.trouble w.in-Err.is c.chain.ensures.answers)
]
