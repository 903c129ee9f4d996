use Rattle.std.proofs.Common.{Ok, ap, refl, sym, ◌∙◌}
use Rattle.vm_ids.specs.declared.command.Command.TheVariants as commands
use Rattle.vm_ids.specs.declared.reply.Counts.{Counts}
use Rattle.vm_ids.specs.declared.reply.Reply.TheVariants as replies
use Rattle.vm_model.specs.Answering.{reply}
use Rattle.vm_model.proofs.Forests.Plain.{plain_counts}
use Rattle.flat_mm.specs.Manager.{Manager, machine_in}
use Rattle.flat_mm.proofs.Acting.{told}
use Rattle.flat_mm.proofs.Making.{plain_live}
use Rattle.flat_mm.proofs.manager.FlatMm.stat.Goals as goal

pub returns : goal.returns
returns c =
    let i = c.self.inside in
    let old : Manager = record { store = i.store; actors = i.contexts } in
    let counts : Counts = record { live = c.live.result; working = 0; copies = 0 } in
    told i.store i.contexts i.actors c.self.invariant c.args.self.now c.self.view_is commands.Stat (record { reaches = refl; needs = λ m next. refl; said = λ m h a. tt }) (Ok (replies.Stat counts))
    (λ h. ap (λ (k : Counts). reply (replies.Stat k) (machine_in old)) (plain_counts (machine_in old) ∙ ap (λ n. let k : Counts = record { live = n; working = 0; copies = 0 } in k) (plain_live i.store.caches ∙ sym c.live.ensures.live)))
