use Rattle.std.proofs.Common.{Ok, Err, refl}
use Rattle.std.specs.Prelude.{Some, None}
use Rattle.vm_ids.specs.declared.command.Command.TheVariants as commands
use Rattle.vm_ids.specs.declared.refusal.Refusal.TheVariants as refusals
use Rattle.vm_ids.specs.declared.reply.Reply.TheVariants as replies
use Rattle.vm_ids.specs.declared.reply.Trouble.TheVariants as troubles
use Rattle.flat_mm.specs.Manager.{caches_in}
use Rattle.flat_mm.proofs.Acting.{told}
use Rattle.contexts.proofs.RegionRows.{status_outcome}
use Rattle.flat_mm.proofs.manager.FlatMm.status.Goals as goal

pub returns-in-Some : goal.returns-in-Some
returns-in-Some c =
    let i = c.self.inside in
    told i.store i.contexts i.actors c.self.invariant c.args.self.now c.self.view_is (commands.Status c.args.region) (record { reaches = refl; needs = λ m next. refl; said = λ m h a. tt }) (Ok (replies.Status c.in-Some.status))
    (λ h. status_outcome (caches_in i.store) i.store.frames i.contexts None h c.args.region (Some c.in-Some.status) (Ok c.in-Some.status) c.in-Some.ensures refl)

pub returns-in-None : goal.returns-in-None
returns-in-None c =
    let i = c.self.inside in
    told i.store i.contexts i.actors c.self.invariant c.args.self.now c.self.view_is (commands.Status c.args.region) (record { reaches = refl; needs = λ m next. refl; said = λ m h a. tt }) (Err (troubles.Refused refusals.NoRegion))
    (λ h. status_outcome (caches_in i.store) i.store.frames i.contexts None h c.args.region None (Err (troubles.Refused refusals.NoRegion)) c.in-None.ensures refl)
