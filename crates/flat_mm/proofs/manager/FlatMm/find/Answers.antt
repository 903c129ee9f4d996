use Rattle.std.proofs.result.Match.{err_is}
use Rattle.std.proofs.Common.{Ok, Err, refl}
use Rattle.std.specs.Prelude.{None}
use Rattle.vm_ids.specs.declared.command.Command.TheVariants as commands
use Rattle.vm_ids.specs.declared.reply.Reply.TheVariants as replies
use Rattle.vm_ids.specs.declared.reply.Trouble.TheVariants as troubles
use Rattle.flat_mm.specs.Manager.{caches_in}
use Rattle.flat_mm.proofs.Acting.{told}
use Rattle.contexts.proofs.RegionRows.{find_err, find_ok}
use Rattle.flat_mm.proofs.manager.FlatMm.find.Goals as goal

pub returns : goal.returns
returns c =
    let i = c.self.inside in
    told i.store i.contexts i.actors c.self.invariant c.args.self.now c.self.view_is (commands.Find c.args.actor c.args.address) (record { reaches = refl; needs = λ m next. refl; said = λ m h a. tt }) (Ok (replies.Region c.in_ok-find.field-0))
    (λ h. find_ok (caches_in i.store) i.store.frames i.contexts None h c.args.actor c.args.address c.in_ok-find.field-0 c.in_ok-find.ensures)

pub returns-in_err-find : goal.returns-in_err-find
returns-in_err-find c =
    let i = c.self.inside in
    rw (err_is c.from_residual.result _ c.from_residual.ensures.1)
    (told i.store i.contexts i.actors c.self.invariant c.args.self.now c.self.view_is (commands.Find c.args.actor c.args.address) (record { reaches = refl; needs = λ m next. refl; said = λ m h a. tt }) (Err (troubles.Refused c.in_err-find.field-0.0))
    (λ h. find_err (caches_in i.store) i.store.frames i.contexts None h c.args.actor c.args.address c.in_err-find.field-0.0 (Err (troubles.Refused c.in_err-find.field-0.0)) c.in_err-find.ensures refl))
