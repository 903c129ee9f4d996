use Rattle.std.proofs.Common.{Ok, Err, ap, refl, sym, ◌∙◌, true, false}
use Rattle.vm_ids.specs.declared.command.Command.TheVariants as commands
use Rattle.vm_ids.specs.declared.refusal.Refusal.TheVariants as refusals
use Rattle.vm_ids.specs.declared.reply.Reply.TheVariants as replies
use Rattle.vm_ids.specs.declared.reply.Trouble.TheVariants as troubles
use Rattle.vm_model.specs.Answering.{reply}
use Rattle.vm_model.specs.Machine.{numbered}
use Rattle.contexts.specs.Actors.{Actors, machine_with}
use Rattle.contexts.proofs.RegionRows.{exit_none, exit_row}
use Rattle.flat_mm.specs.Manager.{caches_in}
use Rattle.flat_mm.proofs.Acting.{acted, mapped_some, stayed}
use Rattle.flat_mm.proofs.manager.FlatMm.exit_actor.Goals as goal

pub returns-then-is_none : goal.returns-then-is_none
returns-then-is_none c =
    let i = c.self.inside in
    stayed i.store i.contexts i.actors c.self.invariant c.args.self.now c.self.view_is (commands.ExitActor c.args.actor) (record { reaches = refl; needs = λ m next. refl; said = λ m h a. tt }) (Err (troubles.Refused refusals.NoActor))
    (λ h. exit_none (caches_in i.store) i.store.frames i.contexts c.args.actor.0 (mapped_some _ c.regions.result (numbered i.contexts.actors c.args.actor.0) false c.regions.ensures.regions c.if-is_none.ensures))

pub returns : goal.returns
returns c =
    let i = c.self.inside in
    acted i.store i.contexts i.actors c.self.invariant c.args.self.now c.self.view_is (commands.ExitActor c.args.actor) (record { reaches = refl; needs = λ m next. refl; said = λ m h a. tt }) (Ok replies.Done) c.exit.new.self (ap (λ (t : Actors). t.page_bytes) c.exit.ensures)
    (λ h. exit_row (caches_in i.store) i.store.frames i.contexts c.args.actor.0 (mapped_some _ c.regions.result (numbered i.contexts.actors c.args.actor.0) true c.regions.ensures.regions c.if-is_none.ensures)
    ∙ ap (λ (t : Actors). reply replies.Done (machine_with (caches_in i.store) i.store.frames t)) (sym c.exit.ensures))
