use Rattle.std.proofs.Common.{Ok, Err, ap, refl}
use Rattle.std.proofs.result.Match.{err_is}
use Rattle.std.specs.Prelude.{None}
use Rattle.vm_ids.specs.declared.command.Command.TheVariants as commands
use Rattle.vm_ids.specs.declared.reply.Reply.TheVariants as replies
use Rattle.contexts.specs.Actors.{Actors, is_full}
use Rattle.contexts.proofs.RegionRows.{actor_outcome}
use Rattle.flat_mm.specs.Manager.{caches_in}
use Rattle.flat_mm.proofs.Acting.{acted}
use Rattle.flat_mm.proofs.manager.FlatMm.make_actor.Goals as goal

pub returns : goal.returns
returns c =
    let i = c.self.inside in
    let e = c.in_ok-actor.ensures in
    acted i.store i.contexts i.actors c.self.invariant c.args.self.now c.self.view_is commands.MakeActor (record { reaches = refl; needs = λ m next. refl; said = λ m h a. tt }) (Ok (replies.Actor c.in_ok-actor.actor)) c.make.new.self (ap (λ (t : Actors). t.page_bytes) e.ok)
    (λ h. actor_outcome (caches_in i.store) i.store.frames i.contexts c.make.new.self None h (is_full i.contexts) (Ok c.in_ok-actor.actor) refl e.refused e.made e.ok e.err)

pub returns-in_err-actor : goal.returns-in_err-actor
returns-in_err-actor c =
    let i = c.self.inside in
    let e = c.in_err-actor.ensures in
    rw (err_is c.from_residual.result _ c.from_residual.ensures.1)
    (acted i.store i.contexts i.actors c.self.invariant c.args.self.now c.self.view_is commands.MakeActor (record { reaches = refl; needs = λ m next. refl; said = λ m h a. tt }) (Err c.in_err-actor.field-0.0) c.make.new.self (ap (λ (t : Actors). t.page_bytes) e.err)
    (λ h. actor_outcome (caches_in i.store) i.store.frames i.contexts c.make.new.self None h (is_full i.contexts) (Err c.in_err-actor.field-0.0) refl e.refused e.made e.ok e.err))
