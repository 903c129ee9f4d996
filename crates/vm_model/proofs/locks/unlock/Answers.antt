use Rattle.std.proofs.Common.{ap, refl, sym}
use Rattle.vm_ids.specs.declared.reply.Reply.TheVariants as replies
use Rattle.vm_model.specs.Answering.{reply, unless, unlock_of, with_some}
use Rattle.vm_model.proofs.Locating.{with_is}
use Rattle.vm_model.proofs.locks.unlock.Goals as goal

pub returns-then-not-located-clause-outcome : goal.returns-then-not-located-clause-outcome
unfolding unlock_of with_some unless
returns-then-not-located-clause-outcome c = λ h.
    let there = with_is c.args.region.0 c.args.tables.now.actors.items c.in-Some.located c.in-Some.ensures in
    rw (there, c.if-not-located.true) refl

pub returns-clause-outcome : goal.returns-clause-outcome
unfolding unlock_of with_some unless
returns-clause-outcome c = λ h.
    let there = with_is c.args.region.0 c.args.tables.now.actors.items c.in-Some.located c.in-Some.ensures in
    rw (there, c.if-not-located.false) (ap (reply replies.Done) (sym c.set_lock.ensures.machine))
