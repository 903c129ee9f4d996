use Rattle.std.proofs.Common.{◌≡◌, Bool, true, false, ap, refl, sym, ◌∙◌}
use Rattle.vm_ids.specs.declared.refusal.Refusal.TheVariants.{LockLimit}
use Rattle.vm_ids.specs.declared.reply.Reply.TheVariants.{Done}
use Rattle.vm_model.specs.Answering.{change_region, lock_of, passes_lock_limit, refuse, reply, unless, with_some}
use Rattle.vm_model.specs.Machine.{Machine}
use Rattle.vm_model.specs.Regions.{with_lock}
use Rattle.vm_model.specs.Seen.{machine_seen, region_seen}
use Rattle.vm_model.proofs.Locating.{with_is}
use Rattle.vm_model.proofs.Machines.Awaiting.{unless_false, unless_true}
use Rattle.vm_model.proofs.Machines.Locks.{lock_row, lock_taken_back}
use Rattle.vm_model.proofs.locks.lock.Goals as goal

pub returns-then-located-clause-outcome : goal.returns-then-located-clause-outcome
unfolding lock_of with_some unless
returns-then-located-clause-outcome c = λ h.
    let there = with_is c.args.region.0 c.args.tables.now.actors.items c.in-Some.located c.in-Some.ensures in
    rw (there, c.if-located.true) refl

pub returns-then-passes_lock_limit-clause-outcome : goal.returns-then-passes_lock_limit-clause-outcome
returns-then-passes_lock_limit-clause-outcome c = λ h.
    let n = c.args.region.0 in
    let t = c.args.tables.now in
    let m = machine_seen t in
    let next = change_region m n (with_lock true) in
    let there = with_is n t.actors.items c.in-Some.located c.in-Some.ensures in
    let passes : passes_lock_limit next ≡ true = ap passes_lock_limit (sym c.set_lock.ensures.machine) ∙ sym c.if-passes_lock_limit.ensures in
    let back = c.set_lock-then-passes_lock_limit.ensures.machine ∙ ap (λ (x : Machine). change_region x n (with_lock false)) c.set_lock.ensures.machine ∙ lock_taken_back n m (region_seen c.in-Some.located.region) there c.if-located.false in
    lock_row n m (region_seen c.in-Some.located.region) there c.if-located.false
    ∙ ap (λ (b : Bool). unless b LockLimit m (reply Done next)) passes
    ∙ unless_true LockLimit m (reply Done next)
    ∙ ap (λ (x : Machine). refuse x LockLimit) (sym back)

pub returns-clause-outcome : goal.returns-clause-outcome
returns-clause-outcome c = λ h.
    let n = c.args.region.0 in
    let t = c.args.tables.now in
    let m = machine_seen t in
    let next = change_region m n (with_lock true) in
    let there = with_is n t.actors.items c.in-Some.located c.in-Some.ensures in
    let within : passes_lock_limit next ≡ false = ap passes_lock_limit (sym c.set_lock.ensures.machine) ∙ sym c.if-passes_lock_limit.ensures in
    lock_row n m (region_seen c.in-Some.located.region) there c.if-located.false
    ∙ ap (λ (b : Bool). unless b LockLimit m (reply Done next)) within
    ∙ unless_false LockLimit m (reply Done next)
    ∙ ap (reply Done) (sym c.set_lock.ensures.machine)
