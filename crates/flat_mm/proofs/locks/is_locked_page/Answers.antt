use Rattle.std.proofs.Common.{◌+◌, arith, refl, sym, ◌∙◌}
use Rattle.vm_model.specs.Machine.{locks_any, numbered}
use Rattle.flat_mm.proofs.Locked.{any_here, any_next, next_numbered}
use Rattle.flat_mm.proofs.locks.is_locked_page.Goals as goal

pub returns-then-locks_by : goal.returns-then-locks_by
returns-then-locks_by c =
    let xs = c.args.contexts.now.actors in
    let k = c.loop-actor.actor in
    sym (any_here (locks_any c.args.cache.0 c.args.page) xs k (numbered xs (k + 1)) (next_numbered xs k (omega (arith, c.loop-actor-test.true, c.requires))) (sym c.if-locks_by.ensures)) ∙ c.loop-actor.invariant

pub loop-actor-preserved : goal.loop-actor-preserved
loop-actor-preserved c =
    let xs = c.args.contexts.now.actors in
    let k = c.loop-actor.actor in
    any_next (locks_any c.args.cache.0 c.args.page) xs k (k + 1) (numbered xs (k + 1)) refl (next_numbered xs k (omega (arith, c.loop-actor-test.true, c.requires))) (sym c.if-locks_by.ensures) ∙ c.loop-actor.invariant
