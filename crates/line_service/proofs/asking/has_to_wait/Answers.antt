use Rattle.std.proofs.Common.{◌∙◌, ◌==◌}
use Rattle.vm_ids.specs.declared.access.Parked.{Parked}
use Rattle.line_service.proofs.Finding.{any_of, found}
use Rattle.line_service.proofs.asking.has_to_wait.Goals as goal

pub returns-in-Some : goal.returns-in-Some
returns-in-Some c =
    rw c.in-Some.is (c.is_some.ensures ∙ found (λ (p : Parked). p.actor.0 == c.in-Some.actor.0) c.args.waits.now c.of_actor.result c.of_actor.ensures)

pub returns-in-None : goal.returns-in-None
returns-in-None c = rw c.in-None.is (rw c.len.ensures.count (any_of c.args.waits.now))
