use Rattle.std.proofs.Common.{◌≡◌, drop}
use Rattle.std.specs.List.{list_any}
use Rattle.vm_model.specs.Machine.{locks_any}
use Rattle.flat_mm.proofs.locks.is_locked_page.Given as goal

abbrev pub invariant-loop-actor : goal.invariant-loop-actor
invariant-loop-actor l = list_any (locks_any l.cache.0 l.page) (drop l.actor l.contexts.actors) ≡ list_any (locks_any l.cache.0 l.page) l.contexts.actors
