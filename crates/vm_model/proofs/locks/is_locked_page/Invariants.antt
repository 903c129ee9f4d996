use Rattle.std.proofs.Common.{◌≡◌, drop}
use Rattle.std.specs.List.{list_any}
use Rattle.vm_model.specs.Machine.{locks_any}
use Rattle.vm_model.specs.Seen.{actors_seen}
use Rattle.vm_model.proofs.locks.is_locked_page.Given as goal

abbrev pub invariant-loop-actor : goal.invariant-loop-actor
invariant-loop-actor l = list_any (locks_any l.cache.0 l.page) (actors_seen (drop l.actor-index l.actors)) ≡ list_any (locks_any l.cache.0 l.page) (actors_seen l.actors)
