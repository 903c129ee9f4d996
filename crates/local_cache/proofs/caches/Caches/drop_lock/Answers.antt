use Rattle.std.proofs.Common.{◌-◌, ap, ◌∙◌, arith}
use Rattle.local_cache.specs.Arena.{locks_of, with_locks}
use Rattle.local_cache.proofs.Changes.Locked.{locked_count_less, locked_forest, locked_sound}
use Rattle.local_cache.proofs.caches.Caches.drop_lock.Goals as goal

pub returns-clause-changed : goal.returns-clause-changed
returns-clause-changed c = c.set_locks.ensures.changed ∙ ap (λ k. with_locks c.args.self.now c.args.cache.0 c.args.page.0 (k - 1)) c.locks-count.ensures.count

pub returns-clause-locked : goal.returns-clause-locked
returns-clause-locked c = locked_count_less c.args.self.now _ c.args.cache.0 c.args.page.0 (returns-clause-changed c) (omega (arith, c.set_locks.ensures.locks, c.locks-count.ensures.count))

pub returns-clause-forest : goal.returns-clause-forest
returns-clause-forest c = locked_forest c.args.self.now _ c.args.cache.0 c.args.page.0 (locks_of c.args.self.now c.args.cache.0 c.args.page.0 - 1) (returns-clause-changed c)

pub returns-clause-sound : goal.returns-clause-sound
returns-clause-sound c = locked_sound c.args.self.now _ c.args.cache.0 c.args.page.0 (locks_of c.args.self.now c.args.cache.0 c.args.page.0 - 1) (returns-clause-changed c)
