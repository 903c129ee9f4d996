use Rattle.local_cache.proofs.ArenaBy.Seen.{copy_call}
use Rattle.local_cache.proofs.Changes.SameCells.{copied_forest, copied_sound}
use Rattle.local_cache.proofs.caches.Caches.count_copy.Goals as goal

pub invariant_of-self : goal.invariant_of-self
invariant_of-self c = (copy_call c.self.inside.nodes c.self.inside.list c.args.self.now c.self.view_is c.self.invariant c.count_copy.new.self c.count_copy.ensures).right

pub returns-clause-changed : goal.returns-clause-changed
returns-clause-changed c = (copy_call c.self.inside.nodes c.self.inside.list c.args.self.now c.self.view_is c.self.invariant c.count_copy.new.self c.count_copy.ensures).is

pub returns-clause-forest : goal.returns-clause-forest
returns-clause-forest c = copied_forest c.args.self.now _ (returns-clause-changed c)

pub returns-clause-sound : goal.returns-clause-sound
returns-clause-sound c = copied_sound c.args.self.now _ (returns-clause-changed c)
