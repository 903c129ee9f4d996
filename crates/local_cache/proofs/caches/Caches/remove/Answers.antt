use Rattle.local_cache.proofs.ArenaBy.Seen.{remove_call, row_seen}
use Rattle.local_cache.proofs.Changes.SameCells.{removed_forest, removed_sound}
use Rattle.local_cache.proofs.caches.Caches.remove.Goals as goal

pub remove-requires : goal.remove-requires
remove-requires c = row_seen c.self.inside.nodes c.self.inside.list c.args.self.now c.self.view_is c.args.cache.0 c.requires.live

pub invariant_of-self : goal.invariant_of-self
invariant_of-self c = (remove_call c.self.inside.nodes c.self.inside.list c.args.self.now c.self.view_is c.self.invariant c.remove.new.self c.args.cache c.requires.retired c.remove.ensures).right

pub returns-clause-changed : goal.returns-clause-changed
returns-clause-changed c = (remove_call c.self.inside.nodes c.self.inside.list c.args.self.now c.self.view_is c.self.invariant c.remove.new.self c.args.cache c.requires.retired c.remove.ensures).is

pub returns-clause-forest : goal.returns-clause-forest
returns-clause-forest c = removed_forest c.args.self.now _ c.args.cache (returns-clause-changed c)

pub returns-clause-sound : goal.returns-clause-sound
returns-clause-sound c = removed_sound c.args.self.now _ c.args.cache (returns-clause-changed c) c.requires.retired
