use Rattle.local_cache.proofs.ArenaBy.Seen.{lock_call, locks_call, place_seen}
use Rattle.local_cache.proofs.caches.Caches.set_locks.Goals as goal

pub set_locks-requires : goal.set_locks-requires
set_locks-requires c = place_seen c.self.inside.nodes c.self.inside.list c.args.self.now c.self.view_is c.args.cache c.args.page c.requires

pub invariant_of-self : goal.invariant_of-self
invariant_of-self c = (lock_call c.self.inside.nodes c.self.inside.list c.args.self.now c.self.view_is c.self.invariant c.set_locks.new.self c.args.cache.0 c.args.page.0 c.args.count c.set_locks.ensures).right

pub returns-clause-changed : goal.returns-clause-changed
returns-clause-changed c = (lock_call c.self.inside.nodes c.self.inside.list c.args.self.now c.self.view_is c.self.invariant c.set_locks.new.self c.args.cache.0 c.args.page.0 c.args.count c.set_locks.ensures).is

pub returns-clause-locks : goal.returns-clause-locks
returns-clause-locks c =
    locks_call c.self.inside.nodes c.self.inside.list c.args.self.now c.self.view_is c.self.invariant c.set_locks.new.self c.args.cache.0 c.args.page.0 c.args.count
    (place_seen c.self.inside.nodes c.self.inside.list c.args.self.now c.self.view_is c.args.cache c.args.page c.requires)
    c.set_locks.ensures
