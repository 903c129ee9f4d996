use Rattle.local_cache.proofs.ArenaBy.Seen.{held_seen, free_call}
use Rattle.local_cache.proofs.caches.Caches.free.Goals as goal

pub free_one-requires : goal.free_one-requires
free_one-requires c = held_seen c.self.inside.nodes c.self.inside.list c.args.self.now c.self.view_is c.args.node c.requires

pub invariant_of-self : goal.invariant_of-self
invariant_of-self c = (free_call c.self.inside.nodes c.self.inside.list c.args.self.now c.self.view_is c.self.invariant c.free_one.new.self c.args.node c.requires c.free_one.ensures).right

pub returns : goal.returns
returns c = (free_call c.self.inside.nodes c.self.inside.list c.args.self.now c.self.view_is c.self.invariant c.free_one.new.self c.args.node c.requires c.free_one.ensures).is
