use Rattle.local_cache.proofs.ArenaBy.Seen.{all_held, free_many_call}
use Rattle.local_cache.proofs.caches.Caches.free_many.Goals as goal

pub free_many-requires : goal.free_many-requires
free_many-requires c = all_held c.self.inside.nodes c.self.inside.list c.args.self.now c.self.view_is c.args.node c.args.count c.requires

pub invariant_of-self : goal.invariant_of-self
invariant_of-self c = (free_many_call c.self.inside.nodes c.self.inside.list c.args.self.now c.self.view_is c.self.invariant c.free_many.new.self c.args.node c.args.count c.requires c.free_many.ensures).right

pub returns : goal.returns
returns c = (free_many_call c.self.inside.nodes c.self.inside.list c.args.self.now c.self.view_is c.self.invariant c.free_many.new.self c.args.node c.args.count c.requires c.free_many.ensures).is
