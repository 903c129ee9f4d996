use Rattle.std.proofs.Common.{sym, subst}
use Rattle.local_cache.specs.Arena.{Arena, NodesStay}
use Rattle.local_cache.proofs.ArenaBy.Seen.{all_held, to_working_many_call}
use Rattle.local_cache.proofs.Nodes.Many.{stay_as_working}
use Rattle.local_cache.proofs.caches.Caches.to_working_many.Goals as goal

pub to_working_many-requires-clause-held : goal.to_working_many-requires-clause-held
to_working_many-requires-clause-held c = all_held c.self.inside.nodes c.self.inside.list c.args.self.now c.self.view_is c.args.node c.args.count c.requires.held

pub invariant_of-self : goal.invariant_of-self
invariant_of-self c = (to_working_many_call c.self.inside.nodes c.self.inside.list c.args.self.now c.self.view_is c.self.invariant c.to_working_many.new.self c.args.node c.args.count c.requires.held c.to_working_many.ensures).right

pub returns-clause-changed : goal.returns-clause-changed
returns-clause-changed c = (to_working_many_call c.self.inside.nodes c.self.inside.list c.args.self.now c.self.view_is c.self.invariant c.to_working_many.new.self c.args.node c.args.count c.requires.held c.to_working_many.ensures).is

pub returns-clause-stays : goal.returns-clause-stays
returns-clause-stays c =
    subst (λ (b : Arena). NodesStay c.args.self.now b) (sym (returns-clause-changed c)) (stay_as_working c.args.self.now c.args.node c.args.count)
