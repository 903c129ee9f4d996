use Rattle.std.proofs.Common.{sym, subst}
use Rattle.local_cache.specs.Arena.{Arena, NodesStay}
use Rattle.local_cache.proofs.ArenaBy.Exchanging.{all_exchanged, named_in}
use Rattle.local_cache.proofs.Nodes.Many.{stay_exchanged}
use Rattle.local_cache.proofs.caches.Caches.exchange_names.Goals as goal

pub exchange_names-requires-clause-nodes : goal.exchange_names-requires-clause-nodes
exchange_names-requires-clause-nodes c = named_in c.self.inside.nodes c.self.inside.list c.args.self.now c.self.view_is c.self.invariant.placed c.args.node c.args.count c.requires.nodes

pub exchange_names-requires-clause-others : goal.exchange_names-requires-clause-others
exchange_names-requires-clause-others c = named_in c.self.inside.nodes c.self.inside.list c.args.self.now c.self.view_is c.self.invariant.placed c.args.other c.args.count c.requires.others

pub exchange_names-requires-clause-apart : goal.exchange_names-requires-clause-apart
exchange_names-requires-clause-apart c = λ i j less under e. c.requires.apart i j less under (λ t. record { 0 = e t })

pub invariant_of-self : goal.invariant_of-self
invariant_of-self c =
    (all_exchanged c.self.inside.nodes c.self.inside.list c.args.self.now c.self.view_is c.self.invariant c.args.node c.args.other c.args.count
    c.requires.nodes c.requires.others c.requires.apart c.exchange_names.new.self c.exchange_names.ensures).right

pub returns-clause-changed : goal.returns-clause-changed
returns-clause-changed c =
    (all_exchanged c.self.inside.nodes c.self.inside.list c.args.self.now c.self.view_is c.self.invariant c.args.node c.args.other c.args.count
    c.requires.nodes c.requires.others c.requires.apart c.exchange_names.new.self c.exchange_names.ensures).is

pub returns-clause-stays : goal.returns-clause-stays
returns-clause-stays c =
    subst (λ (b : Arena). NodesStay c.args.self.now b) (sym (returns-clause-changed c)) (stay_exchanged c.args.self.now c.args.node c.args.other c.args.count)
