use Rattle.local_cache.proofs.ArenaBy.Seen.{grant_call, granted_call, place_seen}
use Rattle.local_cache.proofs.Changes.Granted.{granted_forest, granted_sound}
use Rattle.local_cache.proofs.caches.Caches.grant.Goals as goal

pub grant-requires : goal.grant-requires
grant-requires c = place_seen c.self.inside.nodes c.self.inside.list c.args.self.now c.self.view_is c.args.cache c.args.page c.requires

pub invariant_of-self : goal.invariant_of-self
invariant_of-self c = (grant_call c.self.inside.nodes c.self.inside.list c.args.self.now c.self.view_is c.self.invariant c.grant.new.self c.args.cache.0 c.args.page.0 c.grant.ensures).right

pub returns-clause-changed : goal.returns-clause-changed
returns-clause-changed c = (grant_call c.self.inside.nodes c.self.inside.list c.args.self.now c.self.view_is c.self.invariant c.grant.new.self c.args.cache.0 c.args.page.0 c.grant.ensures).is

pub returns-clause-granted : goal.returns-clause-granted
returns-clause-granted c =
    granted_call c.self.inside.nodes c.self.inside.list c.args.self.now c.self.view_is c.self.invariant c.grant.new.self c.args.cache.0 c.args.page.0
    (place_seen c.self.inside.nodes c.self.inside.list c.args.self.now c.self.view_is c.args.cache c.args.page c.requires)
    c.grant.ensures

pub returns-clause-forest : goal.returns-clause-forest
returns-clause-forest c = granted_forest c.args.self.now _ c.args.cache.0 c.args.page.0 (returns-clause-changed c)

pub returns-clause-sound : goal.returns-clause-sound
returns-clause-sound c = granted_sound c.args.self.now _ c.args.cache.0 c.args.page.0 (returns-clause-changed c)
