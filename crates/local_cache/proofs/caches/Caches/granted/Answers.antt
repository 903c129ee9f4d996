use Rattle.std.proofs.Common.{◌∙◌}
use Rattle.local_cache.proofs.ArenaBy.Seen.{grant_seen, place_seen}
use Rattle.local_cache.proofs.caches.Caches.granted.Goals as goal

pub granted-requires : goal.granted-requires
granted-requires c = place_seen c.self.inside.nodes c.self.inside.list c.args.self.now c.self.view_is c.args.cache c.args.page c.requires

pub returns : goal.returns
returns c = c.granted.ensures ∙ grant_seen c.self.inside.nodes c.self.inside.list c.args.self.now c.self.view_is c.args.cache.0 c.args.page.0
