use Rattle.std.proofs.Common.{◌∙◌}
use Rattle.local_cache.proofs.ArenaBy.Seen.{locks_seen, placed_seen}
use Rattle.local_cache.proofs.caches.Caches.locks.Goals as goal

pub returns-clause-count : goal.returns-clause-count
returns-clause-count c = c.locks.ensures.count ∙ locks_seen c.self.inside.nodes c.self.inside.list c.args.self.now c.self.view_is c.args.cache.0 c.args.page.0

pub returns-clause-place : goal.returns-clause-place
returns-clause-place c some = placed_seen c.self.inside.nodes c.self.inside.list c.args.self.now c.self.view_is c.args.cache c.args.page (c.locks.ensures.page some)
