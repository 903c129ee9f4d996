use Rattle.std.proofs.Common.{◌∙◌}
use Rattle.local_cache.proofs.ArenaBy.Seen.{made_seen}
use Rattle.local_cache.proofs.caches.Caches.caches_made.Goals as goal

pub returns : goal.returns
returns c = c.made.ensures ∙ made_seen c.self.inside.nodes c.self.inside.list c.args.self.now c.self.view_is
