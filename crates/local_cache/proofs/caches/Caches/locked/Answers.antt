use Rattle.std.proofs.Common.{◌∙◌}
use Rattle.local_cache.proofs.ArenaBy.Seen.{locked_seen}
use Rattle.local_cache.proofs.caches.Caches.locked.Goals as goal

pub returns : goal.returns
returns c = c.locked.ensures ∙ locked_seen c.self.inside.nodes c.self.inside.list c.args.self.now c.self.view_is
