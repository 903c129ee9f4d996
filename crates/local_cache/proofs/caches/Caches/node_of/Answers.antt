use Rattle.std.proofs.Common.{IsSome, sym, ◌∙◌, subst}
use Rattle.local_cache.proofs.ArenaBy.Seen.{node_seen}
use Rattle.local_cache.proofs.caches.Caches.node_of.Goals as goal

pub unwrap-requires : goal.unwrap-requires
unwrap-requires c =
    subst IsSome (sym (c.node_of.ensures ∙ node_seen c.self.inside.nodes c.self.inside.list c.args.self.now c.self.view_is c.args.cache.0 c.args.page.0 c.requires)) c.requires

pub returns : goal.returns
returns c =
    sym (c.node_of.ensures ∙ node_seen c.self.inside.nodes c.self.inside.list c.args.self.now c.self.view_is c.args.cache.0 c.args.page.0 c.requires)
    ∙ c.unwrap.ensures
