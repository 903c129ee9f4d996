use Rattle.std.proofs.Common.{sym, ap, ◌∙◌}
use Rattle.std.specs.Prelude.{option_and_then}
use Rattle.local_cache.specs.declared.cache_list.CacheEntry.{CacheEntry}
use Rattle.local_cache.proofs.ArenaBy.Seen.{segment_seen}
use Rattle.local_cache.proofs.caches.Caches.segment.Goals as goal

pub returns-in_err-entry : goal.returns-in_err-entry
returns-in_err-entry c =
    c.from_residual.ensures
    ∙ ap (option_and_then (λ (e : CacheEntry). e.segment)) (sym c.in_err-entry.was ∙ c.entry.ensures)
    ∙ segment_seen c.self.inside.nodes c.self.inside.list c.args.self.now c.self.view_is c.args.cache.0

pub returns : goal.returns
returns c =
    ap (option_and_then (λ (e : CacheEntry). e.segment)) (sym c.in_ok-entry.was ∙ c.entry.ensures)
    ∙ segment_seen c.self.inside.nodes c.self.inside.list c.args.self.now c.self.view_is c.args.cache.0
