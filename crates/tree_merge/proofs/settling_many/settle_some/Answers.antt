use Rattle.std.proofs.Common.{refl, subst}
use Rattle.local_cache.specs.Thin.{IsLeastThin}
use Rattle.tree_merge.proofs.Merge.Step.{none_thin}
use Rattle.tree_merge.proofs.settling_many.settle_some.Goals as goal

pub settle_at-requires-clause-least : goal.settle_at-requires-clause-least
settle_at-requires-clause-least c = subst (IsLeastThin c.args.caches.now) c.in-Some.is c.thin.ensures

pub returns-in-None-clause-step : goal.returns-in-None-clause-step
returns-in-None-clause-step c = (none_thin c.args.caches.now c.requires (subst (IsLeastThin c.args.caches.now) c.in-None.is c.thin.ensures), refl)
