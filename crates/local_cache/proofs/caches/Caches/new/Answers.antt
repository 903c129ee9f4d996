use Rattle.std.proofs.Common.{ap, ◌∙◌}
use Rattle.std.specs.Ordering.{nat_cmp}
use Rattle.std.specs.FinMap.{get-empty}
use Rattle.std.specs.FinMap as map
use Rattle.local_cache.specs.PageNodes.{PageNodes, find}
use Rattle.local_cache.specs.ArenaBy.{tables_by}
use Rattle.local_cache.proofs.ArenaBy.Seen.{none_right}
use Rattle.local_cache.proofs.Whole.Empty.{empty_forest, empty_sound}
use Rattle.local_cache.proofs.caches.Caches.new.Goals as goal

pub invariant_of-result : goal.invariant_of-result
invariant_of-result c =
    none_right c.new.result c.new-2.result (λ n. ap (λ (m : PageNodes). find m n) c.new.ensures ∙ get-empty nat_cmp n.0)
    (λ k. ap (λ (m : PageNodes). map.get m.pages k) c.new.ensures ∙ get-empty nat_cmp k) c.new-2.ensures.rows

pub returns-clause-nodes : goal.returns-clause-nodes
returns-clause-nodes c n = ap (λ (m : PageNodes). find m n) c.new.ensures ∙ get-empty nat_cmp n.0

pub returns-clause-caches : goal.returns-clause-caches
returns-clause-caches c = ap (tables_by c.new.result.pages 1) c.new-2.ensures.rows

pub returns-clause-forest : goal.returns-clause-forest
returns-clause-forest c = empty_forest _ (returns-clause-nodes c) (ap (λ (m : PageNodes). m.made) c.new.ensures) c.new-2.ensures.copies

pub returns-clause-sound : goal.returns-clause-sound
returns-clause-sound c = empty_sound _ (returns-clause-nodes c) (returns-clause-caches c)
