use Rattle.std.proofs.Common.{◌∙◌, ap, arith, subst, sym}
use Rattle.vm_ids.specs.Forest.NameMap.{len}
use Rattle.vm_ids.specs.Forest.Reading.{counts_of}
use Rattle.local_cache.specs.Arena.{Arena}
use Rattle.local_cache.specs.ArenaBy.{arena_by}
use Rattle.local_cache.specs.Reading.{AreNamesApart, forest_of}
use Rattle.local_cache.proofs.ArenaBy.Counts.{counts_by, forest_len_by}
use Rattle.local_cache.proofs.caches.Caches.counts.Goals as goal

named : (c : goal.After-copies) → AreNamesApart (arena_by c.self.inside.nodes c.self.inside.list)
named c = subst AreNamesApart (sym c.self.view_is) c.requires

pub returns-clause-counts : goal.returns-clause-counts
returns-clause-counts c =
    (λ i. record { live = c.live.result; working = c.working.result; copies = c.copies.ensures i })
    ∙ counts_by c.self.inside.nodes c.self.inside.list (named c) c.self.invariant.placed.paged c.live.result c.working.result c.live.ensures c.working.ensures.working
    ∙ ap (λ (a : Arena). counts_of (forest_of a)) c.self.view_is

pub returns-clause-few : goal.returns-clause-few
returns-clause-few c =
    omega (
      arith,
      c.working.ensures.few,
      forest_len_by c.self.inside.nodes c.self.inside.list (named c),
      ap (λ (a : Arena). len (forest_of a).nodes) c.self.view_is,
    )
