use Rattle.std.proofs.Common.{ap, sym, subst, ◌∙◌}
use Rattle.local_cache.specs.ArenaBy.{arena_by}
use Rattle.local_cache.specs.PageNodes.{PageNodes}
use Rattle.local_cache.specs.Placed.{AreRight}
use Rattle.local_cache.proofs.ArenaBy.Seen.{held_seen}
use Rattle.local_cache.proofs.caches.Caches.gather.Goals as goal

pub gather-requires : goal.gather-requires
gather-requires c = held_seen c.self.inside.nodes c.self.inside.list c.args.self.now c.self.view_is c.args.node c.requires.held

pub invariant_of-self : goal.invariant_of-self
invariant_of-self c =
    let A : PageNodes → Type 0 = λ m. AreRight m c.self.inside.list in subst A (sym c.gather.ensures) c.self.invariant

pub returns : goal.returns
returns c = ap (λ (m : PageNodes). arena_by m c.self.inside.list) c.gather.ensures ∙ c.self.view_is
