use Rattle.std.proofs.Common.{◌≡◌, ◌≤◌, length, subst, arith}
use Rattle.contexts.specs.Actors.{Actors, region_count}
use Rattle.contexts.specs.Layout.{IsSound, actors_seen}
use Rattle.contexts.specs.declared.contexts.Contexts.TheInside.{Inside}
use Rattle.contexts.proofs.Few.{regions_few}
use Rattle.contexts.proofs.contexts.Contexts.regions_made.Goals as goal

-- what is seen of the fields
few_seen : (i : Inside) → IsSound i → (seen : Actors) → actors_seen i ≡ seen → region_count seen.actors ≤ length i.owners.items
few_seen i k seen is = subst (λ (a : Actors). region_count a.actors ≤ length i.owners.items) is (regions_few i.page i.owners.items i.actors.items k.kept)

pub returns-clause-living : goal.returns-clause-living
returns-clause-living c = omega (arith, few_seen c.self.inside c.self.invariant c.args.self.now c.self.view_is, c.len.ensures)
