use Rattle.std.proofs.Common.{arith, refl, sym, ◌∙◌}
use Rattle.seg_manager.specs.Linked.{changed_at, link_of, with_after}
use Rattle.seg_manager.proofs.Lookup.Placed.{links_set, place_within, placed_set, read_at}
use Rattle.seg_manager.proofs.links.Links.set_after.Goals as goal

pub index_mut-requires : goal.index_mut-requires
index_mut-requires c = omega (arith, place_within c.self.inside.links.items c.self.inside.index.places c.self.inside.room c.self.invariant.2 c.in-Some.cache.0 c.in-Some-find.place (sym c.in-Some-find.ensures), c.self.inside.links.ok)

pub invariant_of-self : goal.invariant_of-self
invariant_of-self c =
    let placed = sym c.in-Some-find.ensures in
    let is = read_at c.self.inside.links.items c.self.inside.index.places c.self.inside.room c.self.invariant.2 c.in-Some.cache.0 c.in-Some-find.place c.index_mut.result.now placed c.index_mut.ensures.value in
    (c.self.invariant.0, c.self.invariant.1, placed_set c.self.inside.links.items c.self.inside.index.places c.self.inside.room c.self.invariant.2 c.in-Some.cache.0 c.in-Some-find.place c.index_mut.result.now (record c.index_mut.result.now { after = c.args.after }) placed is refl)

pub returns-in-Some-find-clause-links : goal.returns-in-Some-find-clause-links
returns-in-Some-find-clause-links c = λ n.
    let placed = sym c.in-Some-find.ensures in
    let is = read_at c.self.inside.links.items c.self.inside.index.places c.self.inside.room c.self.invariant.2 c.in-Some.cache.0 c.in-Some-find.place c.index_mut.result.now placed c.index_mut.ensures.value in
    links_set c.self.inside.links.items c.self.inside.index.places c.self.inside.room c.self.invariant.2 c.in-Some.cache.0 c.in-Some-find.place c.index_mut.result.now (record c.index_mut.result.now { after = c.args.after }) placed is refl (with_after c.args.after) c.in-Some.cache refl refl n
    ∙ (λ i. changed_at (with_after c.args.after) (sym c.in-Some.is i) n (link_of (c.self.view_is i) n))
