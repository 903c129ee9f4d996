use Rattle.std.proofs.Common.{arith, ap, sym, ◌∙◌}
use Rattle.seg_manager.specs.Linked.{link_of}
use Rattle.seg_manager.proofs.Lookup.Placed.{found_at, place_within}
use Rattle.seg_manager.proofs.links.Links.find.Goals as goal

pub index-requires : goal.index-requires
index-requires c = omega (arith, place_within c.self.inside.links.items c.self.inside.index.places c.self.inside.room c.self.invariant.2 c.args.cache.0 c.in_ok-place.place (sym c.in_ok-place.ensures), c.self.inside.links.ok)

pub returns : goal.returns
returns c =
    found_at c.self.inside.links.items c.self.inside.index.places c.self.inside.room c.self.invariant.2 c.args.cache.0 c.in_ok-place.place c.index.result.now (sym c.in_ok-place.ensures) c.index.ensures
    ∙ ap (λ l. link_of l c.args.cache.0) c.self.view_is
