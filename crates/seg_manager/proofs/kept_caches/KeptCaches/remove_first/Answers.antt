use Rattle.std.proofs.Common.{ap, sym, ◌∙◌}
use Rattle.std.specs.Prelude.{drop, filter, not}
use Rattle.seg_manager.specs.Inner.{is_of}
use Rattle.seg_manager.specs.Ring.{items_of}
use Rattle.seg_manager.proofs.Lookup.Rings.{first_less}
use Rattle.seg_manager.proofs.kept_caches.KeptCaches.remove_first.Goals as goal

pub returns-in-Some-clause-items : goal.returns-in-Some-clause-items
returns-in-Some-clause-items c =
    c.remove.ensures.items
    ∙ ap (λ k. filter (λ k. not (is_of c.in-Some.cache.0 k)) k.items) (sym c.self.view_is)
    ∙ first_less c.self.inside.links (items_of c.self.inside.links) c.in-Some.cache c.self.invariant (sym c.in-Some.ensures)
    ∙ ap (λ k. drop 1 k.items) c.self.view_is
