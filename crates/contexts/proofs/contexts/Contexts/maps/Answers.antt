use Rattle.std.proofs.Common.{sym, ap, ◌∙◌}
use Rattle.std.specs.Prelude.{nat_lt}
use Rattle.std.specs.List.{list_any}
use Rattle.vm_model.specs.Answering.{maps_in}
use Rattle.contexts.specs.Actors.{Actors}
use Rattle.contexts.specs.Layout.{regions_in}
use Rattle.contexts.proofs.Counted.{mapped_counted}
use Rattle.contexts.proofs.contexts.Contexts.maps.Goals as goal

pub returns : goal.returns
returns c =
    let n = c.args.cache.0 in
    c.has.ensures ∙ ap (nat_lt 0) (c.self.invariant.mapped n) ∙ sym (mapped_counted n (regions_in c.self.inside.actors.items))
    ∙ ap (λ (a : Actors). list_any (maps_in n) a.actors) c.self.view_is
