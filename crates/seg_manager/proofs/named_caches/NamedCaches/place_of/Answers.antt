use Rattle.std.proofs.Common.{ap, sym, ◌∙◌}
use Rattle.std.specs.List.{position_from}
use Rattle.seg_manager.specs.Inner.{first_of, first_with}
use Rattle.seg_manager.proofs.Lookup.Named.{first_none, first_same}
use Rattle.seg_manager.proofs.named_caches.NamedCaches.place_of.Goals as goal

pub returns-in-Some : goal.returns-in-Some
returns-in-Some c =
    c.place_with.ensures
    ∙ ap (position_from (first_with c.in-Some.cache.now.0) 0) c.deref.ensures.value
    ∙ first_same c.self.inside.list.items c.args.seg.0 0 c.in-Some.cache.now c.self.invariant.named (sym (c.self.invariant.found c.args.seg.0) ∙ sym c.in-Some.ensures.value)
    ∙ ap (λ n. position_from (first_of c.args.seg.0) 0 n.items) c.self.view_is

pub returns-in-None : goal.returns-in-None
returns-in-None c =
    sym (first_none c.self.inside.list.items c.args.seg.0 0 (sym (c.self.invariant.found c.args.seg.0) ∙ sym c.in-None.ensures.value))
    ∙ ap (λ n. position_from (first_of c.args.seg.0) 0 n.items) c.self.view_is
