use Rattle.std.proofs.Common.{ap, sym, ◌∙◌}
use Rattle.std.specs.Prelude.{filter, not}
use Rattle.seg_manager.specs.Inner.{is_of}
use Rattle.seg_manager.specs.Ring.{items_of}
use Rattle.seg_manager.proofs.Lookup.Rings.{items_are, none_less, ring_less, ring_of}
use Rattle.seg_manager.proofs.kept_caches.KeptCaches.remove.Goals as goal

pub invariant_of-self : goal.invariant_of-self
invariant_of-self c = ring_of c.set_before.new.self (filter (λ k. not (is_of c.args.cache.0 k)) (items_of c.self.inside.links)) (ring_less c.self.inside.links c.take.new.self c.set_after.new.self c.set_before.new.self c.args.cache c.in-Some.link (items_of c.self.inside.links) c.self.invariant c.in-Some.ensures.link
    c.take.ensures.links (ap (λ l. l.first) c.take.ensures.same) (ap (λ l. l.last) c.take.ensures.same) c.in-Some.ensures.count
    c.set_after.ensures.links c.set_after.ensures.first (ap (λ l. l.last) c.set_after.ensures.same) c.set_after.ensures.count
    c.set_before.ensures.links c.set_before.ensures.last (ap (λ l. l.first) c.set_before.ensures.same) c.set_before.ensures.count)

pub returns-in-Some-clause-items : goal.returns-in-Some-clause-items
returns-in-Some-clause-items c = items_are c.set_before.new.self (filter (λ k. not (is_of c.args.cache.0 k)) (items_of c.self.inside.links)) (ring_less c.self.inside.links c.take.new.self c.set_after.new.self c.set_before.new.self c.args.cache c.in-Some.link (items_of c.self.inside.links) c.self.invariant c.in-Some.ensures.link
    c.take.ensures.links (ap (λ l. l.first) c.take.ensures.same) (ap (λ l. l.last) c.take.ensures.same) c.in-Some.ensures.count
    c.set_after.ensures.links c.set_after.ensures.first (ap (λ l. l.last) c.set_after.ensures.same) c.set_after.ensures.count
    c.set_before.ensures.links c.set_before.ensures.last (ap (λ l. l.first) c.set_before.ensures.same) c.set_before.ensures.count)
    ∙ ap (λ k. filter (λ k. not (is_of c.args.cache.0 k)) k.items) c.self.view_is

pub returns-in_default-clause-items : goal.returns-in_default-clause-items
returns-in_default-clause-items c =
    ap items_of c.in_default.ensures.none
    ∙ sym (none_less c.self.inside.links (items_of c.self.inside.links) c.args.cache.0 c.self.invariant c.in_default.ensures.link)
    ∙ ap (λ k. filter (λ k. not (is_of c.args.cache.0 k)) k.items) c.self.view_is
