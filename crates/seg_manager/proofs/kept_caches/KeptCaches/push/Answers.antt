use Rattle.std.proofs.Common.{ap, sym, subst, cond, ◌==◌, ◌∙◌, ◌++◌, ◌∷◌, [], None, Some}
use Rattle.seg_manager.specs.Keeps.{AreOnce}
use Rattle.seg_manager.specs.Linked.{changed_at, end_set, link_of, with_after}
use Rattle.seg_manager.specs.Ring.{items_of}
use Rattle.seg_manager.proofs.Lookup.Rings.{items_are, not_linked, ring_more, ring_of}
use Rattle.seg_manager.proofs.kept_caches.KeptCaches.push.Goals as goal

pub insert-requires-clause-none : goal.insert-requires-clause-none
insert-requires-clause-none c =
    not_linked c.self.inside.links (items_of c.self.inside.links) c.args.kept c.self.invariant (subst (λ k. AreOnce (k.items ++ c.args.kept ∷ [])) (sym c.self.view_is) c.requires.once)

pub invariant_of-self : goal.invariant_of-self
invariant_of-self c = ring_of c.set_before.new.self (items_of c.self.inside.links ++ c.args.kept ∷ []) (ring_more c.self.inside.links c.insert.new.self c.set_after.new.self c.set_before.new.self c.args.kept (items_of c.self.inside.links) c.self.invariant (subst (λ k. AreOnce (k.items ++ c.args.kept ∷ [])) (sym c.self.view_is) c.requires.once)
    (λ n. c.insert.ensures.links n ∙ ap (λ o. cond (c.args.kept.cache.0 == n) (Some (record { kept = c.args.kept; before = o; after = None })) (link_of c.self.inside.links n)) c.last-last.ensures) (ap (λ l. l.first) c.insert.ensures.same) (ap (λ l. l.last) c.insert.ensures.same) c.insert.ensures.count
    (λ n. c.set_after.ensures.links n ∙ ap (λ o. changed_at (with_after (Some c.args.kept.cache)) o n (link_of c.insert.new.self n)) c.last-last.ensures) (c.set_after.ensures.first ∙ ap (λ o. end_set o (Some c.args.kept.cache) c.insert.new.self.first) c.last-last.ensures) (ap (λ l. l.last) c.set_after.ensures.same) c.set_after.ensures.count
    c.set_before.ensures.links c.set_before.ensures.last (ap (λ l. l.first) c.set_before.ensures.same) c.set_before.ensures.count)

pub returns-clause-items : goal.returns-clause-items
returns-clause-items c = items_are c.set_before.new.self (items_of c.self.inside.links ++ c.args.kept ∷ []) (ring_more c.self.inside.links c.insert.new.self c.set_after.new.self c.set_before.new.self c.args.kept (items_of c.self.inside.links) c.self.invariant (subst (λ k. AreOnce (k.items ++ c.args.kept ∷ [])) (sym c.self.view_is) c.requires.once)
    (λ n. c.insert.ensures.links n ∙ ap (λ o. cond (c.args.kept.cache.0 == n) (Some (record { kept = c.args.kept; before = o; after = None })) (link_of c.self.inside.links n)) c.last-last.ensures) (ap (λ l. l.first) c.insert.ensures.same) (ap (λ l. l.last) c.insert.ensures.same) c.insert.ensures.count
    (λ n. c.set_after.ensures.links n ∙ ap (λ o. changed_at (with_after (Some c.args.kept.cache)) o n (link_of c.insert.new.self n)) c.last-last.ensures) (c.set_after.ensures.first ∙ ap (λ o. end_set o (Some c.args.kept.cache) c.insert.new.self.first) c.last-last.ensures) (ap (λ l. l.last) c.set_after.ensures.same) c.set_after.ensures.count
    c.set_before.ensures.links c.set_before.ensures.last (ap (λ l. l.first) c.set_before.ensures.same) c.set_before.ensures.count) ∙ ap (λ k. k.items ++ c.args.kept ∷ []) c.self.view_is
