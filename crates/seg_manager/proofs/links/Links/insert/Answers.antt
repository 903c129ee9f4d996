use Rattle.std.proofs.Common.{◌≡◌, ◌<◌, Some, arith, ap, sym, ◌∙◌, length, cond, ◌==◌, ◌++◌, ◌∷◌, [], subst}
use Rattle.std.specs.FinMap as map
use Rattle.seg_manager.specs.Linked.{ArePlaced, link_at, link_of}
use Rattle.seg_manager.proofs.Lookup.Placed.{links_more, place_free, placed_more, unplaced}
use Rattle.seg_manager.proofs.links.Links.insert.Goals as goal

pub overflow_cast-place : goal.overflow_cast-place
overflow_cast-place c = omega (arith, c.requires.room, ap (λ l. l.room) c.self.view_is, ap (λ l. length l.links) c.self.view_is, c.self.ranges, c.len-place.ensures, c.self.inside.links.ok)

pub enter-requires-clause-new_key : goal.enter-requires-clause-new_key
enter-requires-clause-new_key c = unplaced c.self.inside.links.items c.self.inside.index.places c.self.inside.room c.self.invariant.2 c.args.link.kept.cache.0 (ap (λ l. link_of l c.args.link.kept.cache.0) c.self.view_is ∙ c.requires.none)

pub enter-requires-clause-free : goal.enter-requires-clause-free
enter-requires-clause-free c = λ other e.
    place_free c.self.inside.links.items c.self.inside.index.places c.self.inside.room c.self.invariant.2 c.args.link
    (ap (λ l. link_of l c.args.link.kept.cache.0) c.self.view_is ∙ c.requires.none)
    (omega (arith, c.requires.room, ap (λ l. l.room) c.self.view_is, ap (λ l. length l.links) c.self.view_is))
    other (e ∙ ap (λ n. Some n) (omega (arith, c.len-place.ensures, c.self.inside.links.ok)))

pub invariant_of-self : goal.invariant_of-self
invariant_of-self c =
    let none = ap (λ l. link_of l c.args.link.kept.cache.0) c.self.view_is ∙ c.requires.none in
    let fits : length c.self.inside.links.items < c.self.inside.room = omega (arith, c.requires.room, ap (λ l. l.room) c.self.view_is, ap (λ l. length l.links) c.self.view_is) in
    let last : c.len-place.result ≡ length c.self.inside.links.items = omega (arith, c.len-place.ensures, c.self.inside.links.ok) in (
      omega (arith, c.self.invariant.0, ap (λ e. e.room) c.enter.ensures),
      omega (arith, c.self.invariant.1, c.push_reserved.ensures.capacity),
      subst (λ links. ArePlaced links c.enter.new.self.places c.self.inside.room) (sym c.push_reserved.ensures.items)
          (subst (λ places. ArePlaced (c.self.inside.links.items ++ c.args.link ∷ []) places c.self.inside.room)
          (sym (ap (λ e. e.places) c.enter.ensures ∙ ap (map.insert c.self.inside.index.places c.args.link.kept.cache.0) last))
          (placed_more c.self.inside.links.items c.self.inside.index.places c.self.inside.room c.self.invariant.2 c.args.link none fits)),
    )

pub returns-clause-links : goal.returns-clause-links
returns-clause-links c = λ n.
    let none = ap (λ l. link_of l c.args.link.kept.cache.0) c.self.view_is ∙ c.requires.none in
    let fits : length c.self.inside.links.items < c.self.inside.room = omega (arith, c.requires.room, ap (λ l. l.room) c.self.view_is, ap (λ l. length l.links) c.self.view_is) in
    let last : c.len-place.result ≡ length c.self.inside.links.items = omega (arith, c.len-place.ensures, c.self.inside.links.ok) in
    (λ i. link_at (c.push_reserved.ensures.items i) (map.get ((ap (λ e. e.places) c.enter.ensures ∙ ap (map.insert c.self.inside.index.places c.args.link.kept.cache.0) last) i) n))
    ∙ links_more c.self.inside.links.items c.self.inside.index.places c.self.inside.room c.self.invariant.2 c.args.link none fits n
    ∙ ap (λ l. cond (c.args.link.kept.cache.0 == n) (Some c.args.link) (link_of l n)) c.self.view_is
