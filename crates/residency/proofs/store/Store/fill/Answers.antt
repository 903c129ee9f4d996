use Rattle.std.proofs.Common.{List, ℕ, length, sym, ap, subst, ◌∙◌, Ok, true, false, refl, replicate, set, rules, ◌≡◌}
use Rattle.frame_pool.specs.Pool.{Frames}
use Rattle.local_cache.specs.declared.own_state.OwnState.TheVariants.{Zero}
use Rattle.local_cache.specs.Own.{own_of}
use Rattle.residency.specs.Between.{world_at}
use Rattle.residency.specs.Filling.{Fills}
use Rattle.residency.specs.World.{World}
use Rattle.residency.specs.declared.store.Store.{Store}
use Rattle.residency.proofs.Worlds.Homes.{world_is}
use Rattle.residency.proofs.Moves.GivenUp.{zero_left}
use Rattle.residency.proofs.Moves.Brought.{brought, zero_brought}
use Rattle.residency.proofs.Moves.Filled.{brought_fills}
use Rattle.residency.proofs.store.Store.fill.Goals as goal

pub returns-in_default-clause-fills : goal.returns-in_default-clause-fills
returns-in_default-clause-fills g c =
    let w : World = world_at g.M.Mapper c.args.mapper.now c.args.caches.now c.args.self.now in
    let zero : own_of c.args.caches.now c.args.node ≡ Zero = zero_left (own_of c.args.caches.now c.args.node) c.requires.node.own_page c.requires.node.away (λ e. c.in_default.not-OnSegment (c.own_state.ensures ∙ e)) (λ s e. c.in_default.not-Slot s (c.own_state.ensures ∙ e)) in
    let page : List ℕ = replicate c.args.self.now.frames.page 0 in
    let counts = g.M.Mapper.counts c.args.mapper.now in
    let last = g.M.Mapper.given c.args.mapper.now in
    subst (λ (v : World). Fills (Ok c.args.frame) c.args.node c.args.frame.0 last w v counts counts)
    (sym (world_is _ (brought w c.args.frame.0 c.args.node true c.args.self.now.slots page)
    refl
    refl
    c.settle_in.ensures.caches
    (ap (λ (s : Store). s.frames) c.settle_in.ensures.store ∙ ap (λ (p : Frames). record p { pinned = set p.pinned c.args.frame.0 false }) c.zero.ensures)
    (ap (λ (s : Store). s.slots) c.settle_in.ensures.store)
    (ap (λ (s : Store). s.map) c.settle_in.ensures.store)
    (ap (λ (s : Store). length s.marks) c.settle_in.ensures.store) (ap (λ (s : Store). length s.tables) c.settle_in.ensures.store)))
    (brought_fills w c.args.frame c.args.node page last counts counts Zero c.requires.right c.requires.taken zero (search rules) true c.args.self.now.slots c.requires.node.node refl refl refl
    (zero_brought w c.args.frame.0 c.args.node c.requires.right c.requires.taken c.requires.node.node zero) (λ _. refl) (λ pulled. absurd (cc pulled)) (search rules))
