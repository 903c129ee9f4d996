use Rattle.std.proofs.Common.{ℕ, arith, ◌≡◌, ◌+◌, ap, refl, sym, subst}
use Rattle.frame_pool.specs.Pool.{Frames, held_count}
use Rattle.residency.specs.Between.{world_at}
use Rattle.residency.specs.Causes.{pushes_for}
use Rattle.residency.specs.Freeing.{MakesFree}
use Rattle.residency.specs.World.{World}
use Rattle.residency.proofs.Worlds.Arms.{on_ok}
use Rattle.residency.proofs.Moves.Claimed.{pushes_when_full}
use Rattle.residency.proofs.Translations.Lost.{tables_same}
use Rattle.residency.proofs.store.Store.make_free.Goals as goal

pub returns-in-None-clause-free : goal.returns-in-None-clause-free
returns-in-None-clause-free g c =
    let before : Frames → World = λ p. world_at g.M.Mapper c.args.mapper.now c.args.caches.now (record c.args.self.now { frames = p }) in
    let after : World = world_at g.M.Mapper c.make_room.new.mapper c.make_room.new.caches c.make_room.new.self in
    let free = λ (k : ℕ) (p : Frames). MakesFree c.make_room.result k (before p) after (g.M.Mapper.counts c.args.mapper.now) (g.M.Mapper.counts c.make_room.new.mapper) in
    subst (λ (k : ℕ). free k c.args.self.now.frames) (sym (pushes_when_full c.args.self.now.frames.held c.in-None.ensures.1))
    (subst (free 1) c.in-None.ensures.0 c.make_room.ensures.free)

pub returns-in-None-clause-idle : goal.returns-in-None-clause-idle
returns-in-None-clause-idle g c = λ none. absurd (omega (arith, pushes_when_full c.args.self.now.frames.held c.in-None.ensures.1, none))

pub returns-in-None-clause-idle_caches : goal.returns-in-None-clause-idle_caches
returns-in-None-clause-idle_caches g c = λ none. absurd (omega (arith, pushes_when_full c.args.self.now.frames.held c.in-None.ensures.1, none))

pub returns-in-None-clause-held : goal.returns-in-None-clause-held
returns-in-None-clause-held g c =
    let once : pushes_for c.args.self.now.frames.held ≡ 1 = pushes_when_full c.args.self.now.frames.held c.in-None.ensures.1 in
    on_ok (held_count c.make_room.new.self.frames + pushes_for c.args.self.now.frames.held ≡ held_count c.args.self.now.frames + 1) c.make_room.result (omega (arith, once, c.make_room.ensures.held, ap (λ (p : Frames). held_count p) c.in-None.ensures.0))

pub returns-in-Some-clause-tables : goal.returns-in-Some-clause-tables
returns-in-Some-clause-tables g c = tables_same c.args.self.now c.args.self.now refl refl
