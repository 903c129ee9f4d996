use Rattle.std.proofs.Common.{◌≡◌, ap, arith, length, ◌∙◌}
use Rattle.std.specs.Prelude.{nat_lt}
use Rattle.flat_mm.specs.Manager.{Manager, room_of}
use Rattle.flat_mm.proofs.Making.{plain_live}
use Rattle.flat_mm.proofs.manager.FlatMm.lacks_room.Goals as goal

pub returns-clause-free : goal.returns-clause-free
returns-clause-free c = ap (λ n. nat_lt n c.args.pages) (c.free.ensures.free ∙ ap (λ (p : Manager). p.store.free) c.self.view_is)

pub returns-clause-room : goal.returns-clause-room
returns-clause-room c =
    let i = c.self.inside in
    let left : c.free.result ≡ room_of (record { store = i.store; actors = i.contexts }) = omega (arith, c.free.ensures.counted, ap length c.self.invariant.settled, plain_live i.store.caches) in
    ap (λ n. nat_lt n c.args.pages) (left ∙ ap room_of c.self.view_is)
