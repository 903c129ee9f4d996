use Rattle.std.proofs.Common.{arith, ap, length, refl, ◌∙◌, ◌+◌, []}
use Rattle.flat_mm.specs.Store.{Store}
use Rattle.flat_mm.proofs.Loosening.{taken_back, taken_more, taken_none}
use Rattle.flat_mm.proofs.store.PageStore.take_loose.Goals as goal

pub loop-taken-init : goal.loop-taken-init
loop-taken-init c = taken_none c.args.self.now c.requires.none

pub take_one-requires : goal.take_one-requires
take_one-requires c = omega (arith, ap (λ (s : Store). s.free) c.loop-taken.invariant, c.requires.room)

pub loop-taken-preserved : goal.loop-taken-preserved
loop-taken-preserved c = taken_more c.args.self.now c.loop-taken.self c.take_one.new.self c.loop-taken._taken (c.loop-taken._taken + 1) refl c.loop-taken.invariant c.in-Ok.ensures.ok

pub returns-in-Err-clause-err : goal.returns-in-Err-clause-err
returns-in-Err-clause-err c =
    taken_back c.args.self.now c.loop-taken.self c.drop_loose.new.self c.loop-taken._taken (omega (arith, c.requires.room)) c.requires.none c.loop-taken.invariant
    (c.drop_loose.ensures ∙ ap (λ (s : Store). record s { free = s.free + length s.loose; loose = [] }) c.in-Err.ensures.err)
