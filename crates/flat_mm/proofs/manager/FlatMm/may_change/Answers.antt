use Rattle.std.proofs.Common.{◌+◌, false, true, arith, subst, sym}
use Rattle.gmi_calls.proofs.Rising.{asked_alike, asked_none}
use Rattle.flat_mm.specs.Manager.{IsValid, machine_in}
use Rattle.flat_mm.proofs.WriteAccess.{all_passed, asked_err, asked_ok, none_passed, one_is_denied, passed_more}
use Rattle.flat_mm.proofs.manager.FlatMm.may_change.Goals as goal

pub loop-i-init : goal.loop-i-init
loop-i-init g c = (none_passed (g.M.Mapper.held c.args.mapper.now) (machine_in c.args.self.now) c.args.cache.0 c.args.first.0 (c.args.first.0 + 0) (omega arith), asked_none g.M.Mapper c.args.mapper.now tt)

pub may_write-requires-clause-within : goal.may_write-requires-clause-within
may_write-requires-clause-within g c = omega (arith, c.requires.within, c.loop-i-test.true)

pub may_write-requires-clause-valid : goal.may_write-requires-clause-valid
may_write-requires-clause-valid g c = subst (IsValid c.args.self.now) (sym c.loop-i.invariant.1.held) c.requires.valid

pub returns-in-Ok-false-clause-answer : goal.returns-in-Ok-false-clause-answer
returns-in-Ok-false-clause-answer g c =
    one_is_denied _ _ (machine_in c.args.self.now) c.args.cache.0 c.args.first.0 c.args.pages c.loop-i.i c.in-Ok-false.field-0 c.loop-i.invariant.1.held (omega (arith, c.loop-i-test.true)) c.in-Ok-false.field-0-test c.in-Ok-false.ensures.answer

pub returns-in-Ok-false-clause-asked : goal.returns-in-Ok-false-clause-asked
returns-in-Ok-false-clause-asked g c = asked_ok g.M.Mapper _ _ _ c.loop-i.invariant.1 c.in-Ok-false.ensures.asked false

pub returns-in-Err-clause-before : goal.returns-in-Err-clause-before
returns-in-Err-clause-before g c = c.loop-i.invariant.0

pub returns-in-Err-clause-asked : goal.returns-in-Err-clause-asked
returns-in-Err-clause-asked g c = asked_err g.M.Mapper _ _ _ c.loop-i.invariant.1 c.in-Err.ensures.asked (record { 0 = c.args.first.0 + c.loop-i.i })

pub returns-clause-answer : goal.returns-clause-answer
returns-clause-answer g c = all_passed _ (machine_in c.args.self.now) c.args.cache.0 c.args.first.0 c.args.pages (c.args.first.0 + c.loop-i.i) (omega (arith, c.loop-i-test.false)) c.loop-i.invariant.0

pub returns-clause-asked : goal.returns-clause-asked
returns-clause-asked g c = asked_alike g.M.Mapper _ _ true c.loop-i.invariant.1

pub loop-i-preserved : goal.loop-i-preserved
loop-i-preserved g c = (
  passed_more _ _ (machine_in c.args.self.now) c.args.cache.0 c.args.first.0 (c.args.first.0 + c.loop-i.i) (c.args.first.0 + (c.loop-i.i + 1)) c.in-Ok-true.field-0 c.loop-i.invariant.1.held (omega arith) c.in-Ok-true.field-0-test c.in-Ok-true.ensures.answer c.loop-i.invariant.0,
  asked_ok g.M.Mapper _ _ _ c.loop-i.invariant.1 c.in-Ok-true.ensures.asked tt,
)
