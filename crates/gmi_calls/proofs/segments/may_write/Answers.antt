use Rattle.std.proofs.Common.{Ok, true, arith}
use Rattle.gmi_calls.proofs.Asking.{all_asked, denies_one, may_all, none_more, none_yet}
use Rattle.gmi_calls.proofs.Rising.{asked_alike, asked_none, asked_then, fault_counted}
use Rattle.gmi_calls.proofs.segments.may_write.Goals as goal

pub loop-i-init : goal.loop-i-init
loop-i-init g c = (none_yet _ _ _ _ (omega arith), asked_none g.M.Mapper c.args.mapper.now tt)

pub returns-in-Ok-false-clause-answer : goal.returns-in-Ok-false-clause-answer
returns-in-Ok-false-clause-answer g c = denies_one _ _ _ _ _ c.loop-i.i c.in-Ok-false.field-0 c.loop-i.invariant.1.held (omega (arith, c.loop-i-test.true)) c.in-Ok-false.field-0-test c.in-Ok-false.ensures.granted

pub returns-in-Ok-false-clause-asked : goal.returns-in-Ok-false-clause-asked
returns-in-Ok-false-clause-asked g c =
    let E = c.in-Ok-false.ensures in
    asked_then g.M.Mapper _ _ _ _ _ c.loop-i.invariant.1 E.held E.counts E.page tt

pub returns-in-Err-clause-asked : goal.returns-in-Err-clause-asked
returns-in-Err-clause-asked g c =
    let E = c.get_write_access.ensures in
    asked_then g.M.Mapper _ _ _ c.get_write_access.result _ c.loop-i.invariant.1 E.held E.counts E.page (fault_counted 0 0 c.get_write_access.result _ c.in-Err.is)

pub returns-clause-answer : goal.returns-clause-answer
returns-clause-answer g c = may_all _ _ _ _ (all_asked _ _ _ _ _ c.loop-i-test.false c.loop-i.invariant.0)

pub returns-clause-asked : goal.returns-clause-asked
returns-clause-asked g c = asked_alike g.M.Mapper _ _ true c.loop-i.invariant.1

pub loop-i-preserved : goal.loop-i-preserved
loop-i-preserved g c =
    let E = c.in-Ok-true.ensures in (
      none_more _ _ _ _ _ _ c.in-Ok-true.field-0 c.loop-i.invariant.1.held (omega arith) c.in-Ok-true.field-0-test E.granted c.loop-i.invariant.0,
      asked_then g.M.Mapper _ _ _ _ (Ok tt) c.loop-i.invariant.1 E.held E.counts E.page tt,
    )
