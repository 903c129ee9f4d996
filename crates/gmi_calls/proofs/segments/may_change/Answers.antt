use Rattle.std.proofs.Common.{sym}
use Rattle.gmi_calls.proofs.Accessing.{asked_pages, may_named, may_unnamed}
use Rattle.gmi_calls.proofs.Rising.{asked_none}
use Rattle.gmi_calls.proofs.segments.may_change.Goals as goal

pub may_write-requires-clause-there : goal.may_write-requires-clause-there
may_write-requires-clause-there g c = asked_pages c.args.machine.now _ _ _ _ _ (sym c.in-Some.ensures) c.requires.within c.requires.ready

pub returns-in-Some-clause-answer : goal.returns-in-Some-clause-answer
returns-in-Some-clause-answer g c = may_named c.args.machine.now _ _ _ _ _ c.may_write.result (sym c.in-Some.ensures) c.may_write.ensures.answer

pub returns-in-None-clause-answer : goal.returns-in-None-clause-answer
returns-in-None-clause-answer g c = may_unnamed c.args.machine.now _ _ _ _ (sym c.in-None.ensures)

pub returns-in-None-clause-asked : goal.returns-in-None-clause-asked
returns-in-None-clause-asked g c = asked_none g.M.Mapper _ _
