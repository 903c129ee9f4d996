use Rattle.gmi_calls.proofs.Rising.{asked_none}
use Rattle.gmi_calls.proofs.segments.may_store.Goals as goal

pub returns-in-None-clause-asked : goal.returns-in-None-clause-asked
returns-in-None-clause-asked g c = asked_none g.M.Mapper _ _
