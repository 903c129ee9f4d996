use Rattle.gmi_calls.specs.Parking.{NoPull}
use Rattle.replay.proofs.Calling.{able_issued, alive_issued, formed, made_issued, waiter_alive}
use Rattle.replay.proofs.commands.CommandsService.issue.Goals as goal

pub issue-requires-clause-formed : goal.issue-requires-clause-formed
issue-requires-clause-formed g c = formed _ c.requires.read

pub returns-clause-able : goal.returns-clause-able
returns-clause-able g c = able_issued g.G.Gmi g.M.Mapper _ _ _ _ c.requires.able NoPull _ _ c.issue.result c.issue.ensures.answered c.issue.ensures.waits

pub returns-clause-made : goal.returns-clause-made
returns-clause-made g c = made_issued g.G.Gmi g.M.Mapper _ _ _ _ c.requires.able NoPull _ _ c.issue.result c.issue.ensures.answered

pub returns-clause-alive : goal.returns-clause-alive
returns-clause-alive g c = waiter_alive g.G.Gmi g.M.Mapper _ _ _ _ c.requires.able NoPull _ _ c.issue.result c.issue.ensures.waits

pub returns-clause-still_live : goal.returns-clause-still_live
returns-clause-still_live g c = alive_issued g.G.Gmi g.M.Mapper _ _ _ _ c.requires.able NoPull _ _ c.issue.result c.issue.ensures.answered c.issue.ensures.waits
