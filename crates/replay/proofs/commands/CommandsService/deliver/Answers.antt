use Rattle.replay.proofs.Calling.{able_after, alive_after, formed, made_little}
use Rattle.replay.proofs.commands.CommandsService.deliver.Goals as goal

pub deliver-requires-clause-formed : goal.deliver-requires-clause-formed
deliver-requires-clause-formed g c = formed _ c.requires.read

pub returns-clause-able : goal.returns-clause-able
returns-clause-able g c = able_after _ _ _ _ _ _ c.requires.able _ _ c.deliver.ensures.delivered.call

pub returns-clause-made : goal.returns-clause-made
returns-clause-made g c = made_little g.G.Gmi g.M.Mapper _ _ _ _ c.requires.able _ _ c.deliver.ensures.delivered.call

pub returns-clause-still_live : goal.returns-clause-still_live
returns-clause-still_live g c = alive_after g.G.Gmi g.M.Mapper _ _ _ _ c.requires.able _ _ _ c.deliver.ensures.delivered.call
