use Rattle.mix_process.proofs.Commands.Exit.{able_then, apart_then, is_ended, made_then, own_then}
use Rattle.mix_process.proofs.mix.Mix.end.Goals as goal

pub destroy_own-requires-clause-able : goal.destroy_own-requires-clause-able
destroy_own-requires-clause-able g c = able_then g.M.Mapper g.G.Gmi c.args.self.now c.args.mapper.now c.args.process c.requires.able _ _ c.exit_actor.ensures

pub destroy_own-requires-clause-apart : goal.destroy_own-requires-clause-apart
destroy_own-requires-clause-apart g c = apart_then g.M.Mapper g.G.Gmi c.args.self.now c.args.mapper.now c.args.process c.requires.able _ _ c.exit_actor.ensures

pub destroy_own-requires-clause-own : goal.destroy_own-requires-clause-own
destroy_own-requires-clause-own g c = own_then g.M.Mapper g.G.Gmi c.args.self.now c.args.mapper.now c.args.process c.requires.able _ _ c.exit_actor.ensures

pub destroy_own-requires-clause-made : goal.destroy_own-requires-clause-made
destroy_own-requires-clause-made g c = made_then g.M.Mapper g.G.Gmi c.args.self.now c.args.mapper.now c.args.process c.requires.able _ _ c.exit_actor.ensures c.requires.made

pub returns : goal.returns
returns g c = is_ended g.M.Mapper g.G.Gmi c.args.self.now c.args.mapper.now c.args.process c.requires.able _ _ c.exit_actor.ensures _ _ c.destroy_own.ensures
