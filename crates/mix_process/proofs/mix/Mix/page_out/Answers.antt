use Rattle.mix_process.proofs.Calling.OneCall.{page_out_called}
use Rattle.mix_process.proofs.mix.Mix.page_out.Goals as goal

pub returns : goal.returns
returns g c = page_out_called g.M.Mapper g.G.Gmi c.args.self.now c.args.mapper.now c.requires.can _ _ _ _ c.page_out.ensures
