use Rattle.std.proofs.Common.{refl}
use Rattle.std.proofs.result.Match.{err_is}
use Rattle.transit_ipc.proofs.Calling.CallAgain.{map_called, other_called}
use Rattle.transit_ipc.proofs.table.Ports.answer.Goals as goal

pub returns-in_ok-region-in-Map : goal.returns-in_ok-region-in-Map
returns-in_ok-region-in-Map g c =
    map_called g.M.Mapper g.G.Gmi c.args.self.now c.args.mapper.now c.requires.can c.map.new.self c.args.command.now c.in-Map.actor c.in-Map.mapping _ c.in-Map.is c.in_ok-region-in-Map.ensures.call c.in_ok-region-in-Map.ensures.same

pub returns-in_err-region-in-Map : goal.returns-in_err-region-in-Map
returns-in_err-region-in-Map g c =
    rw (err_is c.from_residual.result _ c.from_residual.ensures.1)
    (map_called g.M.Mapper g.G.Gmi c.args.self.now c.args.mapper.now c.requires.can c.map.new.self c.args.command.now c.in-Map.actor c.in-Map.mapping _ c.in-Map.is c.in_err-region-in-Map.ensures.call c.in_err-region-in-Map.ensures.same)

pub returns-in_default : goal.returns-in_default
returns-in_default g c = other_called g.M.Mapper g.G.Gmi c.args.self.now c.args.mapper.now c.requires.can _ refl c.answer.new.mapper c.args.command.now _ c.requires.served c.in_default.not-Map c.answer.ensures.call
