use Rattle.std.proofs.result.Match.{err_is}
use Rattle.transit_ipc.proofs.Commands.MakePort.{made_call}
use Rattle.transit_ipc.proofs.table.Ports.call.Goals as goal

pub returns-in_ok-port-in-Port : goal.returns-in_ok-port-in-Port
returns-in_ok-port-in-Port g c = rw c.in-Port.is (made_call g.M.Mapper g.G.Gmi c.args.mapper.now c.args.self.now _ _ _ c.requires.can c.in_ok-port-in-Port.ensures)

pub returns-in_err-port-in-Port : goal.returns-in_err-port-in-Port
returns-in_err-port-in-Port g c =
    rw c.in-Port.is (rw (err_is c.from_residual.result _ c.from_residual.ensures.1) (made_call g.M.Mapper g.G.Gmi c.args.mapper.now c.args.self.now _ _ _ c.requires.can c.in_err-port-in-Port.ensures))
