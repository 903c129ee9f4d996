use Rattle.std.proofs.Common.{refl}
use Rattle.replay.proofs.Promise.{can_call, ends_too, run_ends, unbegun}
use Rattle.replay.proofs.replaying.replay_commands.Goals as goal

pub replay_over-requires-clause-able : goal.replay_over-requires-clause-able
replay_over-requires-clause-able g c =
    let told = g.M.Mapper.held c.args.given.mapper.now in
    can_call _ _ told _ c.args.size.frames c.args.size.page_bytes (c.in-Ok.ensures.valid told) refl c.requires.page (c.in-Ok.ensures.machine told)

pub returns : goal.returns
returns g c =
    let told = g.M.Mapper.held c.args.given.mapper.now in
    ends_too g.S.Source g.K.Sink g.M.Mapper g.D.Dispatcher c.replay_over.result _ _ c.replay_over.ensures
    (run_ends c.replay_over.result c.args.size _ _ _ _ _ _ _ _ c.requires.some (c.in-Ok.ensures.machine told) (c.in-Ok.ensures.forest told))

pub returns-in-Err : goal.returns-in-Err
returns-in-Err g c = unbegun g.S.Source g.K.Sink g.M.Mapper g.D.Dispatcher _ _
