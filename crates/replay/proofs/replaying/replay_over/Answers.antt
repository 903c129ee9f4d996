use Rattle.replay.proofs.Promise.{can_start, replayed, unbegun}
use Rattle.replay.proofs.replaying.replay_over.Goals as goal

pub replay-requires-clause-able : goal.replay-requires-clause-able
replay-requires-clause-able g c = can_start g.V.Service g.M.Mapper _ c.args.given.mapper.now _ c.in-Ok.ensures c.requires.able c.requires.made

pub returns : goal.returns
returns g c =
    let V = g.V.Service in
    replayed V.semantics V.read g.S.Source g.K.Sink g.M.Mapper g.D.Dispatcher c.replay.result _ _ (c.args.given.source.now, c.args.given.sink.now, c.args.given.mapper.now, c.args.given.chooser.now, c.args.given.dispatcher.now) (c.replay.new.source, c.replay.new.sink, c.replay.new.mapper, c.replay.new.chooser, c.replay.new.dispatcher)
    c.replay.ensures.ends c.replay.ensures.source_fault c.replay.ensures.sink_fault c.of.result c.of.ensures

pub returns-in-Err : goal.returns-in-Err
returns-in-Err g c = unbegun g.S.Source g.K.Sink g.M.Mapper g.D.Dispatcher _ _
