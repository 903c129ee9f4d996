use Rattle.std.proofs.Common.{rules}
use Rattle.std.proofs.lemmas.Result.{err_from_is_err_and}
use Rattle.actor_script.specs.Text.{text_of}
use Rattle.line_service.specs.Gathering.{with_gathered}
use Rattle.line_service.proofs.Gathering.{grew_by, grew_then, none_of}
use Rattle.line_service.proofs.gathered.Gathered.put_reply.Goals as goal

pub returns-in_err-flush-clause-wrote : goal.returns-in_err-flush-clause-wrote
returns-in_err-flush-clause-wrote g c =
    let written = g.K.Sink.written in
    let p = err_from_is_err_and c.from_residual.result c.from_residual.ensures.1 in
    rw p.1 (none_of (with_gathered (written c.args.sink.now) c.args.self.now) (with_gathered (written c.flush.new.sink) c.flush.new.self) (text_of c.args.number c.args.answer.now) (search rules))

pub returns-clause-grew : goal.returns-clause-grew
returns-clause-grew g c =
    let written = g.K.Sink.written in
    grew_then (written c.args.sink.now) (written c.flush.new.sink) (written c.write_reply.new.sink) c.in_ok-flush.ensures.grew
    (grew_by c.write_reply.result _ _ _ c.write_reply.ensures.wrote)
