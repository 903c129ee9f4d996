use Rattle.std.proofs.Common.{◌++◌, rules}
use Rattle.std.specs.Prelude.{codes}
use Rattle.std.proofs.lemmas.Result.{err_from_is_err_and}
use Rattle.line_service.specs.Gathering.{with_gathered}
use Rattle.line_service.proofs.Gathering.{none_of}
use Rattle.line_service.proofs.gathered.Gathered.put_line.Goals as goal

pub returns-in_err-flush-clause-wrote : goal.returns-in_err-flush-clause-wrote
returns-in_err-flush-clause-wrote g c =
    let written = g.K.Sink.written in
    let p = err_from_is_err_and c.from_residual.result c.from_residual.ensures.1 in
    rw p.1 (none_of (with_gathered (written c.args.sink.now) c.args.self.now) (with_gathered (written c.flush.new.sink) c.flush.new.self) (c.args.line.now ++ codes "\n") (search rules))
