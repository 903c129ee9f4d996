use Rattle.std.proofs.Common.{◌+◌}
use Rattle.line_service.proofs.Going.{goes_or}
use Rattle.line_service.proofs.answering.answer_line.Goals as goal

pub returns-clause-goes : goal.returns-clause-goes
returns-clause-goes g c = λ known issued e so.
    goes_or g.V.Service.semantics g.R.Replies.puts g.R.Replies.fails known c.ask.result _ _ _ _ _ _ (c.in_ok-answer_first.ensures.goes known issued e so) (c.ask.ensures.goes known (issued + 1))
