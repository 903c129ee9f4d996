use Rattle.std.proofs.Common.{refl}
use Rattle.std.proofs.lemmas.Result.{err_from_is_err_and}
use Rattle.line_service.specs.Script.{reads_of}
use Rattle.line_service.proofs.Gathering.{grew_then}
use Rattle.line_service.proofs.LastLines.{all_out, cut_out, underway_none}
use Rattle.line_service.proofs.Pieces.{grew_since}
use Rattle.line_service.proofs.replaying.finish.Goals as goal

pub returns-in_err-answer_rest-clause-answered : goal.returns-in_err-answer_rest-clause-answered
returns-in_err-answer_rest-clause-answered g c = λ before script h.
    let V = g.V.Service in
    let written = g.K.Sink.written in
    let r = err_from_is_err_and c.from_residual.result c.from_residual.ensures.1 in
    let first = grew_since V before _ c.args.waits.now _ script h in
    let said = rw c.new-gathered.ensures at c.in_err-answer_rest.ensures.answered in
    rw r.1 (cut_out V before _ (written c.answer_rest.new.sink) c.answer_rest.new.gathered (reads_of V.read script) refl (grew_then _ _ _ first c.in_err-answer_rest.ensures.grew) (said before script (underway_none V before _ c.args.waits.now _ script h)))

pub returns-clause-answered : goal.returns-clause-answered
returns-clause-answered g c = λ before script h.
    let V = g.V.Service in
    let written = g.K.Sink.written in
    let first = grew_since V before _ c.args.waits.now _ script h in
    let later = grew_then (written c.args.sink.now) (written c.answer_rest.new.sink) (written c.flush.new.sink) c.in_ok-answer_rest.ensures.grew c.flush.ensures.grew in
    let said = rw c.new-gathered.ensures at c.in_ok-answer_rest.ensures.answered in
    all_out V c.flush.result before _ (written c.flush.new.sink) c.flush.new.self (reads_of V.read script) c.flush.ensures.empty c.flush.ensures.kept (grew_then _ _ _ first later) (said before script (underway_none V before _ c.args.waits.now _ script h))
