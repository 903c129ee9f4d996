use Rattle.std.proofs.Common.{rules, ◌∙◌, List, [], length, ap}
use Rattle.std.specs.Prelude.{option_and_then, slice_get}
use Rattle.std.proofs.lemmas.Result.{err_from_is_err_and}
use Rattle.line_service.specs.Going.{scene_of, stand_at}
use Rattle.line_service.specs.Going.Known.{whole}
use Rattle.line_service.specs.Parking.{is_none_parked, lines_parked}
use Rattle.line_service.specs.Script.{reads_of}
use Rattle.line_service.proofs.Gathering.{grew_then}
use Rattle.line_service.proofs.LastLines.{cause_later, end_cut, end_more, none_behind}
use Rattle.line_service.proofs.Texts.{cause_or, given_or, grew_or}
use Rattle.line_service.proofs.replaying.answer_rest.Goals as goal

pub returns-in_err-answer_last-clause-answered : goal.returns-in_err-answer_last-clause-answered
returns-in_err-answer_last-clause-answered g c = λ before script h.
    let r = err_from_is_err_and c.from_residual.result c.from_residual.ensures.1 in
    rw r.1 (end_cut g.V.Service before _ c.answer_last.new.waits script (c.in_err-answer_last.ensures.goes before script h))

pub returns : goal.returns
returns g c =
    let V = g.V.Service in
    let M = g.M.Mapper in
    let D = g.D.Dispatcher in
    let old = scene_of V M c.answer_last.new.service c.answer_last.new.mapper (D.turns c.answer_last.new.dispatcher) (c.answer_last.new.gathered, c.answer_last.new.sink) in
    let new = scene_of V M c.wait_for.new.service c.wait_for.new.mapper (D.turns c.wait_for.new.dispatcher) (c.wait_for.new.replies, c.wait_for.new.sink) in
    let waits = c.answer_last.new.waits in
    let now = c.wait_for.new.waits in
    record {
      able = search rules;
      answered = (λ before script h.
          let V = g.V.Service in
          let M = g.M.Mapper in
          let D = g.D.Dispatcher in
          let reads = reads_of V.read script in
          let old = scene_of V M c.answer_last.new.service c.answer_last.new.mapper (D.turns c.answer_last.new.dispatcher) (c.answer_last.new.gathered, c.answer_last.new.sink) in
          let new = scene_of V M c.wait_for.new.service c.wait_for.new.mapper (D.turns c.wait_for.new.dispatcher) (c.wait_for.new.replies, c.wait_for.new.sink) in
          let waits = c.answer_last.new.waits in
          let now = c.wait_for.new.waits in
          end_more V c.wait_for.result before _ _ waits now reads (c.in_ok-answer_last.ensures.goes before script h)
          (given_or g.K.Sink V.semantics (whole reads) old new (stand_at old (lines_parked V waits) (length reads) (is_none_parked waits)) (stand_at new (lines_parked V now) (length reads) (is_none_parked waits)) c.wait_for.result
          (c.wait_for.ensures.goes (whole reads) (length reads)
          (λ all same. ap (λ (l : List V.semantics.Read). option_and_then V.semantics.actor_of (slice_get l (length reads))) same ∙ ap (option_and_then V.semantics.actor_of) (none_behind reads)))) c.wait_for.ensures.none);
      grew = (grew_then _ _ _ c.in_ok-answer_last.ensures.grew
          (grew_or g.K.Sink V.semantics (whole []) old new (stand_at old (lines_parked V waits) 0 (is_none_parked waits)) (stand_at new (lines_parked V now) 0 (is_none_parked waits)) c.wait_for.result
          (c.wait_for.ensures.goes (whole []) 0 (λ all same. ap (λ (l : List V.semantics.Read). option_and_then V.semantics.actor_of (slice_get l 0)) same))));
      cause = (cause_later c.wait_for.result _ _ _ c.in_ok-answer_last.ensures.cause.later
          (cause_or g.K.Sink V.semantics (whole []) old new (stand_at old (lines_parked V waits) 0 (is_none_parked waits)) (stand_at new (lines_parked V now) 0 (is_none_parked waits)) c.wait_for.result
          (c.wait_for.ensures.goes (whole []) 0 (λ all same. ap (λ (l : List V.semantics.Read). option_and_then V.semantics.actor_of (slice_get l 0)) same))));
    }
