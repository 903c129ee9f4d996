use Rattle.std.proofs.Common.{◌≡◌, ◌<◌, ◌+◌, length, rules}
use Rattle.line_service.specs.Going.{scene_of, stand_at}
use Rattle.line_service.specs.Parking.{is_none_parked, lines_parked}
use Rattle.line_service.proofs.LastLines.{last_more, line_cause, line_grew, no_more_lines}
use Rattle.line_service.proofs.Texts.{given_or}
use Rattle.line_service.proofs.replaying.answer_last.Goals as goal

pub returns-then-is_empty-clause-goes : goal.returns-then-is_empty-clause-goes
returns-then-is_empty-clause-goes g c = λ before script h.
    let empty : length c.args.progress.now.line.items ≡ 0 = search rules in
    no_more_lines g.V.Service before _ c.args.waits.now _ script empty h

pub returns : goal.returns
returns g c =
    let V = g.V.Service in
    let M = g.M.Mapper in
    let D = g.D.Dispatcher in
    let old = scene_of V M c.args.service.now c.args.mapper.now (D.turns c.args.dispatcher.now) (c.args.gathered.now, c.args.sink.now) in
    let new = scene_of V M c.answer_line.new.service c.answer_line.new.mapper (D.turns c.answer_line.new.dispatcher) (c.answer_line.new.replies, c.answer_line.new.sink) in
    record {
      serve = search rules;
      away = search rules;
      made = search rules;
      goes = (λ before script h.
          let V = g.V.Service in
          let M = g.M.Mapper in
          let D = g.D.Dispatcher in
          let some : 0 < length c.args.progress.now.line.items = search rules in
          let goes = rw c.as_slice-line.ensures.value at c.answer_line.ensures.goes in
          let old = scene_of V M c.args.service.now c.args.mapper.now (D.turns c.args.dispatcher.now) (c.args.gathered.now, c.args.sink.now) in
          let new = scene_of V M c.answer_line.new.service c.answer_line.new.mapper (D.turns c.answer_line.new.dispatcher) (c.answer_line.new.replies, c.answer_line.new.sink) in
          let waits = c.args.waits.now in
          let now = c.answer_line.new.waits in
          last_more V g.met.V.Service.fronts c.answer_line.result before _ _ waits now _ script some h
          (λ known issued e comes. given_or g.K.Sink V.semantics known old new (stand_at old (lines_parked V waits) issued (is_none_parked waits)) (stand_at new (lines_parked V now) (issued + 1) (is_none_parked now)) c.answer_line.result (goes known issued e comes)));
      grew = line_grew V g.K.Sink c.answer_line.result old new c.args.waits.now c.answer_line.new.waits c.args.progress.now.number _ c.requires.able.first c.answer_line.ensures.goes;
      cause = line_cause V g.K.Sink c.answer_line.result old new c.args.waits.now c.answer_line.new.waits c.args.progress.now.number _ c.requires.able.first c.answer_line.ensures.goes;
    }
