use Rattle.std.proofs.Common.{rules, ◌+◌, ◌≤◌, arith}
use Rattle.line_service.specs.Going.{scene_of, stand_at}
use Rattle.line_service.specs.Parking.{is_none_parked, lines_parked}
use Rattle.line_service.proofs.LastLines.{line_cause, line_grew}
use Rattle.line_service.proofs.Pieces.{underway_end}
use Rattle.line_service.proofs.Texts.{given_or}
use Rattle.line_service.proofs.feeding.feed_line.Goals as goal

pub returns : goal.returns
returns g c =
    let first : 1 ≤ c.extend.new.self.number = omega (arith, c.extend.ensures.number, c.requires.able.first) in
    let V = g.V.Service in
    let M = g.M.Mapper in
    let D = g.D.Dispatcher in
    let old = scene_of V M c.args.service.now c.args.mapper.now (D.turns c.args.dispatcher.now) (c.args.gathered.now, c.args.sink.now) in
    let new = scene_of V M c.answer_line-result.new.service c.answer_line-result.new.mapper (D.turns c.answer_line-result.new.dispatcher) (c.answer_line-result.new.replies, c.answer_line-result.new.sink) in
    record {
      serve = search rules;
      able = search rules;
      few = search rules;
      proceeds = (λ before script h.
          let V = g.V.Service in
          let M = g.M.Mapper in
          let D = g.D.Dispatcher in
          let goes = rw c.as_slice.ensures.value at c.answer_line-result.ensures.goes in
          let old = scene_of V M c.args.service.now c.args.mapper.now (D.turns c.args.dispatcher.now) (c.args.gathered.now, c.args.sink.now) in
          let new = scene_of V M c.answer_line-result.new.service c.answer_line-result.new.mapper (D.turns c.answer_line-result.new.dispatcher) (c.answer_line-result.new.replies, c.answer_line-result.new.sink) in
          let waits = c.args.waits.now in
          let now = c.answer_line-result.new.waits in
          underway_end V g.met.V.Service.fronts c.answer_line-result.result before _ _ waits now _ c.extend.new.self _ script c.args.rest.now c.requires.plain c.extend.ensures.number c.extend.ensures.line c.next_line.ensures.number c.next_line.ensures.line
          (λ known issued e comes. given_or g.K.Sink V.semantics known old new (stand_at old (lines_parked V waits) issued (is_none_parked waits)) (stand_at new (lines_parked V now) (issued + 1) (is_none_parked now)) c.answer_line-result.result (goes known issued e comes)) h);
      grew = line_grew V g.K.Sink c.answer_line-result.result old new c.args.waits.now c.answer_line-result.new.waits c.extend.new.self.number _ first c.answer_line-result.ensures.goes;
      cause = line_cause V g.K.Sink c.answer_line-result.result old new c.args.waits.now c.answer_line-result.new.waits c.extend.new.self.number _ first c.answer_line-result.ensures.goes;
    }
