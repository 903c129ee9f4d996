use Rattle.std.proofs.Common.{◌++◌, take, refl, rules}
use Rattle.std.proofs.lemmas.Result.{err_from_is_err_and}
use Rattle.line_service.proofs.Gathering.{grew_then}
use Rattle.line_service.proofs.Pieces.{broken_next, broken_short, grew_since, line_within, underway_next, underway_out, underway_rest}
use Rattle.line_service.proofs.feeding.feed.Goals as goal

pub returns-in_err-feed_line-clause-proceeds : goal.returns-in_err-feed_line-clause-proceeds
returns-in_err-feed_line-clause-proceeds g c = λ before script h.
    let V = g.V.Service in
    let i = c.loop-line.from in
    let p = err_from_is_err_and c.from_residual.result c.from_residual.ensures.1 in
    let written = g.K.Sink.written in
    let first = grew_since V before _ c.args.waits.now _ script h in
    let later = grew_then (written c.args.sink.now) (written c.loop-line.sink) (written c.feed_line.new.sink) c.loop-line.invariant.grew c.in_err-feed_line.ensures.grew in
    rw p.1 (broken_short V before _ (written c.feed_line.new.sink) c.feed_line.new.gathered (script ++ c.args.bytes.now) refl (grew_then _ _ _ first later)
    (broken_next c.args.bytes.now _ i c.in-Some.ensures.1 V before _ script (c.in_err-feed_line.ensures.proceeds before (script ++ take i c.args.bytes.now) (c.loop-line.invariant.underway before script h))))

pub loop-line-preserved : goal.loop-line-preserved
loop-line-preserved g c = record {
  within = line_within c.args.bytes.now _ c.loop-line.from c.in-Some.ensures.1;
  able = c.in_ok-feed_line.ensures.able;
  few = search rules;
  faults = search rules;
  grew = grew_then _ _ _ c.loop-line.invariant.grew c.in_ok-feed_line.ensures.grew;
  underway = λ before script h.
      let i = c.loop-line.from in
      underway_next c.args.bytes.now _ i c.in-Some.ensures.1 g.V.Service before _ script c.feed_line.new.waits _ (c.in_ok-feed_line.ensures.proceeds before (script ++ take i c.args.bytes.now) (c.loop-line.invariant.underway before script h));
}

pub returns-clause-proceeds : goal.returns-clause-proceeds
returns-clause-proceeds g c = λ before script h.
    let V = g.V.Service in
    let written = g.K.Sink.written in
    let first = grew_since V before _ c.args.waits.now _ script h in
    let later = grew_then (written c.args.sink.now) (written c.loop-line.sink) (written c.flush.new.sink) c.loop-line.invariant.grew c.flush.ensures.grew in
    underway_out V c.flush.result before _ (written c.flush.new.sink) c.flush.new.self c.loop-line.waits _ (script ++ c.args.bytes.now) c.flush.ensures.empty c.flush.ensures.kept (grew_then _ _ _ first later)
    (underway_rest V before _ c.loop-line.waits _ _ script c.args.bytes.now c.loop-line.from c.in_default.ensures c.extend.ensures.number c.extend.ensures.line (c.loop-line.invariant.underway before script h))
