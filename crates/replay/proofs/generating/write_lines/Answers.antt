use Rattle.std.proofs.Common.{arith, rules, ap, sym, ◌∙◌}
use Rattle.std.proofs.lemmas.Result.{err_from_is_err_and}
use Rattle.line_service.specs.Gathering.{with_gathered}
use Rattle.line_service.proofs.Gathering.{grew_none, grew_then, with_none, wrote_out}
use Rattle.replay.proofs.Made.{written_all, written_more, written_none, written_short}
use Rattle.replay.proofs.generating.write_lines.Goals as goal

pub loop-line-init : goal.loop-line-init
loop-line-init g c =
    let written = g.K.Sink.written c.args.sink.now in
    record {
      faults = omega arith;
      grew = grew_none written;
      written = written_none _ _ written _ c.new-lines.ensures (ap (with_gathered written) c.new-gathered.ensures ∙ sym (with_none written));
    }

pub loop-line-preserved : goal.loop-line-preserved
loop-line-preserved g c = record {
  faults = search rules;
  grew = grew_then _ _ _ c.loop-line.invariant.grew c.in_ok-put_line.ensures.grew;
  written = written_more _ _ _ _ _ c.loop-line.invariant.written _ c.next_line.result _ c.next_line.ensures (rw c.as_slice.ensures.bytes at c.in_ok-put_line.ensures.wrote);
}

pub returns-in_err-put_line-clause-wrote : goal.returns-in_err-put_line-clause-wrote
returns-in_err-put_line-clause-wrote g c =
    let p = err_from_is_err_and c.from_residual.result c.from_residual.ensures.1 in
    let written = g.K.Sink.written in
    let grew = grew_then (written c.args.sink.now) (written c.loop-line.sink) (written c.put_line.new.sink) c.loop-line.invariant.grew c.in_err-put_line.ensures.grew in
    rw p.1 (written_short _ _ c.loop-line._line _ _ c.loop-line.invariant.written _ c.next_line.result c.args.script.lines (written c.put_line.new.sink) c.put_line.new.self (omega arith) c.next_line.ensures grew
    (rw c.as_slice.ensures.bytes at c.in_err-put_line.ensures.wrote))

pub returns-clause-wrote : goal.returns-clause-wrote
returns-clause-wrote g c =
    let written = g.K.Sink.written in
    wrote_out c.flush.result (written c.args.sink.now) (with_gathered (written c.loop-line.sink) c.loop-line.gathered) (written c.flush.new.sink) c.flush.new.self _ c.flush.ensures.empty c.flush.ensures.kept
    (grew_then (written c.args.sink.now) (written c.loop-line.sink) (written c.flush.new.sink) c.loop-line.invariant.grew c.flush.ensures.grew)
    (written_all _ _ c.loop-line._line _ _ c.loop-line.invariant.written c.args.script.lines (omega arith))
