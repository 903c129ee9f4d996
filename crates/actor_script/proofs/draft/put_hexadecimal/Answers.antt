use Rattle.std.proofs.Common.{◌++◌, arith, ap, replicate, length-set, ◌∙◌}
use Rattle.actor_script.proofs.Hexadecimal.{none_written, one_written, last_written, some_left, fewer_left}
use Rattle.actor_script.proofs.draft.put_hexadecimal.Goals as goal

pub loop-left-init : goal.loop-left-init
loop-left-init g c = record {
  within = omega arith;
  room = omega arith;
  small = omega (arith, c.ranges.number);
  text = none_written c.args.number (replicate 16 0) (omega arith);
}

pub loop-left-preserved : goal.loop-left-preserved
loop-left-preserved g c =
    let l = c.loop-left in
    let more = c.loop-left-test.true in
    let some = some_left l.left l.first l.invariant.small more in
    record {
      within = omega (arith, l.invariant.within);
      room = length-set l.digits l.first c.last_digit.result ∙ l.invariant.room;
      small = fewer_left l.left l.first l.invariant.small some;
      text = one_written l.first l.left l.digits c.last_digit.result more some (omega (arith, l.invariant)) c.last_digit.ensures ∙ l.invariant.text;
    }

pub returns-clause-text : goal.returns-clause-text
returns-clause-text g c =
    let l = c.loop-left in
    let all = last_written l.first l.left l.digits c.last_digit-2.result c.loop-left-test.false (omega (arith, l.invariant)) l.invariant.room c.last_digit-2.ensures in
    c.put.ensures ∙ ap (λ digits. c.args.line.now.items ++ digits) (all ∙ l.invariant.text)
