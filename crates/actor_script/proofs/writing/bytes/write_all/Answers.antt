use Rattle.std.proofs.Common.{arith}
use Rattle.std.proofs.lemmas.List.{take_rest}
use Rattle.actor_script.proofs.Written.{writes_more}
use Rattle.actor_script.proofs.writing.bytes.write_all.Goals as goal

pub loop-at-preserved : goal.loop-at-preserved
loop-at-preserved g c =
    let bytes = c.args.bytes.now in
    let K = g.K.Sink in
    let cause = c.in_ok-at.ensures.cause in
    record {
      within = omega (arith, c.in_ok-at.ensures.most);
      faults = omega (arith, cause.later);
      done = writes_more (K.written c.args.sink.now) (K.written c.loop-at.sink) (K.written c.write.new.self) bytes c.loop-at.at c.in_ok-at.field-0 c.loop-at.invariant.done
          (rw take_rest at c.in_ok-at.ensures.taken);
    }
