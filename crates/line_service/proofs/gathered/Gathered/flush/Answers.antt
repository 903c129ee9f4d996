use Rattle.std.proofs.Common.{◌≡◌, ℕ, List, drop, ap, ◌∙◌, rules}
use Rattle.line_service.specs.Gathering.{with_gathered}
use Rattle.line_service.proofs.Gathering.{front_given, grew_then}
use Rattle.line_service.proofs.gathered.Gathered.flush.Goals as goal

pub loop-self-preserved : goal.loop-self-preserved
loop-self-preserved g c =
    let written = g.K.Sink.written in
    let sink = c.write.new.self in
    let count = c.in_ok-count.count in
    let bytes = c.loop-self.self-inside.bytes.items in
    let rest : c.drop-drain.new.self.0.items ≡ drop count bytes = c.drop-drain.ensures c.drain.ensures.ready.2 ∙ c.drain.ensures.kept in
    record {
      faults = search rules;
      grew = grew_then (written c.args.sink.now) (written c.loop-self.sink) (written sink) c.loop-self.invariant.grew (_, c.in_ok-count.ensures.taken);
      kept = ap (λ (left : List ℕ). with_gathered (written sink) left) rest
          ∙ front_given (written c.loop-self.sink) (written sink) bytes count (rw c.as_slice.ensures.value at c.in_ok-count.ensures.taken)
          ∙ c.loop-self.invariant.kept;
    }
