use Rattle.std.proofs.Common.{ap}
use Rattle.actor_script.specs.declared.tally.Tally.{Tally}
use Rattle.actor_script.proofs.Tallied.{ok_more, ok_same, tally_then}
use Rattle.actor_script.proofs.tally.Tally.count.Goals as goal
use Rattle.actor_script.proofs.tally.Tally.count.Goals.{then-is_ok, else-is_ok}

pub returns : goal.returns
returns c = elim c.if-is_ok.branch [
  | then-is_ok w ↦
      tally_then c.args.self.now c.if-is_ok.self c.args.answer.now c.is_ok.result c.loaded_in.result c.is_ok.ensures c.loaded_in.ensures (ap (λ (t : Tally). t.lines) w.self-is)
      (ok_more c.is_ok.result _ _ w.if-is_ok.true (ap (λ (t : Tally). t.ok) w.self-is)) (ap (λ (t : Tally). t.loaded) w.self-is)
  | else-is_ok w ↦
      tally_then c.args.self.now c.if-is_ok.self c.args.answer.now c.is_ok.result c.loaded_in.result c.is_ok.ensures c.loaded_in.ensures (ap (λ (t : Tally). t.lines) w.self-is)
      (ok_same c.is_ok.result _ _ w.if-is_ok.false (ap (λ (t : Tally). t.ok) w.self-is)) (ap (λ (t : Tally). t.loaded) w.self-is)
]
