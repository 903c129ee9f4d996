use Rattle.std.proofs.Common.{arith}
use Rattle.std.proofs.lemmas.Grind.{common_steps}
use Rattle.probe_table.proofs.probe.put.Goals as goal

pub returns : goal.returns
returns c = λ hashes is size below absent. record {
  few = grind (arith, common_steps, is.few);
  room = grind (arith, common_steps, is.room);
  once = λ number. grind (arith, common_steps, is.once number);
  taken = grind (arith, common_steps, is.taken);
  behind = λ at number hash stands entered. grind (arith, common_steps, is.behind at number hash);
  reached = λ at number hash stands entered on_way low high apart. grind (arith, common_steps, is.reached at number hash, is.once number, c.first_with-at.ensures.passed on_way);
}
