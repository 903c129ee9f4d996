use Rattle.std.proofs.Common.{arith}
use Rattle.actor_script.proofs.Digits.{looked_up, not_found}
use Rattle.actor_script.proofs.reading.digits.digit_of.Goals as goal

pub returns-then-value-lt16 : goal.returns-then-value-lt16
returns-then-value-lt16 c = looked_up c.args.byte (omega arith) c.if-value-lt16.true

pub returns-else-value-lt16 : goal.returns-else-value-lt16
returns-else-value-lt16 c = not_found c.args.byte (omega arith) c.if-value-lt16.false
