use Rattle.actor_script.proofs.Digits.{AreRead}
use Rattle.actor_script.proofs.reading.digits.read_decimal.Given as goal

abbrev pub invariant-loop-byte : goal.invariant-loop-byte
invariant-loop-byte l = AreRead 10 l.word l.byte-index l.number
