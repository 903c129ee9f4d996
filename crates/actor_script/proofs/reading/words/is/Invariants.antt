use Rattle.std.proofs.Common.{◌≡◌, take}
use Rattle.actor_script.proofs.reading.words.is.Given as goal

abbrev pub invariant-loop-at : goal.invariant-loop-at
invariant-loop-at g l = take l.at l.verb ≡ take l.at l.word
