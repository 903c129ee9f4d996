use Rattle.std.proofs.Common.{◌≡◌, ◌≤◌, ◌*◌, take, sum}
use Rattle.actor_script.proofs.tally.sum_of.Given as goal

abbrev pub invariant-loop-byte : goal.invariant-loop-byte
invariant-loop-byte l = record {
  is : l.sum ≡ sum (take l.byte-index l.bytes);
  most : l.sum ≤ 255 * l.byte-index;
}
