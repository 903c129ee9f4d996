use Rattle.std.proofs.Common.{◌≡◌, ◌≤◌, ◌<◌, ◌+◌, ◌^◌, false, length, drop}
use Rattle.std.specs.Fmt.{digits_onto}
use Rattle.actor_script.specs.Text.{hexadecimal}
use Rattle.actor_script.proofs.draft.put_hexadecimal.Given as goal

abbrev pub invariant-loop-left : goal.invariant-loop-left
invariant-loop-left g l = record {
  within : l.first ≤ 15;
  room : length l.digits ≡ 16;
  small : l.left < 16 ^ (l.first + 1);
  text : digits_onto (l.first + 49) 16 false l.left (drop (l.first + 1) l.digits) ≡ hexadecimal l.number;
}

abbrev pub decreases-loop-left : goal.decreases-loop-left
decreases-loop-left g l = l.left
