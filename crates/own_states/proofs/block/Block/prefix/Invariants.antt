use Rattle.std.proofs.Common.{◌≡◌, ◌+◌, ◌-◌, ◌<◌, ◌≤◌, ℕ, true}
use Rattle.own_states.specs.Blocks.{state_at}
use Rattle.own_states.specs.Kinds.{is_among}
use Rattle.own_states.proofs.block.Block.prefix.Given as goal

-- so many are of these kinds
abbrev pub invariant-loop-done : goal.invariant-loop-done
invariant-loop-done l = record {
  within : l.done ≤ l.most;
  alike : (k : ℕ) → k < l.done → is_among l.kinds (state_at l.self.codes (l.from + k)) ≡ true;
}

abbrev pub decreases-loop-done : goal.decreases-loop-done
decreases-loop-done l = l.most - l.done
