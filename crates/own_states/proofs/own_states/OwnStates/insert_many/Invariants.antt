use Rattle.std.proofs.Common.{◌≡◌, ◌+◌, ◌-◌, ◌≤◌}
use Rattle.own_states.specs.Ranges.{with_plain}
use Rattle.own_states.proofs.own_states.OwnStates.insert_many.Given as goal

-- so many have the state
abbrev pub invariant-loop-done : goal.invariant-loop-done
invariant-loop-done l = record {
  within : l.done ≤ l.count;
  inserted : l.self ≡ record l.initial.self { states = with_plain l.initial.self.states l.first l.done l.plain; count = l.initial.self.count + l.done };
}

abbrev pub decreases-loop-done : goal.decreases-loop-done
decreases-loop-done l = l.count - l.done
