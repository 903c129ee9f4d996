use Rattle.std.proofs.Common.{◌≡◌, ◌+◌, ◌-◌, ◌<◌, ◌≤◌, ℕ, None}
use Rattle.stretches.specs.Stretches.{said}
use Rattle.own_states.specs.Saying.{plain_says}
use Rattle.own_states.specs.States.{AreApart, the_states}
use Rattle.own_states.proofs.gathering.gather.Given as goal

-- so many numbers of the block are in no stretch, and no state has changed
abbrev pub invariant-loop-done : goal.invariant-loop-done
invariant-loop-done l = record {
  within : l.done ≤ 32;
  apart : AreApart l.blocks l.plain;
  states : the_states l.blocks l.plain ≡ the_states l.initial.blocks l.initial.plain;
  none : (n : ℕ) → l.start ≤ n → n < l.start + l.done → said plain_says l.plain.list n ≡ None;
}

abbrev pub decreases-loop-done : goal.decreases-loop-done
decreases-loop-done l = 32 - l.done
