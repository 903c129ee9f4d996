use Rattle.std.proofs.Common.{◌≡◌, ◌+◌, ◌-◌, length, vec_capacity}
use Rattle.least_heap.proofs.Numbering.{IsCovering}
use Rattle.least_heap.proofs.least_heap.cover.Given as goal

abbrev pub invariant-loop-stands : goal.invariant-loop-stands
invariant-loop-stands l = record { covering : IsCovering l.initial.stands.items l.stands.items l.place; capacity : vec_capacity l.stands ≡ vec_capacity l.initial.stands }

abbrev pub decreases-loop-stands : goal.decreases-loop-stands
decreases-loop-stands l = l.place + 1 - length l.stands.items
