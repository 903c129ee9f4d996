use Rattle.std.proofs.Common.{◌≡◌, ◌+◌, ◌-◌, length, vec_capacity}
use Rattle.linear_index.proofs.Chaining.{IsCovering}
use Rattle.linear_index.proofs.chains.cover.Given as goal

abbrev pub invariant-loop-cells : goal.invariant-loop-cells
invariant-loop-cells l = record { covering : IsCovering l.initial.cells.items l.cells.items l.place; capacity : vec_capacity l.cells ≡ vec_capacity l.initial.cells }

abbrev pub decreases-loop-cells : goal.decreases-loop-cells
decreases-loop-cells l = l.place + 1 - length l.cells.items
