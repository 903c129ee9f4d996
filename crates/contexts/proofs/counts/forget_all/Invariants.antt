use Rattle.std.proofs.Common.{◌≡◌, ◌+◌, ℕ, Some, take}
use Rattle.contexts.specs.Counting.{count_of, times_in}
use Rattle.contexts.proofs.counts.forget_all.Given as goal

abbrev pub invariant-loop-place : goal.invariant-loop-place
invariant-loop-place l = (n : ℕ) → count_of l.fn.counts n ≡ count_of l.counts n + times_in n (Some (take l.place l.regions.regions))
