use Rattle.std.proofs.Common.{◌≡◌, ℕ, ◌≤◌, Some}
use Rattle.local_cache.specs.Whole.{segment_of}
use Rattle.pvm_core.proofs.segments.is_opened.Given as goal

abbrev pub invariant-loop-made_before : goal.invariant-loop-made_before
invariant-loop-made_before l = (other : ℕ) → other ≤ l.made_before → segment_of l.caches other ≡ Some (Some l.seg) → ⊥
