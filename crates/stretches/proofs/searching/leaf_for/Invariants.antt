use Rattle.std.proofs.Common.{◌-◌, ◌<◌, ◌≤◌, length}
use Rattle.stretches.specs.Leaves.{leaf_at}
use Rattle.stretches.specs.Places.{first_key}
use Rattle.stretches.proofs.searching.leaf_for.Given as goal

-- the first number of the leaf isn't above the number, or it is the first, and that of the end is
abbrev pub invariant-loop-leaf : goal.invariant-loop-leaf
invariant-loop-leaf g l =
    let ls = l.list.lists in
    record {
      ordered : l.leaf < l.behind;
      within : l.behind ≤ length ls;
      before : 0 < l.leaf → first_key g.T.Keyed.key (leaf_at ls l.leaf) ≤ l.number;
      next : l.behind < length ls → l.number < first_key g.T.Keyed.key (leaf_at ls l.behind);
    }

abbrev pub decreases-loop-leaf : goal.decreases-loop-leaf
decreases-loop-leaf g l = l.behind - l.leaf
