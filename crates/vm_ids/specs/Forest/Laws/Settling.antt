-- What settle and its steps keep and change.
use Rattle.std.specs.Prelude.{◌≡◌, ℕ, ◌<◌, ◌≤◌, cond, true, false, Some, None}
use Rattle.vm_ids.specs.declared.node_name.NodeName.{NodeName}
use Rattle.vm_ids.specs.Forest.Names.{Working, same}
use Rattle.vm_ids.specs.Forest.Nodes.{Forest, child_count, IsNode, is_live}
use Rattle.vm_ids.specs.Forest.Shape.{IsWellShaped, IsBounded, IsConsistent}
use Rattle.vm_ids.specs.Forest.Reading.{value_of}
use Rattle.vm_ids.specs.Forest.Settling.{thin, settle_step, settle}

-- Each working node has at least two children.
abbrev pub IsSettled : {P : Type 0} → Forest P → Type 0
IsSettled f = (k : ℕ) → IsNode f (Working k) → 2 ≤ child_count f (Working k)

module _ (P : Type 0) where
  abbrev pub ThinIsWorking : Type 0
  ThinIsWorking =
      (f : Forest P) (w : NodeName) → thin f ≡ Some w
      → IsNode f w × (is_live w ≡ false) × (child_count f w < 2)

  -- The order of settle is the least number first.
  abbrev pub ThinIsLeast : Type 0
  ThinIsLeast =
      (f : Forest P) (k j : ℕ) → thin f ≡ Some (Working k) → IsNode f (Working j)
      → child_count f (Working j) < 2
      → k ≤ j

  abbrev pub NothingIsThin : Type 0
  NothingIsThin = (f : Forest P) → thin f ≡ None → IsSettled f

  abbrev pub SettledHasNothingThin : Type 0
  SettledHasNothingThin = (f : Forest P) → IsSettled f → thin f ≡ None

  abbrev pub StepKeepsConsistency : Type 0
  StepKeepsConsistency =
      (f : Forest P) (w : NodeName) → IsConsistent f → thin f ≡ Some w
      → IsConsistent (settle_step f w)

  -- The node is gone, and no other name gains, loses or changes a value.
  abbrev pub StepKeepsValues : Type 0
  StepKeepsValues = (f : Forest P) (w y : NodeName) → IsConsistent f → thin f ≡ Some w
      → value_of (settle_step f w) y ≡ cond (same y w) None (value_of f y)

  abbrev pub StepCountsNoCopy : Type 0
  StepCountsNoCopy = (f : Forest P) (w : NodeName) → (settle_step f w).copies ≡ f.copies

  -- Settle is its steps, the thin node with the least number first, until no node is thin.
  abbrev pub SettleBySteps : Type 0
  SettleBySteps =
      (f : Forest P) (w : NodeName) → IsConsistent f → thin f ≡ Some w
      → settle f ≡ settle (settle_step f w)

  abbrev pub SettleEnds : Type 0
  SettleEnds = (f : Forest P) → thin f ≡ None → settle f ≡ f

  abbrev pub SettleKeepsConsistency : Type 0
  SettleKeepsConsistency = (f : Forest P) → IsConsistent f → IsConsistent (settle f)

  abbrev pub SettleSettles : Type 0
  SettleSettles = (f : Forest P) → IsConsistent f → IsSettled (settle f)

  abbrev pub SettleKeepsLiveValues : Type 0
  SettleKeepsLiveValues = (f : Forest P) → IsConsistent f → (y : NodeName) → is_live y ≡ true
      → value_of (settle f) y ≡ value_of f y

  abbrev pub SettleKeepsValues : Type 0
  SettleKeepsValues = (f : Forest P) → IsConsistent f → (y : NodeName) → IsNode (settle f) y
      → value_of (settle f) y ≡ value_of f y

  abbrev pub SettledIsBounded : Type 0
  SettledIsBounded = (f : Forest P) → IsWellShaped f → IsSettled f → IsBounded f

  abbrev pub SettleCountsNoCopy : Type 0
  SettleCountsNoCopy = (f : Forest P) → (settle f).copies ≡ f.copies
