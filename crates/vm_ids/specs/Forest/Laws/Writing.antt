-- What write keeps and changes.
use Rattle.std.specs.Prelude.{◌≡◌, ◌+◌, ◌≤◌, ◌≢◌, true, None, option_map}
use Rattle.vm_ids.specs.declared.node_name.NodeName.{NodeName}
use Rattle.vm_ids.specs.Forest.Nodes.{Forest, node, IsNode, is_live}
use Rattle.vm_ids.specs.Forest.Shape.{IsWellShaped, IsBounded, IsConsistent}
use Rattle.vm_ids.specs.Forest.Reading.{value_of}
use Rattle.vm_ids.specs.Forest.Rules.{heir, write}

module _ (P : Type 0) where
  abbrev pub WriteKeepsConsistency : Type 0
  WriteKeepsConsistency =
      (f : Forest P) → IsConsistent f → (x : NodeName) (change : P → P) → IsNode f x
      → is_live x ≡ true
      → IsConsistent (write f x change)

  abbrev pub WriteKeepsBound : Type 0
  WriteKeepsBound =
      (f : Forest P) → IsWellShaped f → (x : NodeName) (change : P → P) → IsNode f x
      → is_live x ≡ true
      → IsBounded f → IsBounded (write f x change)

  abbrev pub WriteChangesItsNode : Type 0
  WriteChangesItsNode =
      (f : Forest P) → IsWellShaped f → (x : NodeName) (change : P → P) → IsNode f x
      → is_live x ≡ true
      → value_of (write f x change) x ≡ option_map change (value_of f x)

  -- Working nodes keep their values too, and no name gains or loses one.
  abbrev pub WriteKeepsOtherValues : Type 0
  WriteKeepsOtherValues =
      (f : Forest P) → IsWellShaped f → (x : NodeName) (change : P → P) → IsNode f x
      → is_live x ≡ true
      → (y : NodeName) → y ≢ x → value_of (write f x change) y ≡ value_of f y

  -- The node owns what was written, and nobody else reads it.
  abbrev pub WriteOwnsThePage : Type 0
  WriteOwnsThePage =
      (f : Forest P) → IsWellShaped f → (x : NodeName) (change : P → P) → IsNode f x
      → is_live x ≡ true
      → (node (write f x change) x).own ≡ option_map change (value_of f x)

  abbrev pub WriteLeavesNoHeir : Type 0
  WriteLeavesNoHeir =
      (f : Forest P) → IsWellShaped f → (x : NodeName) (change : P → P) → IsNode f x
      → is_live x ≡ true
      → heir (write f x change) x ≡ None

  abbrev pub WriteCountsAtMostTwoCopies : Type 0
  WriteCountsAtMostTwoCopies =
      (f : Forest P) (x : NodeName) (change : P → P) → (write f x change).copies ≤ f.copies + 2
