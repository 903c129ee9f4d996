-- What own and heir_gets keep and change.
use Rattle.std.specs.Prelude.{◌≡◌, ◌+◌, ◌++◌, cond, ◌≢◌, true, Some, None, is_some}
use Rattle.vm_ids.specs.declared.node_name.NodeName.{NodeName}
use Rattle.vm_ids.specs.Forest.NameLists.{◌∈◌, without}
use Rattle.vm_ids.specs.Forest.Nodes.{Forest, node, IsNode, is_live}
use Rattle.vm_ids.specs.Forest.Shape.{IsWellShaped, IsBounded, IsConsistent}
use Rattle.vm_ids.specs.Forest.Reading.{value_of, path_of, counts_of}
use Rattle.vm_ids.specs.Forest.Rules.{own, heir, heir_gets}

module _ (P : Type 0) where
  abbrev pub OwnKeepsConsistency : Type 0
  OwnKeepsConsistency =
      (f : Forest P) → IsConsistent f → (x : NodeName) → IsNode f x → IsConsistent (own f x)

  abbrev pub OwnKeepsBound : Type 0
  OwnKeepsBound =
      (f : Forest P) → IsWellShaped f → (x : NodeName) → IsNode f x → IsBounded f
      → IsBounded (own f x)

  -- No name gains, loses or changes a value.
  abbrev pub OwnKeepsValues : Type 0
  OwnKeepsValues = (f : Forest P) → IsWellShaped f → (x : NodeName) → IsNode f x → (y : NodeName)
      → value_of (own f x) y ≡ value_of f y

  abbrev pub OwnGivesPage : Type 0
  OwnGivesPage =
      (f : Forest P) → IsWellShaped f → (x : NodeName) → IsNode f x
      → (node (own f x) x).own ≡ value_of f x

  abbrev pub OwnCountsOneCopy : Type 0
  OwnCountsOneCopy = (f : Forest P) → IsWellShaped f → (x : NodeName) → IsNode f x
      → counts_of (own f x) ≡ record (counts_of f) { copies = f.copies + 1 }

  abbrev pub HeirGetsKeepsConsistency : Type 0
  HeirGetsKeepsConsistency =
      (f : Forest P) → IsConsistent f → (x : NodeName) (v : P) → (node f x).own ≡ Some v
      → IsConsistent (heir_gets f x)

  abbrev pub HeirGetsKeepsBound : Type 0
  HeirGetsKeepsBound =
      (f : Forest P) → IsWellShaped f → (x : NodeName) (v : P) → (node f x).own ≡ Some v
      → IsBounded f
      → IsBounded (heir_gets f x)

  -- No name gains, loses or changes a value.
  abbrev pub HeirGetsKeepsValues : Type 0
  HeirGetsKeepsValues =
      (f : Forest P) → IsWellShaped f → (x : NodeName) (v : P) → (node f x).own ≡ Some v
      → (y : NodeName)
      → value_of (heir_gets f x) y ≡ value_of f y

  abbrev pub HeirGetsThePage : Type 0
  HeirGetsThePage =
      (f : Forest P) → IsWellShaped f → (x h : NodeName) (v : P) → (node f x).own ≡ Some v
      → heir f x ≡ Some h
      → (node (heir_gets f x) h).own ≡ Some v

  -- The stubs left are the heir's, in their order, behind those that it has.
  abbrev pub HeirGetsTheStubs : Type 0
  HeirGetsTheStubs =
      (f : Forest P) → IsWellShaped f → (x h : NodeName) (v : P) → (node f x).own ≡ Some v
      → heir f x ≡ Some h
      → (node (heir_gets f x) h).stubs ≡ (node f h).stubs ++ without h (node f x).stubs

  abbrev pub HeirGetsLeavesNoHeir : Type 0
  HeirGetsLeavesNoHeir =
      (f : Forest P) → IsWellShaped f → (x : NodeName) (v : P) → is_live x ≡ true
      → (node f x).own ≡ Some v
      → heir (heir_gets f x) x ≡ None

  -- No other node reads through x then.
  abbrev pub HeirGetsLeavesNoReader : Type 0
  HeirGetsLeavesNoReader =
      (f : Forest P) → IsWellShaped f → (x : NodeName) (v : P) → is_live x ≡ true
      → (node f x).own ≡ Some v → (y : NodeName) → y ≢ x → x ∈ path_of (heir_gets f x) y → ⊥

  -- A copy is counted where there is an heir.
  abbrev pub HeirGetsCountsOneCopy : Type 0
  HeirGetsCountsOneCopy =
      (f : Forest P) → IsWellShaped f → (x : NodeName) (v : P) → (node f x).own ≡ Some v
      → counts_of (heir_gets f x)
      ≡ record (counts_of f) { copies = f.copies + cond (is_some (heir f x)) 1 0 }
