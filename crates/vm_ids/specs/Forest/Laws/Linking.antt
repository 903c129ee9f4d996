-- What detach, link, stub and one page of copy and move keep and change.
use Rattle.std.specs.Prelude.{◌≡◌, ◌+◌, ◌<◌, ◌≢◌, Bool, true, Option, Some, None, [], ◌∷◌, ◌++◌}
use Rattle.vm_ids.specs.declared.node_name.NodeName.{NodeName}
use Rattle.vm_ids.specs.Forest.Names.{Working}
use Rattle.vm_ids.specs.Forest.Nodes.{Forest, node, childless, child_count, IsNode, is_live}
use Rattle.vm_ids.specs.Forest.Nodes.Hang.{Root}
use Rattle.vm_ids.specs.Forest.Shape.{IsLinked, HasPageOrParent, IsCounted, IsConsistent}
use Rattle.vm_ids.specs.Forest.Reading.{value_of}
use Rattle.vm_ids.specs.Forest.Rules.{detach, link, stub, copy_page, move_page}

-- The forest is well shaped, but for the fresh node d, which is to be linked.
pub record IsShapedBut {P : Type 0} (f : Forest P) (d : NodeName) : Type 0 where
  pub linked : IsLinked f
  pub there : IsNode f d
  pub fresh : node f d ≡ childless None Root
  pub inherits : (x : NodeName) → x ≢ d → IsNode f x → HasPageOrParent f x
  pub counted : IsCounted f

-- What is asked of the destination d and the source s of a page: nodes of two different pages.
pub record ArePages {P : Type 0} (f : Forest P) (d s : NodeName) : Type 0 where
  pub destination : IsNode f d
  pub source : IsNode f s
  pub apart : d ≢ s
  pub live_destination : is_live d ≡ true
  pub live_source : is_live s ≡ true

module _ (P : Type 0) where
  abbrev pub DetachGivesThePage : Type 0
  DetachGivesThePage =
      (f : Forest P) → IsConsistent f → (x : NodeName) (v : P) → IsNode f x → is_live x ≡ true
      → value_of (detach f x (Some v)) x ≡ Some v

  abbrev pub DetachKeepsConsistency : Type 0
  DetachKeepsConsistency =
      (f : Forest P) → IsConsistent f → (x : NodeName) (v : P) → IsNode f x → is_live x ≡ true
      → IsConsistent (detach f x (Some v))

  -- detach without a page leaves a fresh node, to be linked
  abbrev pub DetachLeavesFreshNode : Type 0
  DetachLeavesFreshNode =
      (f : Forest P) → IsConsistent f → (x : NodeName) → IsNode f x → is_live x ≡ true
      → IsShapedBut (detach f x None) x

  abbrev pub DetachKeepsOtherValues : Type 0
  DetachKeepsOtherValues =
      (f : Forest P) → IsConsistent f → (x : NodeName) (page : Option P) → IsNode f x
      → is_live x ≡ true
      → (y : NodeName) → y ≢ x → IsNode f y → value_of (detach f x page) y ≡ value_of f y

  -- The working node keeps the page that the children of x read.
  abbrev pub DetachHandsOnTheOldPage : Type 0
  DetachHandsOnTheOldPage =
      (f : Forest P) → IsConsistent f → (x : NodeName) (page : Option P) → IsNode f x
      → is_live x ≡ true
      → 0 < child_count f x → value_of (detach f x page) (Working (f.made + 1)) ≡ value_of f x

  abbrev pub DetachCountsNoCopy : Type 0
  DetachCountsNoCopy =
      (f : Forest P) (x : NodeName) (page : Option P) → (detach f x page).copies ≡ f.copies

  abbrev pub LinkKeepsConsistency : Type 0
  LinkKeepsConsistency =
      (f : Forest P) (d s : NodeName) → IsShapedBut f d → ArePages f d s → IsConsistent (link f d s)

  abbrev pub LinkGivesTheValue : Type 0
  LinkGivesTheValue =
      (f : Forest P) (d s : NodeName) → IsShapedBut f d → ArePages f d s
      → value_of (link f d s) d ≡ value_of f s

  abbrev pub LinkKeepsOtherValues : Type 0
  LinkKeepsOtherValues =
      (f : Forest P) (d s : NodeName) → IsShapedBut f d → ArePages f d s → (y : NodeName) → y ≢ d
      → IsNode f y → value_of (link f d s) y ≡ value_of f y

  abbrev pub LinkCountsNoCopy : Type 0
  LinkCountsNoCopy = (f : Forest P) (d s : NodeName) → (link f d s).copies ≡ f.copies

  abbrev pub StubKeepsConsistency : Type 0
  StubKeepsConsistency =
      (f : Forest P) (d s : NodeName) → IsShapedBut f d → ArePages f d s → IsConsistent (stub f d s)

  abbrev pub StubGivesTheValue : Type 0
  StubGivesTheValue =
      (f : Forest P) (d s : NodeName) → IsShapedBut f d → ArePages f d s
      → value_of (stub f d s) d ≡ value_of f s

  abbrev pub StubKeepsOtherValues : Type 0
  StubKeepsOtherValues =
      (f : Forest P) (d s : NodeName) → IsShapedBut f d → ArePages f d s → (y : NodeName) → y ≢ d
      → IsNode f y → value_of (stub f d s) y ≡ value_of f y

  abbrev pub StubComesLast : Type 0
  StubComesLast =
      (f : Forest P) (d s : NodeName) → (node (stub f d s) s).stubs ≡ (node f s).stubs ++ d ∷ []

  abbrev pub StubCountsNoCopy : Type 0
  StubCountsNoCopy = (f : Forest P) (d s : NodeName) → (stub f d s).copies ≡ f.copies

  abbrev pub CopyPageKeepsConsistency : Type 0
  CopyPageKeepsConsistency =
      (is_small : Bool) (f : Forest P) (d s : NodeName) → IsConsistent f → ArePages f d s
      → IsConsistent (copy_page is_small f d s)

  abbrev pub CopyPageGivesTheValue : Type 0
  CopyPageGivesTheValue =
      (is_small : Bool) (f : Forest P) (d s : NodeName) → IsConsistent f → ArePages f d s
      → value_of (copy_page is_small f d s) d ≡ value_of f s

  abbrev pub CopyPageKeepsOtherValues : Type 0
  CopyPageKeepsOtherValues =
      (is_small : Bool) (f : Forest P) (d s : NodeName) → IsConsistent f → ArePages f d s
      → (y : NodeName) → y ≢ d → IsNode f y → value_of (copy_page is_small f d s) y ≡ value_of f y

  abbrev pub CopyPageCountsNoCopy : Type 0
  CopyPageCountsNoCopy =
      (is_small : Bool) (f : Forest P) (d s : NodeName)
      → (copy_page is_small f d s).copies ≡ f.copies

  abbrev pub MovePageKeepsConsistency : Type 0
  MovePageKeepsConsistency =
      (f : Forest P) (d s : NodeName) (zeros : P) → IsConsistent f → ArePages f d s
      → IsConsistent (move_page f d s zeros)

  abbrev pub MovePageGivesTheValue : Type 0
  MovePageGivesTheValue =
      (f : Forest P) (d s : NodeName) (zeros : P) → IsConsistent f → ArePages f d s
      → value_of (move_page f d s zeros) d ≡ value_of f s

  abbrev pub MovePageLeavesZeros : Type 0
  MovePageLeavesZeros =
      (f : Forest P) (d s : NodeName) (zeros : P) → IsConsistent f → ArePages f d s
      → value_of (move_page f d s zeros) s ≡ Some zeros

  abbrev pub MovePageKeepsOtherValues : Type 0
  MovePageKeepsOtherValues =
      (f : Forest P) (d s : NodeName) (zeros : P) → IsConsistent f → ArePages f d s → (y : NodeName)
      → y ≢ d → y ≢ s → IsNode f y → value_of (move_page f d s zeros) y ≡ value_of f y

  abbrev pub MovePageCountsNoCopy : Type 0
  MovePageCountsNoCopy =
      (f : Forest P) (d s : NodeName) (zeros : P) → (move_page f d s zeros).copies ≡ f.copies
