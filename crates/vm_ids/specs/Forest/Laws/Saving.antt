-- What saves keep and change.
use Rattle.std.specs.Prelude.{◌≡◌, ℕ, ◌+◌, suc, List, false, Some, None}
use Rattle.vm_ids.specs.declared.node_name.NodeName.{NodeName}
use Rattle.vm_ids.specs.Forest.NameLists.{◌∈◌}
use Rattle.vm_ids.specs.Forest.Nodes.{Forest}
use Rattle.vm_ids.specs.Forest.Shape.{IsWellShaped, IsBounded, IsConsistent}
use Rattle.vm_ids.specs.Forest.Reading.{value_of}
use Rattle.vm_ids.specs.Forest.Rules.{heir_gets}
use Rattle.vm_ids.specs.Forest.Saving.{is_unsaved, unsaved, saves, save_range}

module _ (P : Type 0) where
  abbrev pub SavesKeepConsistency : Type 0
  SavesKeepConsistency =
      (n : ℕ) (xs : List NodeName) (f : Forest P) → IsConsistent f → IsConsistent (saves n xs f)

  abbrev pub SavesKeepBound : Type 0
  SavesKeepBound =
      (n : ℕ) (xs : List NodeName) (f : Forest P) → IsWellShaped f → IsBounded f
      → IsBounded (saves n xs f)

  -- No name gains, loses or changes a value.
  abbrev pub SavesKeepValues : Type 0
  SavesKeepValues = (n : ℕ) (xs : List NodeName) (f : Forest P) → IsWellShaped f → (y : NodeName)
      → value_of (saves n xs f) y ≡ value_of f y

  -- The next save is at the first node of the range that has an own page and an heir then.
  abbrev pub NextSave : Type 0
  NextSave =
      (n : ℕ) (xs : List NodeName) (f : Forest P) (x : NodeName)
      → unsaved (saves n xs f) xs ≡ Some x
      → saves (suc n) xs f ≡ heir_gets (saves n xs f) x

  abbrev pub NoMoreSaves : Type 0
  NoMoreSaves =
      (n : ℕ) (xs : List NodeName) (f : Forest P) → unsaved (saves n xs f) xs ≡ None
      → saves (suc n) xs f ≡ saves n xs f

  -- Where saves are left to be done, each of those asked was done.
  abbrev pub SavesCountCopies : Type 0
  SavesCountCopies =
      (n : ℕ) (xs : List NodeName) (f : Forest P) (x : NodeName)
      → unsaved (saves n xs f) xs ≡ Some x
      → (saves n xs f).copies ≡ f.copies + n

  -- The saves of a range are some number of saves, and that number is counted.
  abbrev pub SaveRangeCountsCopies : Type 0
  SaveRangeCountsCopies = (xs : List NodeName) (f : Forest P) → IsWellShaped f
      → (n : ℕ) × (save_range xs f ≡ saves n xs f) × ((save_range xs f).copies ≡ f.copies + n)

  -- No page of the range has an own page and an heir then.
  abbrev pub SaveRangeEnds : Type 0
  SaveRangeEnds = (xs : List NodeName) (f : Forest P) → IsWellShaped f → (x : NodeName) → x ∈ xs
      → is_unsaved (save_range xs f) x ≡ false
