-- What is saved.
use Rattle.std.specs.Prelude.{◌≡◌, ℕ, ◌≤◌, false, List, Some, ◌⊎◌, IsSome, IfErr, Result}
use Rattle.vm_ids.specs.Counting.{MapperCounts}
use Rattle.vm_ids.specs.declared.node_name.NodeName.{NodeName}
use Rattle.vm_ids.specs.declared.numbers.NodeId.{NodeId}
use Rattle.vm_ids.specs.Forest.NameLists.{◌∈◌}
use Rattle.vm_ids.specs.Forest.Rules.{heir}
use Rattle.vm_ids.specs.Forest.Saving.{is_unsaved, save_range, saves, unsaved}
use Rattle.local_cache.specs.Arena.{Arena}
use Rattle.local_cache.specs.Reading.{forest_of, name_of}
use Rattle.residency.specs.Causes.{HasMissCause}
use Rattle.residency.specs.declared.miss.Miss.{Miss}
use Rattle.residency.specs.StoreForest.{store_forest}
use Rattle.residency.specs.World.{World}
use Rattle.fault_path.specs.Coming.{OnlyCome}

-- all saves of these pages were done
abbrev pub AreSaved : List NodeName → World → World → Type 0
AreSaved names old new = store_forest new ≡ save_range names (store_forest old)

-- none of these pages has an own page and an heir
abbrev pub AreSavedNow : Arena → List NodeName → Type 0
AreSavedNow a names = (x : NodeName) → x ∈ names → is_unsaved (forest_of a) x ≡ false

-- so many saves of these pages were done: at each of them a page was left to be saved, and after
-- them one is
pub record SavesEnd (names : List NodeName) (done : ℕ) (old new : World) : Type 0 where
  pub forest : store_forest new ≡ saves done names (store_forest old)
  pub left : (n : ℕ) → n ≤ done → IsSome (unsaved (saves n names (store_forest old)) names)

-- a pull failed, or a push
pub record HasFailed (before now : MapperCounts) : Type 0 where
  pub miss : Miss
  pub cause : HasMissCause before now miss

-- Node n is of one of the saves of these pages: it has the page that is saved then, or is its
-- heir. Where so many were done and the next one failed, it is none that comes after.
pub record IsOfSaves {T : Type 0} (result : Result T ℕ) (names : List NodeName) (w : World)
    (n : NodeId) : Type 0 where
  pub step : ℕ
  pub early : IfErr result (λ done. step ≤ done)
  pub page : NodeName
  pub next : unsaved (saves step names (store_forest w)) names ≡ Some page
  pub one : (name_of w.caches n ≡ page)
      ⊎ (heir (saves step names (store_forest w)) page ≡ Some (name_of w.caches n))

-- only nodes of pages that were saved and the heirs that got these may have come to a frame
abbrev pub OnlySavedCome : {T : Type 0} → Result T ℕ → List NodeName → World → World → Type 0
OnlySavedCome result names old new = OnlyCome (IsOfSaves result names old) old new
