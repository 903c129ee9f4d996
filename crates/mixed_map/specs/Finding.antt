-- How an entry is found.
use Rattle.std.specs.Prelude.{◌≡◌, ℕ, Some, None}
use Rattle.std.specs.FinMap as map
use Rattle.stretches.specs.declared.says.Says.{Ghosts}
use Rattle.stretches.specs.Stretches.{said}
use Rattle.mixed_map.specs.declared.found.Found.{Found}
use Rattle.mixed_map.specs.declared.found.Found.TheVariants.{Alone, Told}
use Rattle.mixed_map.specs.Mixed.{Mixed}

module _ {V S : Type 0} (G : Ghosts V) (told : V → S) where
  -- this is the number's entry, alone exactly where no stretch has the number
  abbrev pub IsFound : Mixed V S → ℕ → Found V S → Type 0
  IsFound m n (Alone entry) = (map.get m.cells n ≡ Some entry.now) × (said G m.list n ≡ None)
  IsFound m n (Told value) =
      (map.get m.cells n ≡ Some (told value)) × (said G m.list n ≡ Some value)
