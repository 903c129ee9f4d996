-- What the pages of a range hold isn't seen when they go behind the saves of the range: a command
-- that forgets them there, whatever page p takes their places, and goes on without saves, leaves
-- the forest that it leaves anyway.
use Rattle.std.specs.Prelude.{◌≡◌, List, true, false}
use Rattle.vm_ids.specs.declared.node_name.NodeName.{NodeName}
use Rattle.vm_ids.specs.Forest.Nodes.{Forest}
use Rattle.vm_ids.specs.Forest.Shape.{IsConsistent}
use Rattle.vm_ids.specs.Forest.Settling.{settle}
use Rattle.vm_ids.specs.Forest.Saving.{save_range}
use Rattle.vm_ids.specs.Forest.Forgetting.{forgotten}
use Rattle.vm_ids.specs.Forest.Commands.{firsts, copy, move_, replace_pages, invalidate, destroy}
use Rattle.vm_ids.specs.Forest.Laws.Commands.{ArePagesOnce, CanCopy}

-- the range xs saved, and its pages forgotten
abbrev pub saved_and_forgotten : {P : Type 0} → List NodeName → P → Forest P → Forest P
saved_and_forgotten xs p f = forgotten xs p (save_range xs f)

module _ (P : Type 0) where
  abbrev pub DestroyForgets : Type 0
  DestroyForgets = (xs : List NodeName) (p : P) (f : Forest P) → IsConsistent f → ArePagesOnce f xs
      → destroy false xs (saved_and_forgotten xs p f) ≡ destroy true xs f

  abbrev pub CopyForgets : Type 0
  CopyForgets =
      (pairs : List (NodeName × NodeName)) (p : P) (f : Forest P) → IsConsistent f
      → CanCopy f pairs
      → copy false pairs (saved_and_forgotten (firsts pairs) p f) ≡ copy true pairs f

  abbrev pub MoveForgets : Type 0
  MoveForgets =
      (zeros : P) (pairs : List (NodeName × NodeName)) (p : P) (f : Forest P) → IsConsistent f
      → CanCopy f pairs
      → move_ false zeros pairs (saved_and_forgotten (firsts pairs) p f) ≡ move_ true zeros pairs f

  abbrev pub InvalidateForgets : Type 0
  InvalidateForgets =
      (pages : List (NodeName × P)) (p : P) (f : Forest P) → IsConsistent f
      → ArePagesOnce f (firsts pages)
      → settle (replace_pages pages (saved_and_forgotten (firsts pages) p f)) ≡ invalidate pages f
