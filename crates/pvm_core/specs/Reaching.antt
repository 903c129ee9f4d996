-- What calls of a mapper come to for the machine of a manager.
use Rattle.std.specs.Prelude.{ℕ, List, length, Option}
use Rattle.vm_ids.specs.Counting.{MapperCounts}
use Rattle.vm_ids.specs.Held.{Held, segments_of}
use Rattle.vm_model.specs.Machine.{Machine}
use Rattle.vm_model.specs.Pushing.{PushRule}
use Rattle.residency.specs.Causes.{Later}
use Rattle.residency.specs.Pushing.{RoseAtLeast}

-- From c to d no count fell; from h to g pages of the machine were pushed to the segments that name
-- its caches, each of them counted, and nothing else changed a segment.
pub record Reach (m : Machine) (h g : Option Held) (c d : MapperCounts) : Type 0 where
  pub later : Later c d
  pub pushes : List (ℕ × ℕ)
  pub few : RoseAtLeast (length pushes) c.pushes d.pushes
  pub rule : PushRule m (segments_of h) pushes (segments_of g)
