-- What the calls on ranges keep.
use Rattle.vm_ids.specs.Counting.{MapperCounts}
use Rattle.local_cache.specs.Whole.{IsWhole}
use Rattle.residency.specs.Causes.{Later}
use Rattle.residency.specs.World.{World}
use Rattle.fault_path.specs.Faults.{Kept}
use Rattle.segment_ops.specs.Pushing.{TellsValues}

-- After any answer a call has kept what faults keep, and whole caches; no count fell, and whatever
-- was pushed to a segment is what a node reads whose page that is.
pub record StaysWhole (old new : World) (before now : MapperCounts) : Type 0 where
  pub kept : Kept old new
  pub whole : IsWhole new.caches
  pub later : Later before now
  pub told : TellsValues old new before now
