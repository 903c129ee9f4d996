-- A frame is made free.
use Rattle.std.specs.Prelude.{◌≡◌, ℕ, ◌+◌, ◌-◌, ◌≤◌, Result, IfOk, OnErr}
use Rattle.vm_ids.specs.Counting.{MapperCounts}
use Rattle.vm_ids.specs.declared.numbers.FrameId.{FrameId}
use Rattle.residency.specs.Causes.{Later, PushFailed, Traffic, dirty_count, failed_pushes}
use Rattle.residency.specs.Pushing.{TellsOn}
use Rattle.residency.specs.World.{IsMadeFree, OthersStay, Still, World}

-- A call made a frame free, by its result and the worlds before it and after it, with no more
-- pushes than these. Or it failed with no more, and took no frame.
pub record MakesFree {E : Type 0} (result : Result FrameId E) (pushes : ℕ) (old new : World)
    (before now : MapperCounts) : Type 0 where
  -- every page is still
  pub still : Still old new
  -- the segments changed by pushes of own pages to their homes alone
  pub told : TellsOn old new before now
  -- the frame is its taker's
  pub done : IfOk result (λ f. IsMadeFree f.0 old new)
  -- or no frame was pinned or unpinned
  pub pinned : OnErr result (new.frames.pinned ≡ old.frames.pinned)
  -- no page comes to a frame
  pub others : OthersStay old new
  -- no count fell
  pub later : Later before now
  -- there was no pull, and a push for each dirty page that left its frame, and for the fault
  pub traffic : Traffic 0
      (dirty_count old.caches - dirty_count new.caches + failed_pushes result) before now
  -- no page became dirty
  pub dirty : dirty_count new.caches ≤ dirty_count old.caches
  -- the pushes are no more than these
  pub few : dirty_count old.caches - dirty_count new.caches + failed_pushes result ≤ pushes
  -- it failed only where a push did
  pub cause : OnErr result (PushFailed before now)
