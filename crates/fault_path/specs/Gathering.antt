-- Frames that are gathered before anything changes.
use Rattle.std.specs.Prelude.{◌≡◌, ◌≢◌, ℕ, true, false, Some, IfOk, OnErr, OnOk, Result, option_map, slice_set}
use Rattle.vm_ids.specs.Counting.{MapperCounts}
use Rattle.vm_ids.specs.declared.numbers.NodeId.{NodeId}
use Rattle.frame_pool.specs.Pool.{bytes_of, is_pinned}
use Rattle.residency.specs.Causes.{Later}
use Rattle.residency.specs.Pushing.{TellsOn}
use Rattle.residency.specs.World.{FrameStays, IsTaken, Still, World, own_page}
use Rattle.fault_path.specs.Costs.{HoldsMore, Takes, TakesAtMost}
use Rattle.fault_path.specs.Faults.{StaysHome}

-- Every page is still, and the caller has frame f, which wasn't pinned before.
pub record IsGathered (f : ℕ) (old new : World) : Type 0 where
  pub still : Still old new
  pub taken : IsTaken new f
  pub loose : is_pinned old.frames f ≡ false
  pub pinned : new.frames.pinned ≡ slice_set old.frames.pinned f true

-- no frame was taken
pub record NoneGathered (old new : World) : Type 0 where
  pub still : Still old new
  pub pinned : new.frames.pinned ≡ old.frames.pinned

-- frame f has the page of node n
abbrev pub HasPageOf : World → ℕ → NodeId → Type 0
HasPageOf w f n = own_page w n ≡ Some (option_map (λ _. bytes_of w.frames f) w.told)

-- Every page is still, and the caller has frame f with the page of node n, which stays in its own
-- frame where it was in one.
pub record IsCopiedOut (n : NodeId) (f : ℕ) (old new : World) : Type 0 where
  pub gathered : IsGathered f old new
  pub page : HasPageOf new f n
  pub home : StaysHome n old.map new.map

-- Every page is still, and the caller has frame g with the bytes of frame f, which stays as it is.
pub record IsDoubled (f g : ℕ) (old new : World) : Type 0 where
  pub gathered : IsGathered g old new
  pub apart : g ≢ f
  pub stays : FrameStays f old new
  pub bytes : bytes_of new.frames g ≡ bytes_of new.frames f

-- A call did what it was to do, by its result and the worlds before it and after it: it gathered so
-- many frames with so many pulls, and at most a push for each frame that wasn't free. Or it failed
-- with no more pulls and pushes than these, and took no frame. Pages that left their frames were
-- pushed to their homes or to slots.
pub record Gathers {T E : Type 0} (result : Result T E) (does : T → World → World → Type 0)
    (pulls frames : ℕ) (old new : World) (before now : MapperCounts) : Type 0 where
  pub done : IfOk result (λ x. does x old new)
  pub none : OnErr result (NoneGathered old new)
  pub told : TellsOn old new before now
  pub later : Later before now
  pub held : OnOk result (HoldsMore frames old.frames new.frames)
  pub traffic : OnOk result (Takes pulls frames old.frames before now)
  pub most : TakesAtMost pulls frames old.frames before now
