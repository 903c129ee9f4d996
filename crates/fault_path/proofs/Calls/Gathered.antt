-- What a call that gathers frames answers.
use Rattle.std.proofs.Common.{◌≡◌, ℕ, ◌+◌, ◌≤◌, Result, Ok, Err, arith}
use Rattle.std.specs.Prelude.{IfOk, IsErrAnd, OnErr, OnOk}
use Rattle.vm_ids.specs.Counting.{MapperCounts}
use Rattle.frame_pool.specs.Pool.{held_count}
use Rattle.residency.specs.Causes.{Later, Traffic, pushes_for}
use Rattle.residency.specs.Pushing.{TellsOn}
use Rattle.residency.specs.World.{World}
use Rattle.residency.proofs.Worlds.Arms.{on_ok, on_ok_then}
use Rattle.fault_path.specs.Costs.{HoldsMore, Takes, TakesAtMost}
use Rattle.fault_path.specs.Gathering.{Gathers, NoneGathered}
use Rattle.fault_path.proofs.Calls.Costs.{pulls_few, pulls_most, pushes_free}

module _ {T E : Type 0} {does : T → World → World → Type 0} (pulls frames : ℕ) (old new : World) (before now : MapperCounts) (told : TellsOn old new before now) (later : Later before now) where
  pub done_gathers : (x : T) → does x old new → HoldsMore frames old.frames new.frames → Takes pulls frames old.frames before now → Gathers {T = T} {E = E} (Ok x) does pulls frames old new before now
  done_gathers x done held traffic = record { done = done; none = tt; told = told; later = later; held = held; traffic = traffic; most = pulls_most _ _ _ _ _ _ traffic (omega arith) (omega arith) }

  pub failed_gathers : (P : E → Type 0) (r : Result T E) → IsErrAnd r P → NoneGathered old new → TakesAtMost pulls frames old.frames before now → Gathers r does pulls frames old new before now
  failed_gathers P (Ok x) is none most = absurd is
  failed_gathers P (Err e) is none most = record { done = tt; none = none; told = told; later = later; held = tt; traffic = tt; most = most }

-- a frame was made free, with a push where none was free
pub one_gathers : {T E : Type 0} {does : T → World → World → Type 0} (r : Result T E) (old new : World) (before now : MapperCounts) → IfOk r (λ x. does x old new) → OnErr r (NoneGathered old new) → TellsOn old new before now → Later before now
    → OnOk r (held_count new.frames + pushes_for old.frames.held ≡ held_count old.frames + 1) → (pushes : ℕ) → Traffic 0 pushes before now → pushes ≤ pushes_for old.frames.held → Gathers r does 0 1 old new before now
one_gathers r old new before now done none told later held pushes traffic few =
    let free = pushes_free old.frames.held in
    let takes : Takes 0 1 old.frames before now = pulls_few _ _ _ _ _ traffic (omega (arith, few, free)) in
    record {
      done = done;
      none = none;
      told = told;
      later = later;
      held = on_ok_then _ (HoldsMore 1 old.frames new.frames) r (λ h. omega (arith, h, free)) held;
      traffic = on_ok _ r takes;
      most = pulls_most _ _ _ _ _ _ takes (omega arith) (omega arith);
    }
