-- What a call answers where every page is still, and where another call went before it.
use Rattle.std.proofs.Common.{◌≡◌, ◌∙◌, arith, Result, Ok, Err}
use Rattle.std.specs.Prelude.{IfErr, IsErrAnd}
use Rattle.vm_ids.specs.Counting.{MapperCounts}
use Rattle.vm_ids.specs.Forest.Shape.{IsWellShaped}
use Rattle.local_cache.specs.Reading.{forest_of}
use Rattle.local_cache.specs.Sound.{IsSound}
use Rattle.residency.specs.Causes.{HasMissCause, Later}
use Rattle.residency.specs.declared.miss.Miss.{Miss}
use Rattle.residency.specs.declared.miss.Miss.TheVariants.{Pull, Victim}
use Rattle.residency.specs.Pushing.{TellsOn}
use Rattle.residency.specs.World.{Still, World}
use Rattle.residency.proofs.Forests.StillForest.{still_forest}
use Rattle.fault_path.specs.Answers.{IsAnswered, IsDoneOrMissed, IsMissed, OnlyVictim}
use Rattle.fault_path.proofs.Calls.Kept.{still_kept}

pub later_then : (a b c : MapperCounts) → Later a b → Later b c → Later a c
later_then a b c p q = record {
  faults = omega (arith, p.faults, q.faults);
  pulls = omega (arith, p.pulls, q.pulls);
  pushes = omega (arith, p.pushes, q.pushes);
}

-- a cause is one still, where no count fell before it
pub cause_then : (a b c : MapperCounts) (miss : Miss) → Later a b → HasMissCause b c miss → HasMissCause a c miss
cause_then a b c Pull p q = record { faults = λ below. omega (arith, q.faults below, p.faults); pulls = λ below. omega (arith, q.pulls below, p.pulls) }
cause_then a b c Victim p q = record { faults = λ below. omega (arith, q.faults below, p.faults); pushes = λ below. omega (arith, q.pushes below, p.pushes) }

module _ (old new : World) (still : Still old new) (before now : MapperCounts) where
  pub still_answered : IsSound old.caches → IsWellShaped (forest_of old.caches) → new.frames.pinned ≡ old.frames.pinned → Later before now → TellsOn old new before now → IsAnswered old new before now
  still_answered sound shaped pins later told = record { kept = still_kept old new still sound shaped pins; later = later; told = told }

  pub still_missed : (miss : Miss) → HasMissCause before now miss → IsMissed miss old new before now
  still_missed miss cause = record { still = still; forest = still_forest old new still; cause = cause }

  pub still_missed_by : {T : Type 0} (r : Result T Miss) → IfErr r (HasMissCause before now) → IfErr r (λ miss. IsMissed miss old new before now)
  still_missed_by (Ok x) cause = tt
  still_missed_by (Err miss) cause = still_missed miss cause

  -- a call that missed
  module _ {T : Type 0} {does : T → World → World → Type 0} (sound : IsSound old.caches) (shaped : IsWellShaped (forest_of old.caches)) (pins : new.frames.pinned ≡ old.frames.pinned) (later : Later before now) (told : TellsOn old new before now) where
    pub miss_with : (miss : Miss) → HasMissCause before now miss → IsDoneOrMissed (Err miss) does old new before now
    miss_with miss cause = record { answered = still_answered sound shaped pins later told; done = tt; missed = still_missed miss cause }

    pub miss_by : (P : Miss → Type 0) (r : Result T Miss) → IsErrAnd r P → IfErr r (HasMissCause before now) → IsDoneOrMissed r does old new before now
    miss_by P (Ok x) is cause = absurd is
    miss_by P (Err miss) is cause = miss_with miss cause

-- a miss that is handed on
pub victim_from : {T : Type 0} (r : Result T Miss) (miss : Miss) → IsErrAnd r (λ m. m ≡ miss) → miss ≡ Victim → OnlyVictim r
victim_from (Ok x) miss is victim = tt
victim_from (Err m) miss is victim = is ∙ victim
