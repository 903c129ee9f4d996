-- The service of the tests: each line that isn't empty is an access, of one of two actors by its
-- first byte; it always waits, and its delivery is a fault.
use Rattle.std.proofs.Common.{arith}
use Rattle.std.specs.Prelude.{◌≡◌, ◌<◌, ◌≤◌, ◌%◌, ℕ, List, [], ◌∷◌, length, Option, option_map, slice_get, refl}
use Rattle.std.specs.List.{AllByRecursion}
use Rattle.vm_ids.specs.Counting.{no_counts}
use Rattle.vm_model.specs.Steps.{Semantics}
use Rattle.line_service.specs.Script.{front_of_line}
use Rattle.line_service.specs.Serving.{AreDistinct}

-- a line is read as its actor
abbrev pub actor_in : List ℕ → Option ℕ
actor_in line = option_map (λ byte. byte % 2) (slice_get line 0)

-- nothing ever changes, and no count rises
abbrev pub postponed : Semantics
postponed = record {
  State = Unit {0};
  Read = Option ℕ;
  actor_of = λ read. read;
  StepIs = λ before read answer rises after. rises ≡ no_counts;
  Admits = λ state read. Unit {0};
}

pub fronts_read : (line : List ℕ) → actor_in (front_of_line line) ≡ actor_in line
fronts_read [] = refl
fronts_read (byte ∷ bytes) = refl

-- there are two actors
pub few_actors : (actors : List ℕ) → AreDistinct actors
    → AllByRecursion (λ actor. actor < 2) actors → length actors ≤ 256
few_actors [] apart all = omega arith
few_actors (a ∷ []) apart all = omega arith
few_actors (a ∷ b ∷ []) apart all = omega arith
few_actors (a ∷ b ∷ c ∷ actors) apart all =
    absurd (omega (arith, apart.0.0, apart.0.1.0, apart.1.0.0, all.0, all.1.0, all.1.1.0))
