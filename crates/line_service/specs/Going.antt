-- How a run goes on between two lines, and within one.
use Rattle.std.specs.Prelude.{◌≡◌, ◌⊎◌, ◌<◌, ℕ, Bool, List, ◌∷◌, length, remove, slice_get, Option, Some, IfSome, IsSomeAnd, Result, Ok, Err}
use Rattle.std.specs.List.{AllByRecursion}
use Rattle.vm_ids.specs.Counting.{MapperCounts, Rise}
use Rattle.vm_ids.specs.Dispatching.{GivesTurns}
use Rattle.vm_model.specs.Events.{Event, IsMapperFault, IsParted, Leads, Stand, steps_of}
use Rattle.vm_model.specs.Steps.{Chain, Semantics, Step, line_answered, lines_answered, rises_of}
use Rattle.vm_model.specs.Turns.{turns_of}
use Rattle.vm_port.specs.declared.traits.mapper.Mapper.{Ghosts as GhostsOfMapper}
use Rattle.line_service.specs.Script.{IsFront}
use Rattle.line_service.specs.declared.service.Service.{Ghosts as GhostsOfService}

-- What there is between two answers: the state, the mapper's counts, the turns that the dispatcher
-- has left, where it tells them, and what was written.
pub record Scene (S : Semantics) (Written : Type 0) : Type 0 where
  pub state : S.State
  pub counts : MapperCounts
  pub turns : Option (List (Option ℕ))
  pub written : Written

-- The scene of a service and its mapper. `V` and `M` are the ghost members of the two.
abbrev pub scene_of : {Service Mapper Chooser Written : Type 0}
    → (V : GhostsOfService Service Mapper Chooser) → GhostsOfMapper Mapper → Service → Mapper
    → Option (List (Option ℕ)) → Written → Scene V.semantics Written
scene_of V M service mapper turns written = record {
  state = V.state service (M.held mapper);
  counts = M.counts mapper;
  turns = turns;
  written = written;
}

-- the stand at a scene
abbrev pub stand_at : {S : Semantics} {Written : Type 0} → Scene S Written → List (ℕ × S.Read) → ℕ
    → Bool → Stand S
stand_at scene parked issued asking =
    record { state = scene.state; parked = parked; issued = issued; asking = asking }

-- Where a dispatcher tells its turns, it was asked and answered so.
abbrev pub Turned : Option (List (Option ℕ)) → List (ℕ × Option ℕ) → Option (List (Option ℕ))
    → Type 0
Turned before asked after = IfSome before (λ told. IsSomeAnd after (GivesTurns told asked))

-- what becomes of what was written by the answers of steps
abbrev pub Writing : Type 0 → Type 0 → Type 1
Writing Written Read = Written → List (Step Read) → Written → Type 0

-- Some of these that are parked are answered without a pull, in order of issue, and the others are
-- left.
pub record Tries (S : Semantics) {Written : Type 0} (Put : Writing Written S.Read)
    (before after : Scene S Written) (parked left : List (ℕ × S.Read)) : Type 0 where
  pub steps : List (Step S.Read)
  pub parted : IsParted parked (lines_answered steps) left
  pub no_pull : AllByRecursion (λ (step : Step S.Read). step.rises.pulls ≡ 0) steps
  pub chain : Chain S before.state steps after.state
  pub rose : Rise before.counts after.counts (rises_of steps)
  pub put : Put before.written steps after.written

-- The parked access at the place is answered, with its page pulled or a call of the mapper failed,
-- and then others without a pull; these are left.
pub record Delivers (S : Semantics) {Written : Type 0} (Put : Writing Written S.Read)
    (before after : Scene S Written) (parked : List (ℕ × S.Read)) (place : ℕ)
    (left : List (ℕ × S.Read)) : Type 0 where
  pub first : Step S.Read
  pub others : List (Step S.Read)
  pub first_is : slice_get parked place ≡ Some (line_answered first)
  pub came : (0 < first.rises.pulls) ⊎ IsMapperFault first.answer
  pub parted : IsParted (remove parked place) (lines_answered others) left
  pub no_pull : AllByRecursion (λ (step : Step S.Read). step.rises.pulls ≡ 0) others
  pub chain : Chain S before.state (first ∷ others) after.state
  pub rose : Rise before.counts after.counts (rises_of (first ∷ others))
  pub put : Put before.written (first ∷ others) after.written

-- What is known of a script: these lines begin it, or they are all of it.
pub data Known (Read : Type 0) : Type 0 where
  begins : List Read → Known Read
  whole : List Read → Known Read

-- a script of which this is so
abbrev pub IsScript : {Read : Type 0} → Known Read → List Read → Type 0
IsScript (begins reads) script = IsFront reads script
IsScript (whole reads) script = script ≡ reads

-- Events lead from one stand to another, over each script of which so much is known.
pub record Goes (S : Semantics) {Written : Type 0} (Put : Writing Written S.Read)
    (known : Known S.Read) (before after : Scene S Written) (s t : Stand S) : Type 0 where
  pub events : List (Event S.Read)
  pub leads : (script : List S.Read) → IsScript known script → Leads S script s events t
  pub turned : Turned before.turns (turns_of (length s.parked) events) after.turns
  pub rose : Rise before.counts after.counts (rises_of (steps_of events))
  pub put : Put before.written (steps_of events) after.written

-- They lead there, by answers of which All holds; or an answer couldn't be put on the way, Part
-- holds of the answers, and they end at some stand.
abbrev pub GoesOr : {T E : Type 0} → Result T E → (S : Semantics) → {Written : Type 0}
    → (All Part : Writing Written S.Read) → Known S.Read → (before after : Scene S Written)
    → (s t : Stand S) → Type 0
GoesOr (Ok x) S All Part known before after s t = Goes S All known before after s t
GoesOr (Err e) S All Part known before after s t = (last : Stand S) × (last.state ≡ t.state)
    × Goes S Part known before after s last
