-- How far a replay has come, for the contracts of its parts.
use Rattle.std.specs.Prelude.{◌≡◌, ◌≤◌, ℕ, ◌+◌, ◌*◌, List, ◌++◌, length, Result, Ok, Err}
use Rattle.vm_ids.specs.declared.access.Parked.{Parked}
use Rattle.vm_model.specs.Events.{Stand, opening}
use Rattle.vm_port.specs.declared.traits.mapper.Mapper.{Ghosts as GhostsOfMapper}
use Rattle.line_service.specs.Ending.{Texts, TextsFront, Told}
use Rattle.line_service.specs.Going.{Goes, GoesOr, Scene, stand_at}
use Rattle.line_service.specs.Going.Known.{begins, whole}
use Rattle.line_service.specs.Parking.{AreAway, CanServe, is_none_parked, lines_parked, made_with}
use Rattle.line_service.specs.Script.{IsFront, ended_reads_of, front_of_line, reads_of, unended_of}
use Rattle.line_service.specs.Serving.{answer_budget}
use Rattle.line_service.specs.declared.progress.Progress.{Progress}
use Rattle.line_service.specs.declared.service.Service.{Ghosts as GhostsOfService}

-- What it takes to answer the line of this number, counted from 1: the service can be called, no
-- access that waits is ready, and the number that bounds its counters is within the budget of so
-- many lines.
pub record CanAnswer {Service Mapper Chooser : Type 0}
    (V : GhostsOfService Service Mapper Chooser) (M : GhostsOfMapper Mapper) (number : ℕ)
    (service : Service) (mapper : Mapper) (waits : List Parked) : Type 0 where
  pub serve : CanServe V M service mapper waits
  pub away : AreAway V service waits
  pub made : made_with V service waits ≤ answer_budget * number
  pub first : 1 ≤ number

-- These bytes were taken, each line that they end is answered or parked, and the progress has the
-- number of the next line and the front of it.
pub record Underway {Service Mapper Chooser : Type 0} (V : GhostsOfService Service Mapper Chooser)
    (before now : Scene V.semantics Told) (waits : List Parked) (progress : Progress)
    (script : List ℕ) : Type 0 where
  pub goes : Goes V.semantics Texts (begins (ended_reads_of V.read script)) before now
      (opening V.semantics before.state)
      (stand_at now (lines_parked V waits) (length (ended_reads_of V.read script))
      (is_none_parked waits))
  pub number_is : progress.number ≡ length (ended_reads_of V.read script) + 1
  pub line_is : progress.line.items ≡ front_of_line (unended_of script)

-- A write failed at one of the lines that these bytes end.
pub record Broken {Service Mapper Chooser : Type 0} (V : GhostsOfService Service Mapper Chooser)
    (before now : Scene V.semantics Told) (script : List ℕ) : Type 0 where
  pub reads : List V.semantics.Read
  pub front : IsFront reads (ended_reads_of V.read script)
  pub last : Stand V.semantics
  pub state_is : last.state ≡ now.state
  pub goes : Goes V.semantics TextsFront (begins reads) before now
      (opening V.semantics before.state) last

-- The replay goes on, or a write failed.
abbrev pub UnderwayOr : {T E Service Mapper Chooser : Type 0} → Result T E
    → (V : GhostsOfService Service Mapper Chooser) → (before now : Scene V.semantics Told)
    → List Parked → Progress → List ℕ → Type 0
UnderwayOr (Ok x) V before now waits progress script = Underway V before now waits progress script
UnderwayOr (Err e) V before now waits progress script = Broken V before now script

-- From wherever a replay had come: these bytes more were taken, or a write failed meanwhile.
abbrev pub Proceeds : {T E Service Mapper Chooser : Type 0} → Result T E
    → (V : GhostsOfService Service Mapper Chooser) → Scene V.semantics Told → List Parked
    → Progress → Scene V.semantics Told → List Parked → Progress → List ℕ → Type 0
Proceeds result V old waits progress now waits_now progress_now bytes =
    (before : Scene V.semantics Told) (script : List ℕ)
    → Underway V before old waits progress script
    → UnderwayOr result V before now waits_now progress_now (script ++ bytes)

-- All lines of the script are answered or parked, or a write failed before.
abbrev pub NearTheEnd : {T E Service Mapper Chooser : Type 0} → Result T E
    → (V : GhostsOfService Service Mapper Chooser) → (before now : Scene V.semantics Told)
    → List Parked → List ℕ → Type 0
NearTheEnd result V before now waits script =
    let reads = reads_of V.read script in
    GoesOr result V.semantics Texts TextsFront (whole reads) before now
    (opening V.semantics before.state)
    (stand_at now (lines_parked V waits) (length reads) (is_none_parked waits))
