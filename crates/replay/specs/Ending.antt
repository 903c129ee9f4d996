-- What was answered and written when the program ends.
use Rattle.std.specs.Prelude.{◌≡◌, ◌≤◌, ℕ, Bool, true, false, List, [], ◌++◌, length, map, codes, Option, None, Some, IsSomeAnd, Ok}
use Rattle.std.specs.List.{flat_map}
use Rattle.std.specs.FinMap.{get}
use Rattle.vm_ids.specs.Counting.{MapperCounts, no_counts}
use Rattle.vm_ids.specs.Held.{Segments, segments_of}
use Rattle.vm_ids.specs.declared.command.Command.TheVariants.{Stat}
use Rattle.vm_ids.specs.declared.reply.Reply.TheVariants as replies
use Rattle.vm_ids.specs.Forest.Nodes.{no_forest}
use Rattle.vm_ids.specs.Forest.Reading.{counts_of}
use Rattle.vm_ids.specs.declared.numbers.TheConstants.{PAGE}
use Rattle.vm_ids.specs.declared.reply.Counts.{Counts}
use Rattle.vm_model.specs.Laws.{IsFollowed}
use Rattle.vm_model.specs.Machine.{Machine, start}
use Rattle.vm_model.specs.PageForest.{PageForest}
use Rattle.vm_model.specs.Run.{AnswerIs, Read, State, command_semantics}
use Rattle.vm_model.specs.Steps.{Semantics, Step}
use Rattle.actor_script.specs.Forms.{command_of}
use Rattle.actor_script.specs.Generator.{generated}
use Rattle.actor_script.specs.KeepForms.{keep_command_of}
use Rattle.actor_script.specs.MixForms.{mix_command_of}
use Rattle.actor_script.specs.PortForms.{port_command_of}
use Rattle.actor_script.specs.Summary.{summary_of, tally_of}
use Rattle.actor_script.specs.Writing.{Writes, WritesFront}
use Rattle.actor_script.specs.declared.tally.Tally.{Tally}
use Rattle.line_service.specs.Ending.{AllAnswered, Ends, Told}
use Rattle.line_service.specs.Going.{Scene, Writing}
use Rattle.line_service.specs.Script.{most_bytes}
use Rattle.line_service.specs.declared.ended.Ended.{Ended}
use Rattle.line_service.specs.declared.ended.Ended.TheVariants as ended
use Rattle.vm_port.specs.declared.traits.mapper.Mapper.{Ghosts as GhostsOfMapper}
use Rattle.mix_process.specs.Outcome.{Usage, no_usage}
use Rattle.mix_process.specs.ProcessMachine.{ProcessMachine}
use Rattle.mix_process.specs.ProcessMachine.{start as no_processes}
use Rattle.transit_ipc.specs.PortMachine.{PortMachine}
use Rattle.transit_ipc.specs.PortMachine.{start as no_ports}
use Rattle.seg_manager.specs.ReferenceMachine.{ReferenceMachine, Stored}
use Rattle.seg_manager.specs.ReferenceMachine.{start as no_openings}
use Rattle.replay.specs.Framed.{framed_command_of, framed_semantics}
use Rattle.replay.specs.Posting.{port_semantics}
use Rattle.replay.specs.Processing.{process_semantics}
use Rattle.replay.specs.Reopening.{keep_semantics}
use Rattle.replay.specs.declared.status.Status.{Status}
use Rattle.replay.specs.declared.status.Status.TheVariants as statuses
use Rattle.replay.specs.declared.asked.Asked.{Asked}
use Rattle.replay.specs.declared.asked.Asked.TheVariants as asks
use Rattle.replay.specs.declared.asked.Generated.{Generated}
use Rattle.replay.specs.declared.asked.Size.{Size}

-- What there is between two lines of a script of commands: the machine, its page forest and the
-- mapper's segments, the mapper's counts, the turns that the dispatcher has left, and what was
-- written.
abbrev pub CommandScene : Type 0
CommandScene = Scene command_semantics Told

-- What a scene has besides: the mapper's segments, where they are told, its counts, the turns that
-- the dispatcher has left, and what was written.
pub record Outside : Type 0 where
  pub segments : Option Segments
  pub counts : MapperCounts
  pub turns : Option (List (Option ℕ))
  pub written : Told

abbrev pub outside_of : {Mapper : Type 0} → GhostsOfMapper Mapper → Mapper
    → Option (List (Option ℕ)) → Told → Outside
outside_of M mapper turns written = record {
  segments = segments_of (M.held mapper);
  counts = M.counts mapper;
  turns = turns;
  written = written;
}

-- the scene of a state and of what is outside
abbrev pub scene_at : {S : Semantics} → Outside → S.State → Scene S Told
scene_at o state =
    record { state = state; counts = o.counts; turns = o.turns; written = o.written }

-- the scene of a machine and of the page forest that is kept for it
abbrev pub scene_with : Outside → Machine → PageForest → CommandScene
scene_with o machine forest =
    scene_at o (record { machine = machine; forest = Some forest; segments = o.segments })

-- the exit status by how a replay ends
abbrev pub status_of : Ended → Status
status_of ended.Done = statuses.Done
status_of ended.SourceFault = statuses.SourceFault
status_of ended.SinkFault = statuses.SinkFault
status_of ended.TooLong = statuses.TooLong

-- How a replay with this status ended, of what the source had left, for whoever reads lines so and
-- means this by them.
abbrev pub EndsAs : Status → (S : Semantics) → (List ℕ → S.Read) → Scene S Told → Scene S Told
    → Told → Told → Type 0
EndsAs status S read before now left left_now =
    (e : Ended) × (status ≡ status_of e) × Ends e S read before now left left_now

-- The same of one that began in the first of these states, and left the last.
abbrev pub EndsFrom : Status → (S : Semantics) → (List ℕ → S.Read) → (first last : S.State)
    → (before now : Outside) → Told → Told → Type 0
EndsFrom status S read first last before now left left_now =
    EndsAs status S read (scene_at before first) (scene_at now last) left left_now

-- How a run that was asked for ends: it began with the empty machine and the empty page forest, and
-- the last forest has its shape and agrees with the last machine.
pub record RunEnds (status : Status) (size : Size) (before now : Outside) (left left_now : Told)
    : Type 0 where
  pub last : Machine
  pub forest : PageForest
  pub ends : EndsAs status command_semantics command_of
      (scene_with before (start size.frames size.page_bytes) no_forest)
      (scene_with now last forest) left left_now
  pub followed : IsFollowed last forest

-- How a script of processes ends: it began without any, over a manager that has nothing.
pub record MixEnds (status : Status) (before now : Outside) (left left_now : Told) : Type 0 where
  pub last : ProcessMachine
  pub usage : Usage
  pub ends : EndsFrom status process_semantics mix_command_of
      (record { processes = no_processes PAGE; usage = no_usage; segments = before.segments })
      (record { processes = last; usage = usage; segments = now.segments })
      before now left left_now

-- How a script of message ports ends: it began with the empty machine and no port.
pub record PortEnds (status : Status) (frames : ℕ) (before now : Outside) (left left_now : Told)
    : Type 0 where
  pub last : PortMachine
  pub ends : EndsFrom status port_semantics port_command_of
      (record { ports = no_ports frames PAGE; segments = before.segments })
      (record { ports = last; segments = now.segments }) before now left left_now

-- the pages of each segment, where they are told
abbrev pub stored_in : Option Segments → Stored
stored_in None seg = None
stored_in (Some segments) seg = get segments.pages seg

-- no segment open, over those that the mapper has
abbrev pub none_open : ℕ → Option Segments → ReferenceMachine
none_open frames segments = no_openings frames PAGE (stored_in segments)

-- How a script of segments that are opened again ends: it began with none open. How many caches may
-- be kept is no part of it.
pub record KeepEnds (status : Status) (frames : ℕ) (before now : Outside) (left left_now : Told)
    : Type 0 where
  pub last : ReferenceMachine
  pub ends : EndsFrom status keep_semantics keep_command_of
      (record { references = none_open frames before.segments; segments = before.segments })
      (record { references = last; segments = now.segments }) before now left left_now

-- How a script ends over a manager in which each live page has one of so many page frames, and
-- which tells no page forest: it began with the empty machine.
pub record FlatEnds (status : Status) (frames : ℕ) (before now : Outside) (left left_now : Told)
    : Type 0 where
  pub last : Machine
  pub ends : EndsFrom status framed_semantics framed_command_of
      (record { machine = start frames PAGE; forest = None; segments = before.segments })
      (record { machine = last; forest = None; segments = now.segments }) before now left left_now

-- All of a text was written; or, where a write failed, a front of it.
abbrev pub WritesAs : Status → Option (List ℕ) → Option (List ℕ) → List ℕ → Type 0
WritesAs statuses.Done before now text = Writes before now text
WritesAs statuses.SinkFault before now text = WritesFront before now text
WritesAs status before now text = ⊥

-- the lines of a script that a number makes
abbrev pub lines_made : Generated → List (List ℕ)
lines_made script = generated script.number script.lines

-- each line, and a line feed behind it
abbrev pub with_feeds : List (List ℕ) → List ℕ
with_feeds lines = flat_map (λ (line : List ℕ). line ++ codes "\n") lines

-- The lines of the script were written, or a front of them, and nothing else happened.
pub record GenerateEnds (status : Status) (script : Generated) (before now : Outside)
    : Type 0 where
  pub writes : WritesAs status before.written now.written (with_feeds (lines_made script))
  pub segments : now.segments ≡ before.segments
  pub counts : now.counts ≡ before.counts
  pub turns : now.turns ≡ before.turns

-- what all answers together come to
abbrev pub tally_in : List (Step Read) → Tally
tally_in steps = tally_of (map (λ (step : Step Read). step.answer) steps)

-- The summary of the answers was written, with these counts of pages, or a front of it.
abbrev pub Summary : Status → Counts → Writing Told Read
Summary status counts before steps after =
    WritesAs status before after (summary_of (tally_in steps) counts)

-- These lines were answered, each once and in order. In place of the answers their summary was
-- written, with these counts of pages, or a front of it.
abbrev pub Summed : Status → CommandScene → CommandScene → List Read → Counts → Type 0
Summed status before after reads counts =
    AllAnswered command_semantics (Summary status counts) before after reads

-- a manager in this state answers `stat` with these counts
abbrev pub TellsCounts : State → Counts → Type 0
TellsCounts state counts = AnswerIs state Stat (Ok (replies.Stat counts)) [] no_counts state

-- How a trial that was asked for ends: as a run over the lines of the script, whose summary is
-- written with the counts of the last forest.
pub record TrialEnds (status : Status) (script : Generated) (frames : ℕ) (before now : Outside)
    : Type 0 where
  pub last : Machine
  pub forest : PageForest
  pub summed : Summed status (scene_with before (start frames PAGE) no_forest)
      (scene_with now last forest) (map command_of (lines_made script)) (counts_of forest)
  pub followed : IsFollowed last forest

-- How each thing that may be asked for ends.
abbrev pub AskedEnds : Status → Asked → (before now : Outside) → Told → Told → Type 0
AskedEnds status (asks.Run size) before now left left_now =
    RunEnds status size before now left left_now
AskedEnds status (asks.Generate script) before now left left_now =
    GenerateEnds status script before now
AskedEnds status (asks.Trial script frames) before now left left_now =
    TrialEnds status script frames before now
AskedEnds status (asks.Mix frames) before now left left_now =
    MixEnds status before now left left_now
AskedEnds status (asks.Ipc frames) before now left left_now =
    PortEnds status frames before now left left_now
AskedEnds status (asks.Keep limit frames) before now left left_now =
    KeepEnds status frames before now left left_now
AskedEnds status (asks.Flat frames) before now left left_now =
    FlatEnds status frames before now left left_now

-- only the replay of a script reads the source
abbrev pub reads_source : Asked → Bool
reads_source (asks.Generate script) = false
reads_source (asks.Trial script frames) = false
reads_source asked = true

-- What is asked for reads no source, or one that tells no more bytes than a script may have.
abbrev pub IsWithinLimit : Asked → Option (List ℕ) → Type 0
IsWithinLimit asked left =
    reads_source asked ≡ true → IsSomeAnd left (λ all. length all ≤ most_bytes)
