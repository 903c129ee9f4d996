-- What was answered and written when a replay ends.
use Rattle.std.specs.Prelude.{◌≡◌, ◌≤◌, ℕ, ◌+◌, List, [], ◌++◌, length, take, Option, option_map, IfSome, Result, Ok, Err}
use Rattle.std.specs.List.{flat_map}
use Rattle.vm_model.specs.Events.{IsOver, Stand, opening, steps_of}
use Rattle.vm_model.specs.InOrder.{IsInOrder, answer_order}
use Rattle.vm_model.specs.Steps.{Semantics, Step, lines_answered}
use Rattle.actor_script.specs.Text.{text_of}
use Rattle.actor_script.specs.Writing.{Writes, WritesFront}
use Rattle.line_service.specs.Going.{Goes, IsScript, Known, Scene, Writing}
use Rattle.line_service.specs.Going.Known.{begins, whole}
use Rattle.line_service.specs.Script.{ended_reads_of, most_bytes, reads_of}
use Rattle.line_service.specs.declared.ended.Ended.{Ended}
use Rattle.line_service.specs.declared.ended.Ended.TheVariants as ends

-- the lines of the replies, in the order of the steps
abbrev pub texts_of : {Read : Type 0} → List (Step Read) → List ℕ
texts_of {Read} steps = flat_map (λ (step : Step Read). text_of step.number step.answer) steps

-- What a sink was given, where it tells.
abbrev pub Told : Type 0
Told = Option (List ℕ)

-- the texts of the answers were written
abbrev pub Texts : {Read : Type 0} → Writing Told Read
Texts before steps after = Writes before after (texts_of steps)

-- a front of them was
abbrev pub TextsFront : {Read : Type 0} → Writing Told Read
TextsFront before steps after = WritesFront before after (texts_of steps)

-- A run from one scene to another, over each script of which so much is known. The lines answered
-- and behind them those that are parked and the others are in order. `Put` says what was written,
-- and the mapper's counts rose by what the answers say: its faults by at least that, its pulls and
-- pushes by exactly that.
pub record Ran (S : Semantics) {Written : Type 0} (Put : Writing Written S.Read)
    (known : Known S.Read) (before after : Scene S Written) (last : Stand S) : Type 0 where
  pub goes : Goes S Put known before after (opening S before.state) last
  pub in_order : (script : List S.Read) → IsScript known script
      → IsInOrder S script (answer_order S script goes.events last)
  pub state_is : last.state ≡ after.state

-- These lines, which others may follow, are answered or are accesses that are parked.
pub record Answered (S : Semantics) (before after : Scene S Told) (reads : List S.Read)
    : Type 0 where
  pub last : Stand S
  pub ran : Ran S Texts (begins reads) before after last
  pub issued : last.issued ≡ length reads

-- Each of these lines is answered, once and in order.
pub record AllAnswered (S : Semantics) {Written : Type 0} (Put : Writing Written S.Read)
    (before after : Scene S Written) (reads : List S.Read) : Type 0 where
  pub last : Stand S
  pub ran : Ran S Put (whole reads) before after last
  pub over : IsOver S reads last
  pub in_order : IsInOrder S reads (lines_answered (steps_of ran.goes.events))

-- Each of these lines is answered, and All holds of the answers; or an answer couldn't be put, and
-- Part holds of those till then.
abbrev pub AllAnsweredOr : {T E : Type 0} → Result T E → (S : Semantics) → {Written : Type 0}
    → (All Part : Writing Written S.Read) → (before after : Scene S Written) → List S.Read → Type 0
AllAnsweredOr (Ok x) S All Part before after reads = AllAnswered S All before after reads
AllAnsweredOr (Err e) S All Part before after reads =
    (last : Stand S) × Ran S Part (whole reads) before after last

-- These bytes are what a source gave since it had this left.
abbrev pub Took : Option (List ℕ) → Option (List ℕ) → List ℕ → Type 0
Took left left_now bytes = left ≡ option_map (λ rest. bytes ++ rest) left_now

-- The whole script was taken, and each of its lines is answered.
pub record Finished (S : Semantics) (read : List ℕ → S.Read) (before after : Scene S Told)
    (left left_now : Option (List ℕ)) : Type 0 where
  pub script : List ℕ
  pub took : Took left left_now script
  pub within : length script ≤ most_bytes
  pub end : IfSome left_now (λ rest. rest ≡ [])
  pub answered : AllAnswered S Texts before after (reads_of read script)

-- These bytes were taken, and each line that ends within the limit is answered, or is an access
-- that is parked.
pub record Stopped (S : Semantics) (read : List ℕ → S.Read) (before after : Scene S Told)
    (left left_now : Option (List ℕ)) (script : List ℕ) : Type 0 where
  pub took : Took left left_now script
  pub answered : Answered S before after (ended_reads_of read (take most_bytes script))

-- A write failed. What is known then is so of the lines of the bytes taken, and of the whole
-- script.
pub record Interrupted (S : Semantics) (read : List ℕ → S.Read) (before after : Scene S Told)
    (left left_now : Option (List ℕ)) : Type 0 where
  pub script : List ℕ
  pub took : Took left left_now script
  pub within : length script ≤ most_bytes
  pub known : Known S.Read
  pub of_taken : IsScript known (reads_of read script)
  pub of_whole : IfSome left (λ all. IsScript known (reads_of read all))
  pub last : Stand S
  pub ran : Ran S TextsFront known before after last

-- How a replay of what the source had left ends.
abbrev pub Ends : Ended → (S : Semantics) → (List ℕ → S.Read) → Scene S Told → Scene S Told
    → Option (List ℕ) → Option (List ℕ) → Type 0
Ends ends.Done S read before now left left_now = Finished S read before now left left_now
Ends ends.SourceFault S read before now left left_now =
    (script : List ℕ) × (length script ≤ most_bytes)
    × Stopped S read before now left left_now script
Ends ends.SinkFault S read before now left left_now = Interrupted S read before now left left_now
Ends ends.TooLong S read before now left left_now =
    (script : List ℕ) × (length script ≡ most_bytes + 1)
    × Stopped S read before now left left_now script
