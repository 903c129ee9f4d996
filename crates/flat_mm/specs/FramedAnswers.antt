-- What a manager answers in which each live page has a frame, computed: what one whose room isn't
-- limited would, or Full. And worked scripts.
use Rattle.std.specs.Prelude.{◌≡◌, ◌&&◌, ℕ, nat_lt, false, is_ok, List, [], ◌∷◌, Some, if◌then◌else◌}
use Rattle.vm_ids.specs.Counting.{MapperCounts}
use Rattle.vm_ids.specs.Held.{Segments}
use Rattle.vm_ids.specs.declared.command.Command.{Command}
use Rattle.vm_ids.specs.declared.command.Command.TheVariants.{MakeActor}
use Rattle.vm_ids.specs.declared.refusal.Refusal.TheVariants.{Full, Locked}
use Rattle.vm_ids.specs.Forest.Nodes.{no_forest}
use Rattle.vm_model.specs.Machine.{Machine, start}
use Rattle.vm_model.specs.PageForest.{PageForest, forest_shown}
use Rattle.vm_model.specs.Answering.{Answer, Answered, answer_of, refuse}
use Rattle.vm_model.specs.Run.{State}
use Rattle.vm_model.specs.Rows.{copy, destroy, load, lock, map_, map_part, no, no_segments, ok, ok_a, ok_byte, ok_c, ok_r, store, temp, unlock, unmap}
use Rattle.gmi_calls.specs.Room.{AnswerWithin, pages_needed}
use Rattle.flat_mm.specs.TwoManagers.{frames_left, is_failure}

-- refused where what would be carried out needs more room than there is
abbrev pub within_room : ℕ → Machine → Command → Answered → Answered
within_room room m command a =
    if is_ok a.answer && nat_lt room (pages_needed m command a.next) then refuse m Full else a

abbrev pub framed_answer : Machine → PageForest → Command → Segments → Answered
framed_answer m f command h = within_room (frames_left m) m command (answer_of m f command h)

-- Where segments are told and nothing fails, a manager in which each live page has a frame answers
-- this.
abbrev pub FramesTellAnswers : Type 0
FramesTellAnswers =
    (before after : State) (h : Segments) (command : Command) (answer : Answer)
    (pushes : List (ℕ × ℕ)) (rises : MapperCounts)
    → after.segments ≡ Some h → is_failure answer ≡ false
    → AnswerWithin (Some (frames_left before.machine)) before command answer pushes rises after
    → framed_answer before.machine (forest_shown before.forest before.machine) command h
    ≡ record { answer = answer; next = after.machine }

-- Worked scripts, of pages of two bytes, over no segments

-- a command was answered so, and the rest goes on from there
abbrev pub played_on : (Machine → List Answer) → Answered → List Answer
played_on rest a = a.answer ∷ rest a.next

abbrev pub answers_from : (Machine → Command → Answered) → List Command → Machine → List Answer
answers_from answer [] m = []
answers_from answer (c ∷ cs) m = played_on (answers_from answer cs) (answer m c)

-- the answers of one whose room isn't limited, with so many frames
abbrev pub answers_of : ℕ → List Command → List Answer
answers_of frames cs = answers_from (λ m c. answer_of m no_forest c no_segments) cs (start frames 2)

-- the answers of one in which each live page has one of so many frames
abbrev pub framed_answers_of : ℕ → List Command → List Answer
framed_answers_of frames cs =
    answers_from (λ m c. framed_answer m no_forest c no_segments) cs (start frames 2)

-- Of four frames three are taken, and two more pages find no room until a cache goes. A copy holds
-- what its source held then.
abbrev pub FramesRunOut : Type 0
FramesRunOut =
    framed_answers_of 4
    (MakeActor ∷ temp 3 ∷ temp 2 ∷ temp 1 ∷ map_ 1 3 65536 ∷ store 65536 1 ∷ copy 1 0 2 0 1
    ∷ store 65536 2 ∷ map_ 2 1 131072 ∷ load 131072 ∷ unmap 1 ∷ destroy 1 ∷ temp 2 ∷ [])
    ≡ ok_a 1 ∷ ok_c 1 ∷ no Full ∷ ok_c 2 ∷ ok_r 1 ∷ ok ∷ ok
    ∷ ok ∷ ok_r 2 ∷ ok_byte 1 ∷ ok ∷ ok ∷ ok_c 3 ∷ []

-- two caches whose pages take twelve frames, and pages of the copy that are locked
abbrev pub locked_script : List Command
locked_script =
    MakeActor ∷ temp 6 ∷ temp 6 ∷ map_ 1 6 65536 ∷ store 65536 1 ∷ copy 1 0 2 0 6
    ∷ map_part 2 0 5 131072 ∷ lock 2 ∷ lock 2 ∷ store 131072 2 ∷ load 65536 ∷ unmap 2
    ∷ copy 1 0 2 0 1 ∷ unlock 2 ∷ copy 1 0 2 0 1 ∷ load 131072 ∷ []

abbrev pub locked_answers : List Answer
locked_answers =
    ok_a 1 ∷ ok_c 1 ∷ ok_c 2 ∷ ok_r 1 ∷ ok ∷ ok
    ∷ ok_r 2 ∷ ok ∷ no Locked ∷ ok ∷ ok_byte 1 ∷ no Locked
    ∷ no Locked ∷ ok ∷ ok ∷ ok_byte 1 ∷ []

-- With twelve frames both answer that script the same.
pub record FramesAreEnough : Type 0 where
  pub framed : framed_answers_of 12 locked_script ≡ locked_answers
  pub unlimited : answers_of 12 locked_script ≡ locked_answers
