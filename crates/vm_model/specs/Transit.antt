-- A worked script of two pages in transit, as events: two runs of it that may be, and what may not.
-- A page has two bytes here.
use Rattle.std.specs.Prelude.{◌≡◌, ◌-◌, ℕ, Bool, true, false, List, [], ◌∷◌, ◌++◌, map, Option, None, Some, slice_get, unwrap_or, Ok, Err}
use Rattle.vm_ids.specs.Counting.{MapperCounts, no_counts}
use Rattle.vm_ids.specs.Dispatching.{GivesTurns}
use Rattle.vm_ids.specs.declared.command.Command.{Command}
use Rattle.vm_ids.specs.declared.command.Command.TheVariants as commands
use Rattle.vm_ids.specs.declared.refusal.Refusal.TheVariants.{BadLine}
use Rattle.vm_ids.specs.declared.reply.FaultAt.TheVariants as faults
use Rattle.vm_ids.specs.declared.reply.Reply.{Reply}
use Rattle.vm_ids.specs.declared.reply.Trouble.TheVariants.{Mapper}
use Rattle.vm_model.specs.Answering.{Answer}
use Rattle.vm_model.specs.Events.{Event, EventIs, IsOver, IsParted, RunOf, Stand, steps_of}
use Rattle.vm_model.specs.Events.Event.{line, park, pause, delivery}
use Rattle.vm_model.specs.InOrder.{IsInOrder}
use Rattle.vm_model.specs.Laws.{started}
use Rattle.vm_model.specs.Rows.{extent, no_segments, ok, ok_a, ok_byte, ok_c, ok_r, ok_stat, store, temp}
use Rattle.vm_model.specs.Run.{Read, State, command_semantics}
use Rattle.vm_model.specs.Steps.{Step}
use Rattle.vm_model.specs.Turns.{turns_of}

-- both pages of the first cache, mapped for writing by an actor
abbrev pub map_for : ℕ → Command
map_for actor = commands.Map (record { 0 = actor })
    (record { extent = extent 1 0 2; address = 65536; prot = record { write = true } })

-- one byte, loaded by an actor
abbrev pub load_by : ℕ → ℕ → Command
load_by actor address = commands.Load (record { 0 = actor }) address 1

abbrev pub as_read : Command → Read
as_read command = Ok command

-- Two actors map one cache. Its two pages leave their frames in line 8, and the second is loaded in
-- line 10 by this actor.
abbrev pub loads_with : ℕ → List Read
loads_with actor = map as_read
    (commands.MakeActor ∷ commands.MakeActor ∷ temp 2 ∷ map_for 1 ∷ map_for 2 ∷ store 65536 1
    ∷ store 65538 2 ∷ commands.PageOut 4 ∷ load_by 1 65536 ∷ load_by actor 65538 ∷ commands.Stat
    ∷ [])

-- each of the two pages is loaded by an actor of its own
abbrev pub two_loads : List Read
two_loads = loads_with 2

-- What may be

abbrev pub step_at : ℕ → Command → Answer → MapperCounts → Step Read
step_at number command answer rises =
    record { number = number; read = Ok command; answer = answer; rises = rises }

-- a line is answered in which the mapper isn't called
abbrev pub quiet : ℕ → Command → Answer → Event Read
quiet number command answer = line (step_at number command answer no_counts)

abbrev pub one_pull : MapperCounts
one_pull = record { faults = 0; pulls = 1; pushes = 0 }

abbrev pub one_failed_pull : MapperCounts
one_failed_pull = record { faults = 1; pulls = 1; pushes = 0 }

abbrev pub two_pushes : MapperCounts
two_pushes = record { faults = 0; pulls = 0; pushes = 2 }

-- line 9 answers its byte, or that its page couldn't be brought in
abbrev pub first_load : Step Read
first_load = step_at 9 (load_by 1 65536) (ok_byte 1) one_pull

abbrev pub first_load_fails : Step Read
first_load_fails = step_at 9 (load_by 1 65536) (Err (Mapper (faults.Page (record { 0 = 0 }))))
    one_failed_pull

-- line 10 answers its byte
abbrev pub second_load : Step Read
second_load = step_at 10 (load_by 2 65538) (ok_byte 2) one_pull

-- the first ten lines: eight are answered at once, and two are parked
abbrev pub both_parked : List (Event Read)
both_parked =
    quiet 1 commands.MakeActor (ok_a 1) ∷ quiet 2 commands.MakeActor (ok_a 2)
    ∷ quiet 3 (temp 2) (ok_c 1) ∷ quiet 4 (map_for 1) (ok_r 1) ∷ quiet 5 (map_for 2) (ok_r 2)
    ∷ quiet 6 (store 65536 1) ok ∷ quiet 7 (store 65538 2) ok
    ∷ line (step_at 8 (commands.PageOut 4) ok two_pushes)
    ∷ park 9 (Ok (load_by 1 65536)) ∷ pause ∷ park 10 (Ok (load_by 2 65538)) ∷ pause ∷ []

-- then both are delivered, and line 11 is answered
abbrev pub with_deliveries : Event Read → Event Read → List (Event Read)
with_deliveries one other =
    both_parked ++ (one ∷ other ∷ quiet 11 commands.Stat (ok_stat 2 0 0) ∷ [])

-- These events are a run over the script to its end, from the empty machine on. The dispatcher
-- gives all these turns, and the lines are answered in the order of these numbers.
pub record Plays (turns : List (Option ℕ)) (events : List (Event Read)) (numbers : List ℕ)
    : Type 0 where
  pub last : Stand command_semantics
  pub run : RunOf command_semantics (started 4 2 (Some no_segments)) two_loads events last
  pub over : IsOver command_semantics two_loads last
  pub turns_are : GivesTurns turns (turns_of 0 events) []
  pub order : map (λ (x : Step Read). x.number) (steps_of events) ≡ numbers

-- The dispatcher names none before line 10, none before line 11, then the second, and none again.
abbrev pub TwoPagesInTransit : Type 0
TwoPagesInTransit = Plays (None ∷ None ∷ Some 1 ∷ None ∷ [])
    (with_deliveries (delivery (Some 1) 1 second_load []) (delivery None 0 first_load []))
    (1 ∷ 2 ∷ 3 ∷ 4 ∷ 5 ∷ 6 ∷ 7 ∷ 8 ∷ 10 ∷ 9 ∷ 11 ∷ [])

-- The dispatcher names none at each turn, and the first page can't be brought in.
abbrev pub FirstOfTwoPagesFails : Type 0
FirstOfTwoPagesFails = Plays []
    (with_deliveries (delivery None 0 first_load_fails []) (delivery None 0 second_load []))
    (1 ∷ 2 ∷ 3 ∷ 4 ∷ 5 ∷ 6 ∷ 7 ∷ 8 ∷ 9 ∷ 10 ∷ 11 ∷ [])

-- What may not be

-- behind line 9, which is parked
abbrev pub one_waits : Bool → State → Stand command_semantics
one_waits asking s = record {
  state = s;
  parked = (9, Ok (load_by 1 65536)) ∷ [];
  issued = 9;
  asking = asking;
}

-- behind line 10, where both are parked
abbrev pub both_wait : Bool → State → Stand command_semantics
both_wait asking s = record {
  state = s;
  parked = (9, Ok (load_by 1 65536)) ∷ (10, Ok (load_by 2 65538)) ∷ [];
  issued = 10;
  asking = asking;
}

-- the event doesn't come here, whatever it may lead to
abbrev pub IsBarred : List Read → Stand command_semantics → Event Read → Type 0
IsBarred reads s event =
    (after : Stand command_semantics) → EventIs command_semantics reads s event after → ⊥

-- What a line waits for:
--     other        line 11, which is no access, waits for both
--     end          the end of the script does too: it isn't over
--     unasked      line 10 is answered or parked only once the dispatcher named none
--     own          an access waits for that of its own actor
pub record LinesWait : Type 0 where
  pub other : (asking : Bool) (s : State) (x : Step Read)
      → IsBarred two_loads (both_wait asking s) (line x)
  pub end : (asking : Bool) (s : State)
      → IsOver command_semantics two_loads (both_wait asking s) → ⊥
  pub unasked : (s : State) (x : Step Read) → IsBarred two_loads (one_waits true s) (line x)
  pub unasked_park : (s : State) (number : ℕ) (read : Read)
      → IsBarred two_loads (one_waits true s) (park number read)
  pub own : (s : State) (x : Step Read) → IsBarred (loads_with 1) (one_waits false s) (line x)
  pub own_park : (s : State) (number : ℕ) (read : Read)
      → IsBarred (loads_with 1) (one_waits false s) (park number read)

-- Which deliveries and pauses come:
--     named        the place is the one that the turn names
--     oldest       or the oldest where it names none
--     none         but not before it named none once
--     again        it pauses no second time
--     idle         nor where nothing waits
--     pulled       the page is pulled, or a call of the mapper fails
--     at_issue     an access that is answered at once pulls no page
--     in_turn      the others are answered in order of issue
pub record DeliveriesGoByTurns : Type 0 where
  pub named : (s : State) (x : Step Read) (others : List (Step Read))
      → IsBarred two_loads (both_wait false s) (delivery (Some 1) 0 x others)
  pub oldest : (s : State) (x : Step Read) (others : List (Step Read))
      → IsBarred two_loads (both_wait false s) (delivery None 1 x others)
  pub none : (s : State) (place : ℕ) (x : Step Read) (others : List (Step Read))
      → IsBarred two_loads (both_wait true s) (delivery None place x others)
  pub again : (s : State) → IsBarred two_loads (both_wait false s) pause
  pub idle : (s : State) (asking : Bool) → IsBarred two_loads
      (record (both_wait asking s) { parked = [] }) pause
  pub pulled : (s : State) (asking : Bool) (turn : Option ℕ) (place : ℕ) (reply : Reply)
      (others : List (Step Read)) → IsBarred two_loads (both_wait asking s)
      (delivery turn place (step_at 9 (load_by 1 65536) (Ok reply) no_counts) others)
  pub at_issue : (s : State) (answer : Answer) → IsBarred two_loads (one_waits false s)
      (line (step_at 10 (load_by 2 65538) answer one_pull))
  pub in_turn : (a b c : Read) (left : List (ℕ × Read))
      → IsParted ((9, a) ∷ (10, b) ∷ (11, c) ∷ []) ((11, c) ∷ (10, b) ∷ []) left → ⊥

-- the lines of these numbers
abbrev pub lines_numbered : List ℕ → List (ℕ × Read)
lines_numbered numbers =
    map (λ n. (n, unwrap_or (slice_get two_loads (n - 1)) (Err BadLine))) numbers

-- Orders of answers that may not be: line 11 before line 10, and two accesses of one actor
-- crosswise.
pub record OthersAreOutOfOrder : Type 0 where
  pub other : IsInOrder command_semantics two_loads
      (lines_numbered (1 ∷ 2 ∷ 3 ∷ 4 ∷ 5 ∷ 6 ∷ 7 ∷ 8 ∷ 9 ∷ 11 ∷ 10 ∷ [])) → ⊥
  pub own : IsInOrder command_semantics two_loads
      (lines_numbered (1 ∷ 2 ∷ 3 ∷ 4 ∷ 5 ∷ 7 ∷ 6 ∷ 8 ∷ 9 ∷ 10 ∷ 11 ∷ [])) → ⊥
