-- Worked scripts, computed by the definitions: what each command answers over a segment of one page
-- of two bytes, where a new cache gets the number that stands beside the command.
use Rattle.std.specs.Prelude.{◌≡◌, ◌==◌, ℕ, List, [], ◌∷◌, ◌++◌, Option, Some, None, if◌then◌else◌}
use Rattle.vm_ids.specs.declared.command.Command.{Command}
use Rattle.vm_ids.specs.declared.command.Command.TheVariants.{MakeActor}
use Rattle.vm_ids.specs.declared.command.KeepCommand.{KeepCommand}
use Rattle.vm_ids.specs.declared.command.KeepCommand.TheVariants as commands
use Rattle.vm_ids.specs.declared.refusal.Refusal.TheVariants as refusals
use Rattle.vm_model.specs.Answering.{Answer}
use Rattle.vm_model.specs.Machine.{Page}
use Rattle.vm_model.specs.Rows.{copy, load, map_, no, no_segments, ok, ok_a, ok_byte, ok_c, ok_r, open_, store, temp, unmap}
use Rattle.seg_manager.specs.Answering.{Answered, answer_of}
use Rattle.seg_manager.specs.ReferenceMachine.{ReferenceMachine, Stored, start}

-- A run: the answers, and what they leave.
pub record Played : Type 0 where
  pub answers : List Answer
  pub machine : ReferenceMachine

-- a command, and the number of the cache that it makes, if it makes one
abbrev pub Asked : Type 0
Asked = KeepCommand × ℕ

abbrev pub played_first : Answer → Played → Played
played_first a p = record p { answers = a ∷ p.answers }

-- a command was answered so, and the rest goes on from there
abbrev pub played_on : (ReferenceMachine → Played) → Answered → Played
played_on rest a = played_first a.answer (rest a.next)

abbrev pub the_page : Page
the_page = 0x41 ∷ 0 ∷ []

-- the commands, the first one first; no page is denied for writing
abbrev pub play_from : List Asked → ReferenceMachine → Played
play_from [] m = record { answers = []; machine = m }
play_from (c ∷ cs) m = played_on (play_from cs) (answer_of m c.0 no_segments c.1)

-- segment 1 alone
abbrev pub one_stored : Stored
one_stored seg = if seg == 1 then Some (the_page ∷ []) else None

abbrev pub play : List Asked → Played
play script = play_from script (start 4 2 one_stored)

-- the pages that are stored for the segment at the end
abbrev pub left_of : Played → Option (List Page)
left_of p = p.machine.stored 1

-- Commands in short

abbrev pub plain : Command → Asked
plain command = (commands.Plain command, 0)

-- the command, and the number of the cache that it makes
abbrev pub giving : ℕ → Command → Asked
giving number command = (commands.Plain command, number)

abbrev pub close : Asked
close = (commands.Close (record { 0 = 1 }), 0)

-- The script: a segment is opened twice and mapped, and stored to; when both openings were taken
-- back the region still refers to its cache, until it goes too.
abbrev pub opened_twice : List Asked
opened_twice =
    giving 1 (open_ 1) ∷ plain (open_ 1) ∷ plain MakeActor ∷ plain (map_ 1 1 0x10)
    ∷ plain (store 0x10 0x58) ∷ close ∷ close ∷ close ∷ plain (load 0x10) ∷ plain (unmap 1)
    ∷ giving 2 (temp 1) ∷ plain (copy 1 0 2 0 1) ∷ []

abbrev pub opened_twice_answers : List Answer
opened_twice_answers =
    ok_c 1 ∷ ok_c 1 ∷ ok_a 1 ∷ ok_r 1 ∷ ok ∷ ok ∷ ok ∷ no refusals.NotOpen ∷ ok_byte 0x58 ∷ ok
    ∷ ok_c 2 ∷ no refusals.NoCache ∷ []

-- Opened once more, the segment has the cache number that it had, and it can be copied.
pub record KeptCacheComesAgain : Type 0 where
  pub answers : (play (opened_twice ++ giving 1 (open_ 1) ∷ plain (copy 1 0 2 0 1) ∷ [])).answers
      ≡ opened_twice_answers ++ ok_c 1 ∷ ok ∷ []

-- Or it has another number, and the old one names no cache.
pub record NothingIsKept : Type 0 where
  pub answers : (play (opened_twice ++ giving 3 (open_ 1) ∷ plain (copy 1 0 2 0 1) ∷ [])).answers
      ≡ opened_twice_answers ++ ok_c 3 ∷ no refusals.NoCache ∷ []
  pub stored : left_of (play opened_twice) ≡ Some ((0x58 ∷ 0 ∷ []) ∷ [])
