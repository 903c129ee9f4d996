-- Worked scripts, computed by the definitions: what each command answers, over one segment of three
-- pages of 4,096 bytes that begin with 7f, 41 and 42.
use Rattle.std.specs.Prelude.{◌≡◌, ℕ, List, [], ◌∷◌, replicate, Ok, Err}
use Rattle.std.specs.FinMap.{empty, insert}
use Rattle.vm_ids.specs.Held.{Segments}
use Rattle.vm_ids.specs.declared.command.MixCommand.{MixCommand}
use Rattle.vm_ids.specs.declared.command.MixCommand.TheVariants as commands
use Rattle.vm_ids.specs.declared.refusal.Refusal.{Refusal}
use Rattle.vm_ids.specs.declared.refusal.Refusal.TheVariants as refusals
use Rattle.vm_ids.specs.declared.reply.Reply.TheVariants as replies
use Rattle.vm_ids.specs.declared.reply.Trouble.TheVariants.{Refused}
use Rattle.vm_model.specs.Answering.{Answer}
use Rattle.vm_model.specs.Machine.{Page}
use Rattle.mix_process.specs.ProcessMachine.{ProcessMachine, start}
use Rattle.mix_process.specs.Answering.{Answered, answer_of}

-- a page that begins with this byte, and has zeros else
abbrev pub page : ℕ → Page
page byte = byte ∷ replicate 4095 0

abbrev pub segments : Segments
segments = record {
  pages = insert empty 1 (page 0x7f ∷ page 0x41 ∷ page 0x42 ∷ []);
  denied = [];
}

-- a command was answered so, and the rest goes on from there
abbrev pub answers_on : (ProcessMachine → List Answer) → Answered → List Answer
answers_on rest a = a.answer ∷ rest a.next

-- the answers to the commands, the first one first
abbrev pub answers_from : List MixCommand → ProcessMachine → List Answer
answers_from [] m = []
answers_from (c ∷ cs) m = answers_on (answers_from cs) (answer_of m c segments)

-- the commands, from the start on, answer this
abbrev pub AnswersAs : List MixCommand → List Answer → Type 0
AnswersAs script answers = answers_from script (start 4096) ≡ answers

-- Commands and answers in short

abbrev pub exec : ℕ → ℕ → ℕ → ℕ → MixCommand
exec seg text data_pages stack = commands.Exec (record { 0 = seg }) text data_pages stack

abbrev pub fork : ℕ → MixCommand
fork process = commands.Fork (record { 0 = process })

abbrev pub exit_ : ℕ → MixCommand
exit_ process = commands.Exit (record { 0 = process })

abbrev pub grow : ℕ → ℕ → MixCommand
grow process pages = commands.Grow (record { 0 = process }) pages

-- one byte
abbrev pub load : ℕ → ℕ → MixCommand
load process address = commands.Load (record { 0 = process }) address 1

abbrev pub store : ℕ → ℕ → ℕ → MixCommand
store process address byte = commands.Store (record { 0 = process }) address (byte ∷ [])

abbrev pub ok : Answer
ok = Ok replies.Done

abbrev pub ok_p : ℕ → Answer
ok_p n = Ok (replies.Process (record { 0 = n }))

abbrev pub ok_byte : ℕ → Answer
ok_byte byte = Ok (replies.Bytes (byte ∷ []))

abbrev pub no : Refusal → Answer
no r = Err (Refused r)

-- The scripts

-- A process is made and forked; each of the two has its own data from then on, and they share their
-- text.
abbrev pub forked_and_grown : List MixCommand
forked_and_grown =
    exec 1 1 2 1 ∷ store 1 0x1000_0000 0x61 ∷ fork 1 ∷ store 1 0x1000_0000 0x62
    ∷ load 2 0x1000_0000 ∷ load 2 0x1000_1000 ∷ load 1 0x40_0000 ∷ store 1 0x40_0000 0
    ∷ grow 1 1 ∷ load 1 0x1000_2000 ∷ load 2 0x1000_2000 ∷ exit_ 1 ∷ load 2 0x1000_0000 ∷ []

abbrev pub ForkedAndGrown : Type 0
ForkedAndGrown = AnswersAs forked_and_grown
    (ok_p 1 ∷ ok ∷ ok_p 2 ∷ ok
    ∷ ok_byte 0x61 ∷ ok_byte 0x42 ∷ ok_byte 0x7f ∷ no refusals.Protection
    ∷ ok ∷ ok_byte 0 ∷ no refusals.BadAddress ∷ ok ∷ ok_byte 0x61 ∷ [])

-- Each command is refused by a rule of its own.
abbrev pub refused_processes : List MixCommand
refused_processes = fork 9 ∷ exec 1 2 2 1 ∷ exec 1 1025 1 1 ∷ exec 2 1 1 1 ∷ []

abbrev pub RefusedProcesses : Type 0
RefusedProcesses = AnswersAs refused_processes
    (no refusals.NoProcess ∷ no refusals.BadImage ∷ no refusals.TooLarge ∷ no refusals.NoSegment
    ∷ [])
