-- Worked scripts, computed by the definitions: what each command answers, with pages of 4,096 bytes
-- and without segments.
use Rattle.std.specs.Prelude.{◌≡◌, ℕ, List, [], ◌∷◌, ◌++◌, Ok}
use Rattle.vm_ids.specs.declared.command.Command.{Command}
use Rattle.vm_ids.specs.declared.command.Command.TheVariants.{MakeActor}
use Rattle.vm_ids.specs.declared.command.PortCommand.{PortCommand}
use Rattle.vm_ids.specs.declared.command.PortCommand.TheVariants as commands
use Rattle.vm_ids.specs.declared.refusal.Refusal.TheVariants as refusals
use Rattle.vm_ids.specs.declared.reply.Reply.TheVariants as replies
use Rattle.vm_model.specs.Answering.{Answer}
use Rattle.vm_model.specs.Rows.{extent, load, map_, no, no_segments, ok, ok_a, ok_byte, ok_c, ok_r, store, temp}
use Rattle.transit_ipc.specs.Answering.{Answered, answer_of}
use Rattle.transit_ipc.specs.PortMachine.{PortMachine, start}

-- a command was answered so, and the rest goes on from there
abbrev pub answers_on : (PortMachine → List Answer) → Answered → List Answer
answers_on rest a = a.answer ∷ rest a.next

-- the answers to the commands, the first one first
abbrev pub answers_from : List PortCommand → PortMachine → List Answer
answers_from [] m = []
answers_from (c ∷ cs) m = answers_on (answers_from cs) (answer_of m c no_segments)

-- the commands, from the start on, answer this
abbrev pub AnswersAs : List PortCommand → List Answer → Type 0
AnswersAs script answers = answers_from script (start 3 4096) ≡ answers

-- Commands and answers in short

abbrev pub plain : Command → PortCommand
plain command = commands.Plain command

-- so many pages of a cache, from its first page on
abbrev pub send : ℕ → ℕ → ℕ → ℕ → PortCommand
send port cache first pages = commands.Send (record { 0 = port }) (extent cache first pages)

abbrev pub receive : ℕ → ℕ → ℕ → PortCommand
receive port cache first =
    commands.Receive (record { 0 = port }) (record { 0 = cache }) (record { 0 = first })

abbrev pub ok_q : ℕ → Answer
ok_q n = Ok (replies.Port (record { 0 = n }))

-- The scripts

-- two caches of two pages each, mapped by an actor, and a port for two messages
abbrev pub two_caches_and_a_port : List PortCommand
two_caches_and_a_port =
    plain MakeActor ∷ plain (temp 2) ∷ plain (temp 2) ∷ plain (map_ 1 2 0x10000)
    ∷ plain (map_ 2 2 0x20000) ∷ commands.Port 2 ∷ []

abbrev pub made : List Answer
made = ok_a 1 ∷ ok_c 1 ∷ ok_c 2 ∷ ok_r 1 ∷ ok_r 2 ∷ ok_q 1 ∷ []

-- A page is sent twice, and stored to before, between and behind.
abbrev pub messages_in_order : List PortCommand
messages_in_order =
    two_caches_and_a_port
    ++ plain (store 0x10000 1) ∷ send 1 1 0 1 ∷ plain (store 0x10000 2) ∷ send 1 1 0 1
    ∷ send 1 1 0 1 ∷ plain (store 0x10000 3) ∷ receive 1 2 0 ∷ receive 1 2 1 ∷ receive 1 2 0
    ∷ plain (load 0x20000) ∷ plain (load 0x21000) ∷ plain (load 0x10000) ∷ []

abbrev pub MessagesInOrder : Type 0
MessagesInOrder = AnswersAs messages_in_order
    (made
    ++ ok ∷ ok ∷ ok ∷ ok ∷ no refusals.PortFull ∷ ok ∷ ok ∷ ok ∷ no refusals.PortEmpty
    ∷ ok_byte 1 ∷ ok_byte 2 ∷ ok_byte 3 ∷ [])

-- Each command is refused by a rule of its own, and a message that wasn't received still waits.
abbrev pub refused_messages : List PortCommand
refused_messages =
    two_caches_and_a_port
    ++ send 2 1 0 1 ∷ send 1 1 1 2 ∷ send 1 1 0 2 ∷ receive 1 2 1 ∷ receive 1 2 0 ∷ []

abbrev pub RefusedMessages : Type 0
RefusedMessages = AnswersAs refused_messages
    (made ++ no refusals.NoPort ∷ no refusals.OutOfCache ∷ ok ∷ no refusals.OutOfCache ∷ ok ∷ [])
