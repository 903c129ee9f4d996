-- The command of a line of a script of message ports.
use Rattle.std.specs.Prelude.{ℕ, Bool, true, false, List, [], ◌∷◌, nat_le, bytes_eq, codes, Option, Some, None, option_and_then, Result, if◌then◌else◌}
use Rattle.vm_ids.specs.declared.command.Command.{Command}
use Rattle.vm_ids.specs.declared.command.Command.TheVariants as plain_commands
use Rattle.vm_ids.specs.declared.command.PortCommand.{PortCommand}
use Rattle.vm_ids.specs.declared.command.PortCommand.TheVariants as commands
use Rattle.vm_ids.specs.declared.numbers.PortId.{PortId}
use Rattle.vm_ids.specs.declared.refusal.Refusal.{Refusal}
use Rattle.actor_script.specs.Forms.{◌>>=◌, asked_by, extent_of, form_with}
use Rattle.actor_script.specs.Operands.{number_of, count_of, lettered}

-- `q` and a number
abbrev pub port_of : List ℕ → Option PortId
port_of word = do
  q ← lettered 113 word
  Some (record { 0 = q })

-- How many messages may wait at a port, 1 to 64.
abbrev pub if_shallow : ℕ → Option ℕ
if_shallow n = if nat_le n 64 then Some n else None

unfoldable pub depth_of : List ℕ → Option ℕ
depth_of word = option_and_then if_shallow (count_of word)

-- Each form stands by its verb, and says what the operands behind it ask.

-- `port N`
unfoldable pub port_form : List (List ℕ) → Option PortCommand
port_form (depth ∷ []) = do
  n ← depth_of depth
  Some (commands.Port n)
port_form _ = None

-- `send PORT C O N`
unfoldable pub send_form : List (List ℕ) → Option PortCommand
send_form (port ∷ extent) = do
  q ← port_of port
  e ← extent_of extent
  Some (commands.Send q e)
send_form _ = None

-- `receive PORT C O`
unfoldable pub receive_form : List (List ℕ) → Option PortCommand
receive_form (port ∷ cache ∷ first ∷ []) = do
  q ← port_of port
  c ← lettered 99 cache
  o ← number_of first
  Some (commands.Receive q (record { 0 = c }) (record { 0 = o }))
receive_form _ = None

-- the form of a verb that scripts of ports alone have
unfoldable pub port_verb_form : List ℕ → List (List ℕ) → Option PortCommand
port_verb_form verb operands =
    if bytes_eq verb (codes "port") then port_form operands
    else if bytes_eq verb (codes "send") then send_form operands
    else if bytes_eq verb (codes "receive") then receive_form operands
    else None

abbrev pub own_form_of : List (List ℕ) → Option PortCommand
own_form_of [] = None
own_form_of (verb ∷ operands) = port_verb_form verb operands

-- the commands of actors that scripts of ports have too
abbrev pub is_shared : Command → Bool
is_shared plain_commands.MakeActor = true
is_shared (plain_commands.MakeTemp pages) = true
is_shared (plain_commands.Map actor mapping) = true
is_shared (plain_commands.Load actor address length) = true
is_shared (plain_commands.Store actor address piece) = true
is_shared (plain_commands.PageOut count) = true
is_shared command = false

-- What some words ask: such a command of actors, or one that scripts of ports alone have.
abbrev pub port_form_of : List (List ℕ) → Option PortCommand
port_form_of words = form_with is_shared commands.Plain own_form_of words

-- The command of a line, which has at most 256 bytes and one of the forms.
unfoldable pub port_command_of : List ℕ → Result PortCommand Refusal
port_command_of line = asked_by port_form_of line
