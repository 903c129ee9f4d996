-- The command of a line of a script of segments that are opened again and again.
use Rattle.std.specs.Prelude.{ℕ, Bool, true, false, List, [], ◌∷◌, bytes_eq, codes, Option, Some, None, Result, if◌then◌else◌}
use Rattle.vm_ids.specs.declared.command.Command.{Command}
use Rattle.vm_ids.specs.declared.command.Command.TheVariants as plain_commands
use Rattle.vm_ids.specs.declared.command.KeepCommand.{KeepCommand}
use Rattle.vm_ids.specs.declared.command.KeepCommand.TheVariants as commands
use Rattle.vm_ids.specs.declared.refusal.Refusal.{Refusal}
use Rattle.actor_script.specs.Forms.{◌>>=◌, asked_by, form_with}
use Rattle.actor_script.specs.Operands.{number_of}

-- `close S`
unfoldable pub close_form : List (List ℕ) → Option KeepCommand
close_form (segment ∷ []) = do
  s ← number_of segment
  Some (commands.Close (record { 0 = s }))
close_form _ = None

-- the form that these scripts alone have
abbrev pub own_form_of : List (List ℕ) → Option KeepCommand
own_form_of [] = None
own_form_of (verb ∷ operands) = if bytes_eq verb (codes "close") then close_form operands else None

-- the commands of actors that these scripts have too
abbrev pub is_shared : Command → Bool
is_shared plain_commands.MakeActor = true
is_shared (plain_commands.ExitActor actor) = true
is_shared (plain_commands.MakeTemp pages) = true
is_shared (plain_commands.OpenSegment seg) = true
is_shared (plain_commands.Copy span) = true
is_shared (plain_commands.Map actor mapping) = true
is_shared (plain_commands.Unmap region) = true
is_shared (plain_commands.Load actor address length) = true
is_shared (plain_commands.Store actor address piece) = true
is_shared (plain_commands.PageOut count) = true
is_shared command = false

-- What some words ask: such a command of actors, or the closing of a segment.
abbrev pub keep_form_of : List (List ℕ) → Option KeepCommand
keep_form_of words = form_with is_shared commands.Plain own_form_of words

-- The command of a line, which has at most 256 bytes and one of the forms.
unfoldable pub keep_command_of : List ℕ → Result KeepCommand Refusal
keep_command_of line = asked_by keep_form_of line
