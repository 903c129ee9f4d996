-- Accesses as commands.
use Rattle.vm_ids.specs.declared.access.Access.{Access}
use Rattle.vm_ids.specs.declared.access.Access.TheVariants as accesses
use Rattle.vm_ids.specs.declared.command.Command.{Command}
use Rattle.vm_ids.specs.declared.command.Command.TheVariants as commands
use Rattle.vm_ids.specs.declared.numbers.ActorId.{ActorId}

-- the command that an access of an actor is
abbrev pub command_for : ActorId → Access → Command
command_for actor (accesses.Load address length) = commands.Load actor address length
command_for actor (accesses.Store address piece) = commands.Store actor address piece
