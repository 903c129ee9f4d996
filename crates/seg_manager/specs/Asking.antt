-- What a caller of the commands of segments keeps to.
use Rattle.vm_ids.specs.declared.command.Command.TheVariants.{OpenSegment}
use Rattle.vm_ids.specs.declared.command.KeepCommand.{KeepCommand}
use Rattle.vm_ids.specs.declared.command.KeepCommand.TheVariants as commands
use Rattle.vm_model.specs.Asking.{IsWellFormed}
use Rattle.seg_manager.specs.Calling.{IsServed}

-- a command of the manager's own is one that is served, and is well formed
abbrev pub IsKeepWellFormed : KeepCommand → Type 0
IsKeepWellFormed (commands.Close seg) = Unit {0}
IsKeepWellFormed (commands.Plain (OpenSegment seg)) = Unit {0}
IsKeepWellFormed (commands.Plain command) = IsServed command × IsWellFormed command
