-- What a caller of the commands of ports keeps to.
use Rattle.std.specs.Prelude.{◌≤◌}
use Rattle.vm_ids.specs.declared.command.PortCommand.{PortCommand}
use Rattle.vm_ids.specs.declared.command.PortCommand.TheVariants as commands
use Rattle.vm_model.specs.Asking.{IsWellFormed}
use Rattle.transit_ipc.specs.Calling.{IsServed}

-- a message has at least one page, and a command of the manager is one that ports serve
abbrev pub IsPortWellFormed : PortCommand → Type 0
IsPortWellFormed (commands.Send port extent) = 1 ≤ extent.pages
IsPortWellFormed (commands.Plain command) = IsServed command × IsWellFormed command
IsPortWellFormed command = Unit {0}
