-- What a caller of the commands of processes keeps to.
use Rattle.std.specs.Prelude.{◌≤◌}
use Rattle.vm_ids.specs.declared.command.MixCommand.{MixCommand}
use Rattle.vm_ids.specs.declared.command.MixCommand.TheVariants as commands

-- counts of pages are at least 1, and a load is of 1 to 64 bytes
abbrev pub IsMixWellFormed : MixCommand → Type 0
IsMixWellFormed (commands.Exec seg text data_pages stack) =
    (1 ≤ text) × (1 ≤ data_pages) × (1 ≤ stack)
IsMixWellFormed (commands.Grow process pages) = 1 ≤ pages
IsMixWellFormed (commands.Load process address length) = (1 ≤ length) × (length ≤ 64)
IsMixWellFormed (commands.PageOut count) = 1 ≤ count
IsMixWellFormed command = Unit {0}
