-- Calls of the manager, and those in which no page comes or goes.
use Rattle.vm_ids.specs.Counting.{MapperCounts}
use Rattle.vm_ids.specs.declared.command.Command.{Command}
use Rattle.vm_ids.specs.declared.command.Command.TheVariants as commands
use Rattle.vm_model.specs.Answering.{Answer}
use Rattle.vm_port.specs.declared.traits.mapper.Mapper.{Ghosts as GhostsOfMapper}
use Rattle.gmi_calls.specs.Parking.{AccessCall}
use Rattle.gmi_calls.specs.Reaching.{NoPages}
use Rattle.flat_mm.specs.Manager.{Manager, flat}

-- Of the mapper these commands ask write access at most: no page is pulled or pushed.
abbrev pub AsksAlone : Command → MapperCounts → Type 0
AsksAlone (commands.Load actor address bytes) rises = NoPages rises
AsksAlone (commands.Store actor address piece) rises = NoPages rises
AsksAlone (commands.Lock region) rises = NoPages rises
AsksAlone (commands.PageOut count) rises = NoPages rises
AsksAlone command rises = Unit {0}

-- a call of the manager, where P holds of how far the mapper's counts rose in it
abbrev pub FlatCall : {X : Type 0} → GhostsOfMapper X → (MapperCounts → Type 0) → X → Manager
    → Command → Answer → X → Manager → Type 0
FlatCall M P before old command answer after new =
    AccessCall M flat P before old command answer after new
