-- What a manager of the interface stands for.
use Rattle.gmi_calls.specs.Calling.{Meanings, meanings}
use Rattle.gmi_calls.specs.declared.gmi.Gmi.{Ghosts as GhostsOfGmi}

-- of all ghost members of a manager, those that say what it stands for
abbrev pub meanings_of : {Manager Mapper Chooser : Type 0} → GhostsOfGmi Manager Mapper Chooser
    → Meanings Manager
meanings_of G = meanings G.machine G.forest G.valid G.made G.room
