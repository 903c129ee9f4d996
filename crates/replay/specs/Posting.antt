-- What the lines of a script of message ports mean.
use Rattle.vm_ids.specs.declared.command.PortCommand.{PortCommand}
use Rattle.vm_model.specs.Steps.{Semantics}
use Rattle.transit_ipc.specs.Stepping.{AnswerIs, State}
use Rattle.replay.specs.AtOnce.{Meaning, at_once}

-- what its commands mean
abbrev pub port_meaning : Meaning PortCommand
port_meaning = record { State = State; Is = AnswerIs }

abbrev pub port_semantics : Semantics
port_semantics = at_once port_meaning
