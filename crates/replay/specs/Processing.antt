-- What the lines of a script of processes mean.
use Rattle.vm_ids.specs.declared.command.MixCommand.{MixCommand}
use Rattle.vm_model.specs.Steps.{Semantics}
use Rattle.mix_process.specs.Stepping.{AnswerIs, State}
use Rattle.replay.specs.AtOnce.{Meaning, at_once}

-- what its commands mean
abbrev pub process_meaning : Meaning MixCommand
process_meaning = record { State = State; Is = AnswerIs }

abbrev pub process_semantics : Semantics
process_semantics = at_once process_meaning
