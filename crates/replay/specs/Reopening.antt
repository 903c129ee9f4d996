-- What the lines of a script of segments that are opened again and again mean.
use Rattle.vm_ids.specs.declared.command.KeepCommand.{KeepCommand}
use Rattle.vm_model.specs.Steps.{Semantics}
use Rattle.seg_manager.specs.Stepping.{AnswerIs, State}
use Rattle.replay.specs.AtOnce.{Meaning, at_once}

-- what its commands mean
abbrev pub keep_meaning : Meaning KeepCommand
keep_meaning = record { State = State; Is = AnswerIs }

abbrev pub keep_semantics : Semantics
keep_semantics = at_once keep_meaning
