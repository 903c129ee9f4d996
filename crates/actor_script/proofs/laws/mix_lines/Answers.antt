use Rattle.actor_script.proofs.Fronts.{mix_command_of-front}
use Rattle.actor_script.proofs.MixWorked.{exec, grow, store, no_pages}
use Rattle.actor_script.proofs.laws.mix_lines.Goals as goal

pub returns-clause-fronts : goal.returns-clause-fronts
returns-clause-fronts c = mix_command_of-front

pub returns-clause-exec : goal.returns-clause-exec
returns-clause-exec c = exec

pub returns-clause-grow : goal.returns-clause-grow
returns-clause-grow c = grow

pub returns-clause-store : goal.returns-clause-store
returns-clause-store c = store

pub returns-clause-no_pages : goal.returns-clause-no_pages
returns-clause-no_pages c = no_pages
