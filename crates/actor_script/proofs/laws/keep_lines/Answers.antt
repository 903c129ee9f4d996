use Rattle.actor_script.proofs.Fronts.{keep_command_of-front}
use Rattle.actor_script.proofs.KeepWorked as worked
use Rattle.actor_script.proofs.laws.keep_lines.Goals as goal

pub returns-clause-fronts : goal.returns-clause-fronts
returns-clause-fronts c = keep_command_of-front

pub returns-clause-open : goal.returns-clause-open
returns-clause-open c = worked.open_again

pub returns-clause-close : goal.returns-clause-close
returns-clause-close c = worked.close

pub returns-clause-two : goal.returns-clause-two
returns-clause-two c = worked.two

pub returns-clause-not_shared : goal.returns-clause-not_shared
returns-clause-not_shared c = worked.not_shared
