use Rattle.mix_process.proofs.Definition.Played.{forked_and_grown, refused_processes}
use Rattle.mix_process.proofs.laws.worked_scripts.Goals as goal

pub returns-clause-forked_and_grown : goal.returns-clause-forked_and_grown
returns-clause-forked_and_grown c = forked_and_grown

pub returns-clause-refused_processes : goal.returns-clause-refused_processes
returns-clause-refused_processes c = refused_processes
