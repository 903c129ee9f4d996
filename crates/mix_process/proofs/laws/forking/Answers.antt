use Rattle.mix_process.proofs.Definition.Lasting.{forks_are_of_one_moment, loads_are_of_bytes}
use Rattle.mix_process.proofs.laws.forking.Goals as goal

pub returns-clause-forks_are_of_one_moment : goal.returns-clause-forks_are_of_one_moment
returns-clause-forks_are_of_one_moment c = forks_are_of_one_moment

pub returns-clause-loads_are_of_bytes : goal.returns-clause-loads_are_of_bytes
returns-clause-loads_are_of_bytes c = loads_are_of_bytes
