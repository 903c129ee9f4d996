use Rattle.actor_script.specs.Generator.{beginning}
use Rattle.actor_script.proofs.Generated.{length-lines_from}
use Rattle.actor_script.proofs.Worked.{draw, of_zero, of_one}
use Rattle.actor_script.proofs.laws.generated_lines.Goals as goal

pub returns-clause-so_many : goal.returns-clause-so_many
returns-clause-so_many c = λ number count. length-lines_from (beginning number) count

pub returns-clause-draw : goal.returns-clause-draw
returns-clause-draw c = draw

pub returns-clause-of_zero : goal.returns-clause-of_zero
returns-clause-of_zero c = of_zero

pub returns-clause-of_one : goal.returns-clause-of_one
returns-clause-of_one c = of_one
