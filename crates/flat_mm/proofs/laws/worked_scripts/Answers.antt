use Rattle.flat_mm.proofs.TwoManagers.FramedAnswers.{frames_are_enough, frames_run_out}
use Rattle.flat_mm.proofs.laws.worked_scripts.Goals as goal

pub returns-clause-frames_run_out : goal.returns-clause-frames_run_out
returns-clause-frames_run_out c = frames_run_out

pub returns-clause-frames_are_enough : goal.returns-clause-frames_are_enough
returns-clause-frames_are_enough c = frames_are_enough
