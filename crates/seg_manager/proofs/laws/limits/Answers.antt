use Rattle.seg_manager.proofs.Definition.Limits.{equal_runs_answer_equally, runs_are_alike}
use Rattle.seg_manager.proofs.laws.limits.Goals as goal

pub returns-clause-runs_are_alike : goal.returns-clause-runs_are_alike
returns-clause-runs_are_alike c = runs_are_alike

pub returns-clause-equal_runs_answer_equally : goal.returns-clause-equal_runs_answer_equally
returns-clause-equal_runs_answer_equally c = equal_runs_answer_equally
