use Rattle.vm_model.proofs.WholeRuns.Chains.{runs_are_chains}
use Rattle.vm_model.proofs.WholeRuns.Order.{runs_are_in_order}
use Rattle.vm_model.proofs.laws.events.Goals as goal

pub returns-clause-runs_are_chains : goal.returns-clause-runs_are_chains
returns-clause-runs_are_chains c = runs_are_chains

pub returns-clause-runs_are_in_order : goal.returns-clause-runs_are_in_order
returns-clause-runs_are_in_order c = runs_are_in_order
