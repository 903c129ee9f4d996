use Rattle.seg_manager.proofs.Definition.Reopening.{reopens_as_it_was}
use Rattle.seg_manager.proofs.laws.reopening.Goals as goal

pub returns : goal.returns
returns c = reopens_as_it_was
