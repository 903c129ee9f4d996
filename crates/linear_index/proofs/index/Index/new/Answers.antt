use Rattle.std.proofs.Common.{refl}
use Rattle.linear_index.proofs.Placed.{none_placed, same_entered}
use Rattle.linear_index.proofs.index.Index.new.Goals as goal

pub returns : goal.returns
returns c = same_entered _ _ 0 0 (none_placed c.new-2.result.items c.new-2.ensures.items) refl
