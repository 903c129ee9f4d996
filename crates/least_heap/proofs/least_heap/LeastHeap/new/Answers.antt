use Rattle.std.proofs.Common.{refl}
use Rattle.least_heap.proofs.Numbering.{none_numbered, same_numbers}
use Rattle.least_heap.proofs.least_heap.LeastHeap.new.Goals as goal

pub returns : goal.returns
returns c = same_numbers _ _ 0 0 (none_numbered c.new.result.items c.new.ensures.items) refl
