use Rattle.std.proofs.Common.{◌≡◌, List, sym, ap, ◌∙◌, arith}
use Rattle.std.specs.FinMap.{len-empty}
use Rattle.std.specs.FinMap as map
use Rattle.least_heap.specs.Heaps.{Numbers}
use Rattle.stretches.specs.Cells.{cells}
use Rattle.stretches.specs.Rising.{rising}
use Rattle.stretches.specs.Stretches.{number_count}
use Rattle.stretches.specs.declared.rising.Rising.{Rising}
use Rattle.stretches.specs.declared.stretch.Stretch.{Stretch}
use Rattle.local_cache.proofs.ThinFirst.{none_first}
use Rattle.local_cache.proofs.runs.thin_nodes.ThinNodes.new.Goals as goal

pub invariant_of-result : goal.invariant_of-result
invariant_of-result c =
    let none = none_first c.new-2.result.list c.new-2.ensures in
    let nothing : map.len (cells rising c.new-2.result.list) ≡ 0 = ap map.len none ∙ len-empty _ _ in
    let count : number_count c.new-2.result.list ≡ 0 = ap (λ (l : List (Stretch Rising)). number_count l) c.new-2.ensures in
    let room : c.new.result.room ≡ 0 = ap (λ (h : Numbers). h.room) c.new.ensures in
    record {
      counted = count ∙ sym nothing;
      places = omega (arith, room);
      few = omega (arith, nothing);
    }

pub returns : goal.returns
returns c = λ i. record {
  alone = (c.new.ensures i).numbers;
  among = none_first c.new-2.result.list c.new-2.ensures i;
  room = (c.new.ensures i).room;
}
