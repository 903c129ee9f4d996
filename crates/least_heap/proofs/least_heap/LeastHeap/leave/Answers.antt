use Rattle.std.proofs.Common.{ap}
use Rattle.least_heap.specs.Heaps.{Numbers}
use Rattle.least_heap.proofs.Numbering.{apart, has_place, known, map_less, numbers_is, one_map, same_numbers}
use Rattle.least_heap.proofs.least_heap.LeastHeap.leave.Goals as goal

pub take_out-requires-clause-there : goal.take_out-requires-clause-there
take_out-requires-clause-there c =
    let m = known c.self.inside.heap.items c.self.inside.stands.items c.self.inside.room c.args.self.now c.self.invariant.heap_is c.self.view_is in
    has_place c.self.inside.heap.items c.args.self.now.numbers c.args.place m c.requires

pub returns : goal.returns
returns c =
    let m = known c.self.inside.heap.items c.self.inside.stands.items c.self.inside.room c.args.self.now c.self.invariant.heap_is c.self.view_is in
    same_numbers _ _ c.self.inside.room c.args.self.now.room
    (one_map c.take_out.new.heap.items _ _ (numbers_is c.take_out.new.heap.items (apart c.take_out.new.heap.items c.take_out.new.stands c.take_out.ensures.heap.standing))
    (map_less c.self.inside.heap.items c.take_out.new.heap.items c.args.self.now.numbers c.args.place c.take_out.ensures.rest m))
    (ap (λ (e : Numbers). e.room) c.self.view_is)
