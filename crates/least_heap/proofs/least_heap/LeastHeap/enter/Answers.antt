use Rattle.std.proofs.Common.{◌≡◌, Some, None, sym, ap, ◌∙◌}
use Rattle.least_heap.specs.declared.heap.Numbered.{Numbered}
use Rattle.least_heap.specs.Heaps.{Numbers}
use Rattle.least_heap.proofs.Numbering.{apart, known, longer, map_kept, map_more, numbers_is, one_map, out_of, same_numbers}
use Rattle.least_heap.proofs.least_heap.LeastHeap.enter.Goals as goal

pub put_in-requires-clause-free : goal.put_in-requires-clause-free
put_in-requires-clause-free c =
    let m = known c.self.inside.heap.items c.self.inside.stands.items c.self.inside.room c.args.self.now c.self.invariant.heap_is c.self.view_is in
    λ there. (let none : Some there.0 ≡ None = sym (m.there c.args.place there.0 there.1) ∙ c.requires.free in cc)

pub returns : goal.returns
returns c =
    let x : Numbered = record { number = c.args.number; place = c.args.place } in
    let m = known c.self.inside.heap.items c.self.inside.stands.items c.self.inside.room c.args.self.now c.self.invariant.heap_is c.self.view_is in
    let out = out_of c.self.inside.heap.items c.args.place (λ there. (let none : Some there.0 ≡ None = sym (m.there c.args.place there.0 there.1) ∙ c.requires.free in cc)) in
    same_numbers _ _ c.self.inside.room c.args.self.now.room
    (one_map c.put_in.new.heap.items _ _ (numbers_is c.put_in.new.heap.items (apart c.put_in.new.heap.items c.put_in.new.stands c.put_in.ensures.heap.standing))
    (map_kept (longer c.self.inside.heap.items x) c.put_in.new.heap.items _ c.put_in.ensures.same (map_more c.self.inside.heap.items x c.args.self.now.numbers m out)))
    (ap (λ (e : Numbers). e.room) c.self.view_is)
