use Rattle.std.proofs.Common.{List, ap, ◌∙◌}
use Rattle.std.specs.Prelude.{slice_get}
use Rattle.least_heap.specs.declared.heap.Numbered.{Numbered}
use Rattle.least_heap.proofs.Numbering.{known, least_of}
use Rattle.least_heap.proofs.least_heap.LeastHeap.least.Goals as goal

pub returns : goal.returns
returns c =
    let m = known c.self.inside.heap.items c.self.inside.stands.items c.self.inside.room c.args.self.now c.self.invariant.heap_is c.self.view_is in
    least_of c.self.inside.heap.items c.args.self.now.numbers c.copied.result m c.self.invariant.heap_is.ordered
    (c.copied.ensures ∙ c.first.ensures.value ∙ ap (λ (l : List Numbered). slice_get l 0) c.deref.ensures.value)
