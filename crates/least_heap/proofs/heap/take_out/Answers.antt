use Rattle.std.proofs.Common.{◌≡◌, ◌+◌, ◌<◌, List, [], ◌∷◌, ◌++◌, length, Option, Some, sym, ap, subst, ◌∙◌, arith, set}
use Rattle.std.specs.Option.{option_to_list}
use Rattle.std.proofs.lemmas.List.{length_push, with_items_is}
use Rattle.least_heap.specs.declared.heap.Numbered.{Numbered}
use Rattle.least_heap.specs.Heaps.{IsRefilling, IsWithout, place_at, SameNumbers, stand_of}
use Rattle.least_heap.proofs.Numbering.{apart, at_end, filled, refilling, shorter, stands_at, without_filled, without_last, without_through}
use Rattle.least_heap.proofs.heap.take_out.Goals as goal

-- the heap without its last number
split : (heap rest : List Numbered) (o : Option Numbered) (last : Numbered) → heap ≡ rest ++ option_to_list o → o ≡ Some last → heap ≡ rest ++ last ∷ []
split heap rest o last is e = is ∙ ap (λ (p : Option Numbered). rest ++ option_to_list p) e

pub refill-requires-clause-refilling : goal.refill-requires-clause-refilling
refill-requires-clause-refilling c =
    let is = split c.args.heap.now.items c.pop.new.self.items c.pop.result c.unwrap-last.result c.pop.ensures.items c.unwrap-last.ensures in
    let less : stand_of c.args.stands.now c.args.place < length c.pop.new.self.items = omega arith in
    subst (λ (l : List Numbered). IsRefilling (set l (stand_of c.args.stands.now c.args.place) c.unwrap-last.result) c.args.stands.now (stand_of c.args.stands.now c.args.place)) (sym c.deref_mut.ensures.value)
    (refilling c.args.heap.now.items c.pop.new.self.items c.unwrap-last.result is (stand_of c.args.stands.now c.args.place) less c.args.stands.now c.requires.heap)

pub returns-then-index-len-clause-rest : goal.returns-then-index-len-clause-rest
returns-then-index-len-clause-rest c =
    let is = split c.args.heap.now.items c.pop.new.self.items c.pop.result c.unwrap-last.result c.pop.ensures.items c.unwrap-last.ensures in
    let less : stand_of c.args.stands.now c.args.place < length c.pop.new.self.items = omega arith in
    let at = stands_at c.args.heap.now.items c.args.stands.now c.args.place c.requires.heap c.requires.there in
    let heap = with_items_is c.pop.new.self c.refill.new.heap (omega arith) in
    subst (λ (l : List Numbered). IsWithout c.args.heap.now.items l c.args.place) (sym heap)
    (without_through c.args.heap.now.items (filled c.args.heap.now.items c.pop.new.self.items c.unwrap-last.result is (stand_of c.args.stands.now c.args.place) less) c.refill.new.heap c.args.place
    (without_filled c.args.heap.now.items c.pop.new.self.items c.unwrap-last.result is (stand_of c.args.stands.now c.args.place) less c.args.place (apart c.args.heap.now.items c.args.stands.now c.requires.heap.standing) at.2)
    (subst (λ (l : List Numbered). SameNumbers (set l (stand_of c.args.stands.now c.args.place) c.unwrap-last.result) c.refill.new.heap) c.deref_mut.ensures.value c.refill.ensures.same))

pub returns-else-index-len-clause-heap : goal.returns-else-index-len-clause-heap
returns-else-index-len-clause-heap c =
    let is = split c.args.heap.now.items c.pop.new.self.items c.pop.result c.unwrap-last.result c.pop.ensures.items c.unwrap-last.ensures in
    shorter c.args.heap.now.items c.pop.new.self.items c.unwrap-last.result is c.args.stands.now c.requires.heap

pub returns-else-index-len-clause-rest : goal.returns-else-index-len-clause-rest
returns-else-index-len-clause-rest c =
    let is = split c.args.heap.now.items c.pop.new.self.items c.pop.result c.unwrap-last.result c.pop.ensures.items c.unwrap-last.ensures in
    let at = stands_at c.args.heap.now.items c.args.stands.now c.args.place c.requires.heap c.requires.there in
    let long : length c.args.heap.now.items ≡ length c.pop.new.self.items + 1 = ap (λ (l : List Numbered). length l) is ∙ length_push c.pop.new.self.items c.unwrap-last.result in
    let last : stand_of c.args.stands.now c.args.place ≡ length c.pop.new.self.items = omega (arith, at.1, long) in
    let place : c.unwrap-last.result.place ≡ c.args.place = sym (ap (λ (y : Numbered). y.place) (at_end c.args.heap.now.items c.pop.new.self.items c.unwrap-last.result is)) ∙ ap (place_at c.args.heap.now.items) (sym last) ∙ at.2 in
    subst (IsWithout c.args.heap.now.items c.pop.new.self.items) place (without_last c.args.heap.now.items c.pop.new.self.items c.unwrap-last.result is (apart c.args.heap.now.items c.args.stands.now c.requires.heap.standing))
