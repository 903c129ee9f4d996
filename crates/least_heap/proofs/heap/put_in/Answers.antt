use Rattle.std.proofs.Common.{◌≡◌, ◌≢◌, ℕ, ◌+◌, ◌<◌, List, [], ◌∷◌, ◌++◌, length, sym, ap, subst, ◌∙◌, arith, set}
use Rattle.std.proofs.lemmas.List.{length_push, set_at, with_items_is}
use Rattle.least_heap.specs.declared.heap.Numbered.{Numbered}
use Rattle.least_heap.specs.Heaps.{IsHeap, IsRising, place_at, SameNumbers}
use Rattle.least_heap.proofs.Numbering.{apart, entered, fewer, longer, out_of}
use Rattle.least_heap.proofs.heap.put_in.Goals as goal

-- there are fewer numbers than places
below : (heap : List Numbered) (stands : List ℕ) (x : Numbered) → IsHeap heap stands → ((i : ℕ) → i < length heap → place_at heap i ≢ x.place) → x.place < length stands → length heap < length stands
below heap stands x h out less = fewer heap (length stands) x.number x.place (apart heap stands h.standing) (λ i within. (h.standing i within).0) out less

-- the number that was put at the end stands there
at_end : (heap wide : List Numbered) (x : Numbered) (index : ℕ) → wide ≡ heap ++ x ∷ [] → index ≡ length heap → set wide index x ≡ longer heap x
at_end heap wide x index is e = ap (λ (l : List Numbered). set l index x) is ∙ set_at heap x [] x index (sym e)

pub push_reserved-requires : goal.push_reserved-requires
push_reserved-requires c = omega (arith, below c.args.heap.now.items c.args.stands.now c.args.numbered c.requires.heap (out_of c.args.heap.now.items c.args.numbered.place c.requires.free) c.requires.place, c.requires.room)

pub rise-requires-clause-rising : goal.rise-requires-clause-rising
rise-requires-clause-rising c =
    let index : c.len-index.result ≡ length c.args.heap.now.items = omega arith in
    let is : set c.deref_mut.result.now c.len-index.result c.args.numbered ≡ longer c.args.heap.now.items c.args.numbered = at_end c.args.heap.now.items c.deref_mut.result.now c.args.numbered c.len-index.result (c.deref_mut.ensures.value ∙ c.push_reserved.ensures.items) index in
    subst (λ (l : List Numbered). IsRising l c.args.stands.now c.len-index.result) (sym is)
    (subst (IsRising (longer c.args.heap.now.items c.args.numbered) c.args.stands.now) (sym index)
    (entered c.args.heap.now.items c.args.numbered c.args.stands.now c.requires.heap (out_of c.args.heap.now.items c.args.numbered.place c.requires.free) c.requires.place))

pub rise-requires-clause-few : goal.rise-requires-clause-few
rise-requires-clause-few c =
    let less = below c.args.heap.now.items c.args.stands.now c.args.numbered c.requires.heap (out_of c.args.heap.now.items c.args.numbered.place c.requires.free) c.requires.place in
    let long : length c.deref_mut.result.now ≡ length c.args.heap.now.items + 1 = ap (λ (l : List Numbered). length l) (c.deref_mut.ensures.value ∙ c.push_reserved.ensures.items) ∙ length_push c.args.heap.now.items c.args.numbered in
    omega (arith, less, long, c.requires.few)

pub returns-clause-same : goal.returns-clause-same
returns-clause-same c =
    let index : c.len-index.result ≡ length c.args.heap.now.items = omega arith in
    let is : set c.deref_mut.result.now c.len-index.result c.args.numbered ≡ longer c.args.heap.now.items c.args.numbered = at_end c.args.heap.now.items c.deref_mut.result.now c.args.numbered c.len-index.result (c.deref_mut.ensures.value ∙ c.push_reserved.ensures.items) index in
    let heap = with_items_is c.push_reserved.new.self c.rise.new.heap (omega arith) in
    subst (SameNumbers (longer c.args.heap.now.items c.args.numbered)) (sym heap) (subst (λ (l : List Numbered). SameNumbers l c.rise.new.heap) is c.rise.ensures.same)
