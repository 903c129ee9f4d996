use Rattle.std.proofs.Common.{◌-◌, ◌≤◌, ℕ, List, ap, sym, subst, ◌∙◌, arith}
use Rattle.contexts.specs.Counting.{count_of}
use Rattle.contexts.proofs.Counted.{counted_less, counted_read, counted_within}
use Rattle.contexts.proofs.counts.RegionCounts.take.Goals as goal

pub index_mut-requires : goal.index_mut-requires
index_mut-requires c =
    let n = c.args.cache.0 in
    let some = subst (λ (xs : List ℕ). 1 ≤ count_of xs n) (sym c.self.view_is) c.requires in
    omega (arith, counted_within c.self.inside.counts.items n some)

pub overflow_sub-index_mut : goal.overflow_sub-index_mut
overflow_sub-index_mut c =
    let n = c.args.cache.0 in
    let items = c.self.inside.counts.items in
    let some = subst (λ (xs : List ℕ). 1 ≤ count_of xs n) (sym c.self.view_is) c.requires in
    omega (arith, some, counted_read items n c.index_mut.result.now (counted_within items n some) c.index_mut.ensures.value)

pub returns : goal.returns
returns c = λ k.
    let n = c.args.cache.0 in
    let items = c.self.inside.counts.items in
    let some = subst (λ (xs : List ℕ). 1 ≤ count_of xs n) (sym c.self.view_is) c.requires in
    let within = counted_within items n some in
    let read = counted_read items n c.index_mut.result.now within c.index_mut.ensures.value in
    ap (λ (xs : List ℕ). count_of xs k) (sym c.self.view_is) ∙ counted_less items n (c.index_mut.result.now - 1) within (omega (arith, some, read)) k
