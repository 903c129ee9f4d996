use Rattle.std.proofs.Common.{◌+◌, ◌<◌, ◌^◌, ℕ, List, length, ap, sym, subst, ◌∙◌, arith}
use Rattle.contexts.specs.Counting.{count_of, one_for}
use Rattle.contexts.proofs.Counted.{counted_more, counted_read}
use Rattle.contexts.proofs.counts.RegionCounts.add.Goals as goal

pub overflow_add-index_mut : goal.overflow_add-index_mut
overflow_add-index_mut c =
    let n = c.args.cache.0 in
    let items = c.self.inside.counts.items in
    let within = subst (λ (xs : List ℕ). n < length xs) (sym c.self.view_is) c.requires.place in
    let few = subst (λ (xs : List ℕ). count_of xs n + 1 < 2 ^ 32) (sym c.self.view_is) c.requires.few in
    omega (arith, few, counted_read items n c.index_mut.result.now within c.index_mut.ensures.value)

pub returns : goal.returns
returns c = λ k.
    let n = c.args.cache.0 in
    let items = c.self.inside.counts.items in
    let within = subst (λ (xs : List ℕ). n < length xs) (sym c.self.view_is) c.requires.place in
    let read = counted_read items n c.index_mut.result.now within c.index_mut.ensures.value in
    counted_more items n (c.index_mut.result.now + 1) within (omega (arith, read)) k
    ∙ ap (λ (xs : List ℕ). count_of xs k + one_for n k) c.self.view_is
