use Rattle.std.proofs.Common.{◌≡◌, ◌+◌, Some, sym, subst, ◌∙◌}
use Rattle.std.specs.Prelude.{IsSome}
use Rattle.regions.specs.AddressSpace.{AddressSpace}
use Rattle.contexts.specs.Counting.{count_of, times_in}
use Rattle.contexts.proofs.spaces.forget_regions.Goals as goal

pub unreachable-requires : goal.unreachable-requires
unreachable-requires c = let none = sym c.in-None.ensures in absurd (cc (subst IsSome none c.requires.alive))

pub forget_all-requires : goal.forget_all-requires
forget_all-requires c = λ n. c.requires.counted n c.in-Some.regions.now (sym c.in-Some.ensures)

pub returns : goal.returns
returns c = λ n s at.
    let here = sym at ∙ sym c.in-Some.ensures in
    let same : s ≡ c.in-Some.regions.now = cc here in
    subst (λ (t : AddressSpace). count_of c.args.counts.now n ≡ count_of c.forget_all.new.counts n + times_in n (Some t.regions)) (sym same) (c.forget_all.ensures n)
