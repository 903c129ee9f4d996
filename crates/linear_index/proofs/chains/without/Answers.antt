use Rattle.std.proofs.Common.{ℕ, ◌==◌, not, Some, Option, sym, subst}
use Rattle.linear_index.specs.Chains.{Ends, IsPart, next_at}
use Rattle.linear_index.proofs.Chaining.{below, in_some}
use Rattle.linear_index.proofs.Parts.{cut_keys, cut_part, without_first}
use Rattle.linear_index.proofs.chains.without.Goals as goal

pub bounds-cells-place : goal.bounds-cells-place
bounds-cells-place c = below c.args.cells.now c.args.place (in_some c.args.cells.now (Some c.args.first) c.args.place c.requires)

pub returns-then-first-place-clause-rest : goal.returns-then-first-place-clause-rest
returns-then-first-place-clause-rest c =
    let ends : Ends c.args.cells.now (Some c.args.place) = subst (λ (f : ℕ). Ends c.args.cells.now (Some f)) c.if-first-place.true (c.requires.0, c.requires.1) in
    subst (λ (o : Option ℕ). IsPart c.args.cells.now c.args.cells.now (Some c.args.first) o (λ p. not (p == c.args.place))) (sym c.next.ensures)
    (subst (λ (f : ℕ). IsPart c.args.cells.now c.args.cells.now (Some f) (next_at c.args.cells.now c.args.place) (λ p. not (p == c.args.place))) (sym c.if-first-place.true) (without_first c.args.cells.now c.args.place ends))

pub returns-clause-rest : goal.returns-clause-rest
returns-clause-rest c = cut_part c.args.cells.now (Some c.args.first) c.before-2.result c.args.place c.before-2.ensures.on c.requires c.before-2.ensures.next

pub returns-clause-keys : goal.returns-clause-keys
returns-clause-keys c = cut_keys c.args.cells.now (Some c.args.first) c.before-2.result c.args.place c.before-2.ensures.on c.requires
