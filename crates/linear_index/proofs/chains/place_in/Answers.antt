use Rattle.std.proofs.Common.{ℕ, ◌<◌, Option, inl, inr, sym, subst}
use Rattle.linear_index.specs.Chains.{Ends, IsIn, next_at}
use Rattle.linear_index.proofs.Chaining.{below, front, IsSeeking, left, none_in, seek_on}
use Rattle.linear_index.proofs.chains.place_in.Goals as goal

pub bounds-cells-place : goal.bounds-cells-place
bounds-cells-place c = below c.args.cells.now c.in-Some.place (front c.args.cells.now c.in-Some.place (subst (Ends c.args.cells.now) c.in-Some.is c.loop-next.invariant.ends)).some

pub returns-then-cell-key-clause-found : goal.returns-then-cell-key-clause-found
returns-then-cell-key-clause-found c =
    let f = front c.args.cells.now c.in-Some.place (subst (Ends c.args.cells.now) c.in-Some.is c.loop-next.invariant.ends) in
    (c.loop-next.invariant.from c.in-Some.place (subst (λ (o : Option ℕ). IsIn c.args.cells.now o c.in-Some.place) (sym c.in-Some.is) f.first), c.if-cell-key.true)

pub loop-next-smaller : goal.loop-next-smaller
loop-next-smaller c =
    let f = front c.args.cells.now c.in-Some.place (subst (Ends c.args.cells.now) c.in-Some.is c.loop-next.invariant.ends) in
    subst (λ (o : Option ℕ). left c.args.cells.now o < left c.args.cells.now c.loop-next.next) (sym c.next-next.ensures)
    (subst (λ (o : Option ℕ). left c.args.cells.now (next_at c.args.cells.now c.in-Some.place) < left c.args.cells.now o) (sym c.in-Some.is) f.less)

pub loop-next-preserved : goal.loop-next-preserved
loop-next-preserved c =
    subst (λ (o : Option ℕ). IsSeeking c.args.cells.now c.args.first o c.args.key) (sym c.next-next.ensures)
    (seek_on c.args.cells.now c.args.first c.in-Some.place c.args.key (subst (λ (o : Option ℕ). IsSeeking c.args.cells.now c.args.first o c.args.key) c.in-Some.is c.loop-next.invariant) c.if-cell-key.false)

pub returns-clause-absent : goal.returns-clause-absent
returns-clause-absent c = λ p i e. elim (c.loop-next.invariant.passed p i) [
  | inl next ↦ none_in c.args.cells.now p (subst (λ (o : Option ℕ). IsIn c.args.cells.now o p) c.in_default.is next)
  | inr other ↦ other e
]
