use Rattle.std.proofs.Common.{◌≡◌, ℕ, ◌<◌, Some, Option, sym, subst, ◌∙◌}
use Rattle.linear_index.specs.Chains.{next_at}
use Rattle.linear_index.proofs.Chaining.{before_on, below, front, in_some, is_behind, left}
use Rattle.linear_index.proofs.chains.before.Goals as goal

pub loop-next-init : goal.loop-next-init
loop-next-init c = record {
  on = (front c.args.cells.now c.args.first (c.requires.on.0, c.requires.on.1)).first;
  later = c.requires.on;
  apart = c.requires.behind;
}

pub bounds-cells-before : goal.bounds-cells-before
bounds-cells-before c = below c.args.cells.now c.loop-next.before (in_some c.args.cells.now (Some c.args.first) c.loop-next.before c.loop-next.invariant.on)

pub loop-next-smaller : goal.loop-next-smaller
loop-next-smaller c =
    let leads : next_at c.args.cells.now c.loop-next.before ≡ Some c.in-Some.next = sym c.next.ensures ∙ c.in-Some.is in
    let f = front c.args.cells.now c.loop-next.before (c.loop-next.invariant.later.0, c.loop-next.invariant.later.1) in
    subst (λ (o : Option ℕ). left c.args.cells.now o < left c.args.cells.now (Some c.loop-next.before)) leads f.less

pub loop-next-preserved : goal.loop-next-preserved
loop-next-preserved c = before_on c.args.cells.now c.args.first c.loop-next.before c.args.place c.in-Some.next c.loop-next.invariant (sym c.next.ensures ∙ c.in-Some.is) c.if-next-place.false

pub unreachable-requires : goal.unreachable-requires
unreachable-requires c = is_behind c.args.cells.now c.args.first c.loop-next.before c.args.place c.loop-next.invariant (sym c.next.ensures ∙ c.in_default.is)
