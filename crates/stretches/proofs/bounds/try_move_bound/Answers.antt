use Rattle.std.proofs.Common.{ℕ, ◌∙◌, ap, sym, subst, get_or}
use Rattle.stretches.specs.Leaves.{entries}
use Rattle.stretches.specs.Stretch.{IsFit}
use Rattle.stretches.proofs.Leaves.Held.{held_within}
use Rattle.stretches.proofs.Reading.Order.{fit_at}
use Rattle.stretches.proofs.bounds.try_move_bound.Goals as goal

pub can_join-requires : goal.can_join-requires
can_join-requires g c = subst (IsFit g.V.Says) (sym c.get-before.ensures) (fit_at g.V.Says 0 _ c.requires.order _ c.get-before.result (held_within c.args.stretches.now c.in-Some.pair.first c.in-Some.ensures.0.first))

pub move_bound-requires-clause-old : goal.move_bound-requires-clause-old
move_bound-requires-clause-old g c = sym (c.get-old.ensures ∙ ap (λ (q : ℕ). get_or (entries c.args.stretches.now) q c.get-old.result) c.in-Some.ensures.0.next)
