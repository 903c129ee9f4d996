use Rattle.std.proofs.Common.{ℕ, ◌∙◌, ap, sym, subst, get_or}
use Rattle.stretches.specs.Leaves.{entries}
use Rattle.stretches.specs.Stretch.{IsFit}
use Rattle.stretches.proofs.Leaves.Held.{held_within}
use Rattle.stretches.proofs.Reading.Order.{fit_at}
use Rattle.stretches.proofs.bounds.join_pair.Goals as goal

pub can_join-requires : goal.can_join-requires
can_join-requires g c = subst (IsFit g.V.Says) (sym c.get-stretch.ensures) (fit_at g.V.Says 0 _ c.requires.order _ c.get-stretch.result (held_within c.args.stretches.now c.args.pair.first c.requires.pair.first))

pub join-requires-clause-next : goal.join-requires-clause-next
join-requires-clause-next g c = sym (c.get-next.ensures ∙ ap (λ (q : ℕ). get_or (entries c.args.stretches.now) q c.get-next.result) c.requires.pair.next)
