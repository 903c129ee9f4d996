use Rattle.std.proofs.Common.{◌≡◌, ◌+◌, ◌<◌, ◌≤◌, ℕ, inl, inr, arith}
use Rattle.std.proofs.lemmas.Bool.{cases_lt}
use Rattle.mixed_map.proofs.Telling.{together_fewer}
use Rattle.own_states.proofs.gathering.gather_some.Goals as goal

pub gather_part-requires-clause-some : goal.gather_part-requires-clause-some
gather_part-requires-clause-some c = omega (arith, c.in-Some.ensures.next.fit.some, c.in-Some.ensures.next.from, c.if-stretch-number.true)

pub gather_part-requires-clause-together : goal.gather_part-requires-clause-together
gather_part-requires-clause-together c = together_fewer c.args.plain.now.list c.in-Some.stretch.first c.in-Some.stretch.count c.min-count.result (omega arith) c.in-Some.ensures.together

pub gather_part-requires-clause-within : goal.gather_part-requires-clause-within
gather_part-requires-clause-within c = omega (arith, c.requires.together, c.in-Some.ensures.next.from, c.if-stretch-number.true)

pub returns-in-Some-clause-none : goal.returns-in-Some-clause-none
returns-in-Some-clause-none c n from to = elim (cases_lt n c.in-Some.stretch.first) [
  | inl before ↦ c.gather_part.ensures.no_more n (c.in-Some.ensures.next.none n from before)
  | inr behind ↦ c.gather_part.ensures.none n behind (omega (arith, to, c.in-Some.ensures.next.from))
]

pub returns-in_default-clause-none : goal.returns-in_default-clause-none
returns-in_default-clause-none c n from to = c.in-Some.ensures.next.none n from (omega (arith, to, c.if-stretch-number.false))

pub returns-in_default-2-clause-none : goal.returns-in_default-2-clause-none
returns-in_default-2-clause-none c n from to = c.in_default.ensures.next n from
