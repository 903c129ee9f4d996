use Rattle.std.proofs.Common.{◌≡◌, ◌+◌, ℕ, sym, ap, ◌∙◌, arith}
use Rattle.std.specs.Ordering.{nat_cmp}
use Rattle.std.specs.FinMap.{FinMap}
use Rattle.own_states.specs.declared.own.Own.{Own}
use Rattle.own_states.proofs.Heirs.{inherited_one}
use Rattle.own_states.proofs.Joined.{told_at}
use Rattle.own_states.proofs.own_states.OwnStates.inherit_some.Goals as goal

pub inherit_plain-requires-clause-alike : goal.inherit_plain-requires-clause-alike
inherit_plain-requires-clause-alike c k less = told_at c.self.inside.blocks c.self.inside.plain c.args.self.now c.self.view_is c.args.from c.in-Some.stretch c.in-Some.ensures.from (c.args.from + k) (omega arith) (omega (arith, less))

pub returns-in-None-clause-inherited : goal.returns-in-None-clause-inherited
returns-in-None-clause-inherited c = c.inherit_one.ensures ∙ ap (λ (m : FinMap nat_cmp Own). record c.args.self.now { states = m }) (sym (inherited_one c.args.self.now.states c.args.to c.args.from))
