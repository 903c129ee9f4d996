use Rattle.std.proofs.Common.{◌++◌, ◌-◌, false, Bool, List, length, replicate, ap, ◌∙◌, arith}
use Rattle.number_pool.proofs.Splits.{seen_grown}
use Rattle.number_pool.proofs.pool.NumberPool.reserve.Goals as goal

pub returns-clause-ok : goal.returns-clause-ok
returns-clause-ok c =
    let total = c.args.total in
    rw (← c.self.view_is)
    (ap (λ (taken : List Bool). taken ++ replicate (total - length taken) false) c.in_ok-reserve.ensures.items
    ∙ seen_grown c.self.inside.taken.items c.self.inside.bound total c.self.invariant.within (omega (arith, c.if-total-self.false)))
