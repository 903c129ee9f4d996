use Rattle.std.proofs.Common.{◌-◌, ◌+◌, arith, subst}
use Rattle.stretches.specs.Changes.{SayAlso}
use Rattle.stretches.proofs.Changes.Parts.{fit_front, lasts_fewer}
use Rattle.stretches.proofs.Reading.Numbers.{high, low}
use Rattle.local_cache.proofs.Singles.{cells_cleared}
use Rattle.local_cache.proofs.runs.one_number.take_one.Goals as goal

pub put_back-requires-clause-fit : goal.put_back-requires-clause-fit
put_back-requires-clause-fit g c =
    let stretch = c.remove-stretch.result in
    let is = c.remove-stretch.ensures.with in
    λ some. fit_front g.V.Says g.met.V.Says.laws stretch (c.args.number - stretch.first) some (omega (arith, high stretch c.args.number is.has, low stretch c.args.number is.has)) is.fit

pub after-requires : goal.after-requires
after-requires g c =
    let stretch = c.remove-stretch.result in
    let is = c.remove-stretch.ensures.with in
    lasts_fewer g.V.Says g.met.V.Says.laws stretch.value (c.args.number - stretch.first + 1) stretch.count (omega (arith, high stretch c.args.number is.has, low stretch c.args.number is.has)) is.fit.lasts

pub returns-clause-cells : goal.returns-clause-cells
returns-clause-cells g c =
    let stretch = c.remove-stretch.result in
    let is = c.remove-stretch.ensures.with in
    let by = c.args.number - stretch.first + 1 in
    let begun = c.put_back.new.list.list in
    let rest = subst (λ v. SayAlso g.V.Says begun (record { first = stretch.first + by; count = stretch.count - by; value = v }) c.put_back-2.new.list.list) c.after.ensures c.put_back-2.ensures.also in
    cells_cleared g.V.Says g.met.V.Says.laws _ _ _ _ stretch c.args.number is.has is.said c.remove-stretch.ensures.less c.put_back.ensures.also rest
