use Rattle.std.proofs.Common.{rules, ◌-◌, arith, subst}
use Rattle.stretches.specs.Changes.{SayAlso}
use Rattle.stretches.proofs.Changes.Parts.{fit_front, lasts_fewer}
use Rattle.stretches.proofs.Reading.Numbers.{high, low}
use Rattle.local_cache.proofs.ManyNodes.Cleared.{part_cleared, part_len}
use Rattle.local_cache.proofs.runs.clearing.clear_part.Goals as goal

pub put_back-requires-clause-fit : goal.put_back-requires-clause-fit
put_back-requires-clause-fit g c =
    let stretch = c.remove-stretch.result in
    let is = c.remove-stretch.ensures.with in
    λ some. fit_front g.V.Says g.met.V.Says.laws stretch (c.args.first - stretch.first) some (omega (arith, high stretch c.args.first is.has, low stretch c.args.first is.has)) is.fit

pub after-requires : goal.after-requires
after-requires g c =
    let stretch = c.remove-stretch.result in
    let is = c.remove-stretch.ensures.with in
    lasts_fewer g.V.Says g.met.V.Says.laws stretch.value (c.min-until.result - stretch.first) stretch.count (omega (arith, c.min-until.ensures, low stretch c.args.first is.has)) is.fit.lasts

-- what is left behind the numbers that went
pub returns : goal.returns
returns g c =
    let stretch = c.remove-stretch.result in
    let is = c.remove-stretch.ensures.with in
    let until = c.min-until.result in
    let begun = c.put_back.new.list.list in
    let rest = subst (λ v. SayAlso g.V.Says begun (record { first = until; count = stretch.count - (until - stretch.first); value = v }) c.put_back-2.new.list.list) c.after.ensures c.put_back-2.ensures.also in
    let counts = part_len g.V.Says g.met.V.Says.laws _ _ begun _ stretch c.args.first until is c.remove-stretch.ensures.less c.put_back.ensures.also rest
    (omega (arith, c.min-until.ensures, c.requires.some, high stretch c.args.first is.has)) (omega (arith, c.min-until.ensures)) in
    record {
      more = search rules;
      within = search rules;
      cells = (part_cleared g.V.Says g.met.V.Says.laws _ _ begun _ stretch c.args.first until is c.remove-stretch.ensures.less c.put_back.ensures.also rest
          (omega (arith, c.min-until.ensures, c.requires.some, high stretch c.args.first is.has)) (omega (arith, c.min-until.ensures)));
      counted = omega (arith, counts, c.min-until.ensures, c.requires.some, high stretch c.args.first is.has, low stretch c.args.first is.has, c.requires.counted, c.remove-stretch.ensures.count, c.put_back.ensures.count, c.put_back-2.ensures.count);
      places = search rules;
    }
