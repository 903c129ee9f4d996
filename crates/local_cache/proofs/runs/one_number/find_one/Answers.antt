use Rattle.std.proofs.Common.{arith}
use Rattle.stretches.proofs.Changes.Parts.{lasts_fewer}
use Rattle.local_cache.proofs.runs.one_number.find_one.Goals as goal

-- a stretch from the number on says of it what it begins with
pub returns-clause-fit : goal.returns-clause-fit
returns-clause-fit g c =
    let stretch = c.in_ok-stretch_from.field-0 in
    let from = c.in_ok-stretch_from.ensures.from in
    record {
      some = omega arith;
      short = omega arith;
      ends = omega (arith, from.begins, from.fit.some, from.fit.ends);
      lasts = lasts_fewer g.V.Says g.met.V.Says.laws stretch.value 1 stretch.count (omega (arith, from.fit.some)) from.fit.lasts;
    }
