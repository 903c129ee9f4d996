use Rattle.std.proofs.Common.{◌-◌, arith}
use Rattle.stretches.proofs.Changes.Parts.{lasts_fewer}
use Rattle.stretches.proofs.Reading.Numbers.{high}
use Rattle.stretches.proofs.stretch_list.StretchList.get.Goals as goal

pub after-requires : goal.after-requires
after-requires g c =
    let stretch = c.in_ok-stretch.stretch in
    let found = c.in_ok-stretch.ensures.has in
    lasts_fewer g.V.Says g.met.V.Says.laws stretch.value (c.args.number - stretch.first) stretch.count (omega (arith, high stretch c.args.number found.has)) found.fit.lasts
