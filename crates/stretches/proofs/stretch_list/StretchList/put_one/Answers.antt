use Rattle.std.proofs.Common.{sym, subst}
use Rattle.stretches.specs.declared.stretch.Stretch.{Stretch}
use Rattle.stretches.specs.Stretches.{AreTogether}
use Rattle.stretches.proofs.Reading.Sayings.{place_said}
use Rattle.stretches.proofs.Reading.Together.{together_one}
use Rattle.stretches.proofs.stretch_list.StretchList.put_one.Goals as goal

pub put-requires-clause-together : goal.put-requires-clause-together
put-requires-clause-together g c =
    let place = place_said g.V.Says _ c.args.number c.requires.there in
    subst (λ (r : Stretch _). AreTogether c.args.self.now.list r.first r.count) (sym c.single.ensures) (together_one _ c.args.number place.0 place.1)
