use Rattle.stretches.specs.Leaves.{entries}
use Rattle.stretches.specs.Spots.{index}
use Rattle.stretches.specs.declared.spot.Spot.{Spot}
use Rattle.regions.specs.Seen.{IsPlaceOf}
use Rattle.regions.proofs.Found.{some_found}
use Rattle.regions.proofs.search.known_spot.Goals as goal

pub unwrap-requires : goal.unwrap-requires
unwrap-requires c =
    let l = c.args.regions.now in
    some_found c.args.number.0 (entries l) c.spot_of.result (λ (s : Spot). IsPlaceOf c.args.number.0 (entries l) (index l s)) c.spot_of.ensures.place c.requires.there
