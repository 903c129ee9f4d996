use Rattle.std.proofs.Common.{◌∙◌}
use Rattle.mixed_map.proofs.Filling.{entry_at}
use Rattle.mixed_map.proofs.lone_map.LoneMap.at.Goals as goal

pub returns : goal.returns
returns g c =
    entry_at c.self.inside.slots c.self.inside.index.places c.args.self.now _ c.self.view_is c.args.place.number c.args.place.slot c.requires ∙ c.index.ensures
