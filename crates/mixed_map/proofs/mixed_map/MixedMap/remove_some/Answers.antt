use Rattle.std.proofs.Common.{sym, ap, ◌∙◌}
use Rattle.std.specs.FinMap as map
use Rattle.mixed_map.specs.Mixed.{Mixed}
use Rattle.mixed_map.proofs.Maps.{range_one}
use Rattle.mixed_map.proofs.mixed_map.MixedMap.remove_some.Goals as goal

pub returns-in-Some-clause-cells : goal.returns-in-Some-clause-cells
returns-in-Some-clause-cells g c =
    ap (λ (v : Mixed _ _). v.cells) c.remove.ensures.removed ∙ ap (map.remove c.args.self.now.cells) c.in-Some.ensures.place.0 ∙ sym (range_one c.args.self.now.cells c.args.number)

pub returns-in-Some-clause-slots : goal.returns-in-Some-clause-slots
returns-in-Some-clause-slots g c =
    ap (λ (v : Mixed _ _). v.slots) c.remove.ensures.removed ∙ ap (map.remove c.args.self.now.slots) c.in-Some.ensures.place.0 ∙ sym (range_one c.args.self.now.slots c.args.number)
