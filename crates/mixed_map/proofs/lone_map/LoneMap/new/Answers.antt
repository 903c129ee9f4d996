use Rattle.std.proofs.Common.{ap, refl, arith}
use Rattle.linear_index.specs.Entered.{Entered}
use Rattle.mixed_map.proofs.Filling.{filled_none, seen}
use Rattle.mixed_map.proofs.Keeping.{none_kept}
use Rattle.mixed_map.proofs.lone_map.LoneMap.new.Goals as goal

pub invariant_of-result : goal.invariant_of-result
invariant_of-result g c =
    (omega arith, none_kept c.new.result.places c.new-2.result (ap (λ (e : Entered). e.places) c.new.ensures) c.new-2.ensures.empty c.new-2.ensures.capacity)

pub returns : goal.returns
returns g c =
    let none = ap (λ (e : Entered). e.places) c.new.ensures in
    seen _ _ _ _ 0 0 (filled_none c.new-2.result c.new.result.places none) none refl
