use Rattle.std.proofs.Common.{◌+◌, ℕ, sym, ap, subst, ◌∙◌, arith}
use Rattle.stretches.specs.Stretches.{AreTogether}
use Rattle.stretches.proofs.Reading.Numbers.{within}
use Rattle.mixed_map.specs.Mixed.{without_range}
use Rattle.mixed_map.proofs.Maps.{range_none}
use Rattle.mixed_map.proofs.Telling.{together_fewer}
use Rattle.mixed_map.proofs.mixed_map.MixedMap.remove_told.Goals as goal

pub remove_stretch-requires-clause-together : goal.remove_stretch-requires-clause-together
remove_stretch-requires-clause-together g c =
    let whole = subst (λ (n : ℕ). AreTogether c.args.self.now.list n c.in-Some.stretch.count) c.in-Some.ensures.from.begins c.in-Some.ensures.together in
    together_fewer c.args.self.now.list c.args.number c.in-Some.stretch.count c.min.result (omega arith) whole

pub returns-clause-cells : goal.returns-clause-cells
returns-clause-cells g c =
    c.remove_stretch.ensures.cells ∙ ap (λ (n : ℕ). without_range c.args.self.now.cells n c.remove_stretch.result.count) c.remove_stretch.ensures.from.begins

pub returns-clause-slots : goal.returns-clause-slots
returns-clause-slots g c =
    let r = c.remove_stretch.result in
    c.remove_stretch.ensures.slots ∙ sym (range_none c.args.self.now.slots c.args.number r.count (λ j less.
    c.remove_stretch.ensures.apart (c.args.number + j) (within r (c.args.number + j) (omega (arith, c.remove_stretch.ensures.from.begins)) (omega (arith, c.remove_stretch.ensures.from.begins)))))
