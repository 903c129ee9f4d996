use Rattle.std.proofs.Common.{None, cond, sym, ap, ◌∙◌}
use Rattle.std.specs.FinMap as map
use Rattle.mixed_map.specs.Mixed.{Mixed}
use Rattle.stretches.specs.Stretch.{is_in}
use Rattle.mixed_map.proofs.Telling.{is_without, tells, told_less}
use Rattle.mixed_map.proofs.mixed_map.MixedMap.remove_stretch.Goals as goal

pub returns-clause-from : goal.returns-clause-from
returns-clause-from g c =
    let from = c.remove_part.ensures.from in
    record { begins = from.begins; fit = from.fit; told_by = tells g.V.Says g.S.Alone.told c.self.inside.lone c.self.inside.stretches c.args.self.now c.self.view_is c.remove_part.result from.said }

pub returns-clause-cells : goal.returns-clause-cells
returns-clause-cells g c =
    is_without c.args.self.now.cells _ c.remove_part.result (λ n.
    told_less g.V.Says g.S.Alone.told c.self.inside.lone.entries c.self.inside.stretches.list c.remove_part.result c.remove_part.new.self.list c.remove_part.ensures.less
    (λ q h. c.self.invariant.apart q _ (c.remove_part.ensures.from.said q h)) n
    ∙ ap (λ (v : Mixed _ _). cond (is_in c.remove_part.result n) None (map.get v.cells n)) c.self.view_is)

pub returns-clause-apart : goal.returns-clause-apart
returns-clause-apart g c n h =
    sym (ap (λ (v : Mixed _ _). map.get v.slots n) c.self.view_is)
    ∙ c.self.invariant.placed n (c.self.invariant.apart n _ (c.remove_part.ensures.from.said n h))
