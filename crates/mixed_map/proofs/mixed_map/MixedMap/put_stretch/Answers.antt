use Rattle.std.proofs.Common.{sym, ap, subst, ◌∙◌, arith}
use Rattle.std.specs.FinMap as map
use Rattle.stretches.specs.Stretches.{AreTogether}
use Rattle.mixed_map.specs.Mixed.{Mixed, with_stretch}
use Rattle.mixed_map.proofs.Telling.{mixed_also, together_alone, told_also}
use Rattle.mixed_map.proofs.mixed_map.MixedMap.put_stretch.Goals as goal

pub invariant_of-self : goal.invariant_of-self
invariant_of-self g c =
    let together = subst (λ (v : Mixed _ _). AreTogether v.list c.args.stretch.first c.args.stretch.count) (sym c.self.view_is) c.requires.together in
    mixed_also g.V.Says g.S.Alone.told c.self.inside.lone c.self.inside.stretches c.put.new.self c.args.stretch c.self.invariant c.put.ensures.also
    (together_alone g.V.Says g.S.Alone.told c.self.inside.lone c.self.inside.stretches c.self.invariant c.args.stretch together)
    c.put.ensures.places (omega (arith, c.self.invariant.few, c.put.ensures.count))

pub returns-clause-cells : goal.returns-clause-cells
returns-clause-cells g c =
    told_also g.V.Says g.S.Alone.told c.self.inside.lone.entries c.self.inside.stretches.list c.args.stretch c.put.new.self.list c.put.ensures.also
    ∙ ap (λ (v : Mixed _ _). with_stretch g.V.Says g.S.Alone.told v.cells c.args.stretch) c.self.view_is

pub returns-clause-apart : goal.returns-clause-apart
returns-clause-apart g c n h =
    let together = subst (λ (v : Mixed _ _). AreTogether v.list c.args.stretch.first c.args.stretch.count) (sym c.self.view_is) c.requires.together in
    sym (ap (λ (v : Mixed _ _). map.get v.slots n) c.self.view_is)
    ∙ c.self.invariant.placed n (together_alone g.V.Says g.S.Alone.told c.self.inside.lone c.self.inside.stretches c.self.invariant c.args.stretch together n h)
