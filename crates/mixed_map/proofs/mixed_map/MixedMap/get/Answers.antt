use Rattle.std.proofs.Common.{◌≡◌, Option, Some, None, sym, ap, ◌∙◌}
use Rattle.std.specs.FinMap as map
use Rattle.stretches.specs.Stretches.{said}
use Rattle.mixed_map.proofs.Telling.{cell_alone, get_seen, or_told, said_seen}
use Rattle.mixed_map.proofs.mixed_map.MixedMap.get.Goals as goal

pub returns-in_err-value-in-None : goal.returns-in_err-value-in-None
returns-in_err-value-in-None g c =
    let none : said g.V.Says c.self.inside.stretches.list c.args.number ≡ None = sym c.get-in-None.ensures ∙ c.in_err-value-in-None.was in
    rw c.from_residual.ensures (get_seen g.V.Says g.S.Alone.told c.self.inside.lone c.self.inside.stretches c.args.self.now c.self.view_is c.args.number
    ∙ ap (λ (o : Option _). or_told g.V.Says g.S.Alone.told o (map.get c.self.inside.lone.entries c.args.number)) none ∙ sym c.in-None.ensures)

pub returns-in-Some : goal.returns-in-Some
returns-in-Some g c =
    let alone = cell_alone g.V.Says g.S.Alone.told c.self.inside.lone c.self.inside.stretches c.args.self.now c.self.view_is c.self.invariant c.args.number _ (sym c.in-Some.ensures) in
    (alone.0, sym (said_seen g.V.Says g.S.Alone.told c.self.inside.lone c.self.inside.stretches c.args.self.now c.self.view_is c.args.number) ∙ alone.1)

pub returns-in_ok-value-in-None : goal.returns-in_ok-value-in-None
returns-in_ok-value-in-None g c =
    let is : said g.V.Says c.self.inside.stretches.list c.args.number ≡ Some c.in_ok-value-in-None.value = sym c.get-in-None.ensures ∙ c.in_ok-value-in-None.was in (
      get_seen g.V.Says g.S.Alone.told c.self.inside.lone c.self.inside.stretches c.args.self.now c.self.view_is c.args.number ∙ ap (λ (o : Option _). or_told g.V.Says g.S.Alone.told o (map.get c.self.inside.lone.entries c.args.number)) is,
      sym (said_seen g.V.Says g.S.Alone.told c.self.inside.lone c.self.inside.stretches c.args.self.now c.self.view_is c.args.number) ∙ is,
    )
