use Rattle.std.proofs.Common.{sym, ap, subst, ◌∙◌, ◌≡◌}
use Rattle.std.specs.Prelude.{IfSome, IsSome}
use Rattle.std.proofs.lemmas.Option.{IfSome_then}
use Rattle.std.specs.FinMap as map
use Rattle.stretches.specs.Stretches.{said}
use Rattle.mixed_map.specs.Mixed.{Mixed}
use Rattle.mixed_map.specs.Place.{IsPlace}
use Rattle.mixed_map.specs.declared.place.Place.{Place}
use Rattle.mixed_map.proofs.Maps.{if_none}
use Rattle.mixed_map.proofs.Telling.{get_seen, is_told, placed_alone, said_seen}
use Rattle.mixed_map.proofs.mixed_map.MixedMap.place.Goals as goal

pub returns-clause-place : goal.returns-clause-place
returns-clause-place g c =
    subst (λ (v : Mixed _ _). IfSome c.place.result (λ (p : Place). (p.number ≡ c.args.number) × IsPlace v.slots p)) c.self.view_is c.place.ensures.place

pub returns-clause-alone : goal.returns-clause-alone
returns-clause-alone g c = IfSome_then c.place.result c.place.ensures.place (λ p at.
    sym (said_seen g.V.Says g.S.Alone.told c.self.inside.lone c.self.inside.stretches c.args.self.now c.self.view_is c.args.number)
    ∙ placed_alone g.V.Says g.S.Alone.told c.self.inside.lone c.self.inside.stretches c.self.invariant c.args.number p.slot (ap (map.get c.self.inside.lone.slots) (sym at.0) ∙ at.1))

pub returns-clause-none : goal.returns-clause-none
returns-clause-none g c = if_none c.place.result c.place.ensures.none (λ none. (
  sym (ap (λ (v : Mixed _ _). map.get v.slots c.args.number) c.self.view_is) ∙ none.0,
  (λ some. subst IsSome (said_seen g.V.Says g.S.Alone.told c.self.inside.lone c.self.inside.stretches c.args.self.now c.self.view_is c.args.number)
      (is_told g.V.Says g.S.Alone.told (said g.V.Says c.self.inside.stretches.list c.args.number) (map.get c.self.inside.lone.entries c.args.number) (subst IsSome (get_seen g.V.Says g.S.Alone.told c.self.inside.lone c.self.inside.stretches c.args.self.now c.self.view_is c.args.number) some) none.1)),
))
