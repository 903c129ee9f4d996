use Rattle.std.proofs.Common.{◌≡◌, ◌+◌, None, [], ◌∷◌, map, List, Option, ap, ◌∙◌, subst}
use Rattle.std.specs.Option.{option_or}
use Rattle.vm_model.specs.Machine as model
use Rattle.vm_model.specs.Regions.{region_among, region_with}
use Rattle.vm_model.specs.Seen.{IsLocated, IsPlaceOf, actors_seen, region_seen}
use Rattle.vm_model.specs.declared.tables.Actor.{Actor}
use Rattle.vm_model.specs.declared.tables.Region.{Region}
use Rattle.vm_model.proofs.Locating.{located_here, passed_actor}
use Rattle.vm_model.proofs.located.locate.Goals.{in-Some+in_default-locate_among, in_default}
use Rattle.vm_model.proofs.located.locate.Goals as goal

pub returns-in-Some-locate_among : goal.returns-in-Some-locate_among
returns-in-Some-locate_among c =
    let n = c.args.number.0 in
    let found = c.in-Some-locate_among in
    let here : IsPlaceOf n c.in-Some.actor.regions.items found.place found.region = subst (λ (rs : List Region). IsPlaceOf n rs found.place found.region) c.deref.ensures.value found.ensures in
    subst (λ (xs : List (Option Actor)). IsLocated n xs (record { actor = record { 0 = c.loop-index.index + 1 }; place = found.place; region = found.region })) c.deref-actor-items.ensures.value
    (located_here n c.deref-actor-items.result.now c.loop-index.index found.place c.actor-item.result c.in-Some.actor found.region c.loop-index-test.true c.actor-item.is c.in-Some.is here c.loop-index.invariant)

pub loop-index-preserved : goal.loop-index-preserved
loop-index-preserved c =
    let n = c.args.number.0 in
    let a = c.actor-item.result in
    let passed = passed_actor n c.deref-actor-items.result.now c.loop-index.index a c.loop-index-test.true c.actor-item.is in
    elim c.match-actor.branch [
      | in-Some+in_default-locate_among w ↦
          let none : region_among n (map region_seen w.in-Some.actor.regions.items) ≡ None = subst (λ (rs : List Region). region_among n (map region_seen rs) ≡ None) w.deref.ensures.value w.in_default-locate_among.ensures in
          passed (ap (λ (o : Option Actor). region_with n (actors_seen (o ∷ []))) w.in-Some.is ∙ ap (λ (o : Option model.Region). option_or o None) none) c.loop-index.invariant
      | in_default w ↦ passed (ap (λ (o : Option Actor). region_with n (actors_seen (o ∷ []))) w.in_default.is) c.loop-index.invariant
    ]
