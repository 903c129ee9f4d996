use Rattle.std.proofs.Common.{◌≡◌, ◌-◌, Option, Some, ap, sym, ◌∙◌, map, set}
use Rattle.std.specs.Prelude.{option_map}
use Rattle.std.proofs.lemmas.List.{map-set}
use Rattle.std.proofs.lemmas.Option.{get_or_from_slice_get}
use Rattle.std.proofs.Math.Seq.{map-set_same}
use Rattle.vm_model.specs.Machine as model
use Rattle.vm_model.specs.Machine.{numbered}
use Rattle.vm_model.specs.Answering.{insert_region}
use Rattle.vm_model.specs.declared.tables.Actor.{Actor}
use Rattle.vm_model.specs.Seen.{ArePlaced, actor_seen, region_seen}
use Rattle.vm_model.proofs.Parts.Lists.{err_weaker, found_is, is_there, at_number, ok_weaker}
use Rattle.vm_model.proofs.Machines.Sound.{numbered-all, placed-added, placed-set}
use Rattle.vm_model.proofs.maps.place_region.Goals as goal

pub returns-clause-seen : goal.returns-clause-seen
returns-clause-seen c =
    let xs = c.args.actors.now.items in
    let n = c.args.actor in
    let some = is_there (numbered xs n) c.requires in
    let is = found_is xs n some.0 c.index_mut.result.now some.1 c.index_mut.ensures.value in
    let same : some.0 ≡ c.in-Some.found = let e = c.in-Some.is in cc in
    ok_weaker c.add_region.result _ _ (λ seen.
    map-set (option_map actor_seen) xs (n - 1) (Some (record { regions = c.add_region.new.regions }))
    ∙ ap (λ (o : Option model.Actor). set (map (option_map actor_seen) xs) (n - 1) o)
    (ap Some seen ∙ sym (ap (option_map (λ (a : Actor). insert_region (region_seen c.args.region) (actor_seen a))) (some.1 ∙ ap Some same))))
    c.add_region.ensures.seen

pub returns-clause-err : goal.returns-clause-err
returns-clause-err c =
    let xs = c.args.actors.now.items in
    let n = c.args.actor in
    let some = is_there (numbered xs n) c.requires in
    let is = found_is xs n some.0 c.index_mut.result.now some.1 c.index_mut.ensures.value in
    let same : some.0 ≡ c.in-Some.found = let e = c.in-Some.is in cc in
    err_weaker c.add_region.result _ _ (λ items.
    map-set_same (option_map actor_seen) xs (n - 1) (Some (record { regions = c.add_region.new.regions })) (Some some.0)
    (ap (λ rs. Some (map region_seen rs)) items ∙ sym (ap (option_map actor_seen) (get_or_from_slice_get xs (n - 1) (Some some.0) (Some some.0) (at_number xs n some.0 some.1) ∙ ap Some same))))
    c.add_region.ensures.err

pub returns-clause-placed : goal.returns-clause-placed
returns-clause-placed c = λ b cs p h.
    let xs = c.args.actors.now.items in
    let n = c.args.actor in
    let some = is_there (numbered xs n) c.requires in
    let is = found_is xs n some.0 c.index_mut.result.now some.1 c.index_mut.ensures.value in
    let same : some.0 ≡ c.in-Some.found = let e = c.in-Some.is in cc in
    placed-set b cs xs (n - 1) (record { regions = c.add_region.new.regions })
    (placed-added b cs c.args.region c.in-Some.found.regions.items c.add_region.new.regions.items c.add_region.result c.add_region.ensures.all c.add_region.ensures.err p
    (numbered-all (ArePlaced b cs) xs n c.in-Some.found (some.1 ∙ ap Some same) h))
    h
