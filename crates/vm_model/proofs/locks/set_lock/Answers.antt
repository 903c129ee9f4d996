use Rattle.std.proofs.Common.{◌∷◌, [], refl, sym}
use Rattle.std.proofs.lemmas.List.Elements.{All-cons, All-nil}
use Rattle.vm_model.specs.Regions.{with_lock}
use Rattle.vm_model.specs.Seen.{IsPlaced, machine_seen}
use Rattle.vm_model.specs.declared.tables.Region.{Region}
use Rattle.vm_model.proofs.Locating.{located_placed, nothing_changes, seen_replaced, sound_replaced}
use Rattle.vm_model.proofs.locks.set_lock.Goals as goal

pub returns-in-Some-clause-sound : goal.returns-in-Some-clause-sound
returns-in-Some-clause-sound c =
    let t = c.args.tables.now in
    let n = c.args.region.0 in
    let l = c.in-Some.located in
    let here = c.in-Some.ensures in
    let p = located_placed n t l here c.requires in
    let r : Region = record l.region { locked = c.args.locked } in
    let placed : IsPlaced t.page_bytes t.caches.items r = record { ends = p.ends; cache = p.cache; there = p.there; within = p.within } in
    sound_replaced n t l here c.requires (r ∷ []) c.replace.new.actors t.regions_made c.replace.ensures
    (All-cons (IsPlaced t.page_bytes t.caches.items) r [] placed (All-nil (IsPlaced t.page_bytes t.caches.items)))

pub returns-in-Some-clause-machine : goal.returns-in-Some-clause-machine
returns-in-Some-clause-machine c =
    let t = c.args.tables.now in
    let l = c.in-Some.located in
    let r : Region = record l.region { locked = c.args.locked } in
    seen_replaced c.args.region.0 t l c.in-Some.ensures c.requires (r ∷ []) c.replace.new.actors t.regions_made c.replace.ensures (with_lock c.args.locked) refl

pub returns-in_default-clause-machine : goal.returns-in_default-clause-machine
returns-in_default-clause-machine c = sym (nothing_changes c.args.region.0 (machine_seen c.args.tables.now) (with_lock c.args.locked) c.in_default.ensures)
