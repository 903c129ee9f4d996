use Rattle.std.proofs.Common.{◌≡◌, ◌-◌, ◌+◌, ◌*◌, ◌<◌, ◌≤◌, ℕ, List, length, length-set, get_or, map, set, Option, sym, ap, ◌∙◌, subst, arith, refl}
use Rattle.std.specs.Prelude.{insert, IsSome, IsSomeAnd}
use Rattle.std.proofs.lemmas.List.Edits.{length-insert}
use Rattle.stretches.specs.Leaves.{entries}
use Rattle.stretches.specs.Spots.{index}
use Rattle.vm_model.specs.Machine as model
use Rattle.vm_model.specs.Regions.{region_among, replace_region, split_at}
use Rattle.regions.specs.AddressSpace.{AddressSpace, AreInOrder, IsWellFormed, StartsAt}
use Rattle.regions.specs.Seen.{region_seen}
use Rattle.regions.specs.declared.region.Region.{Region}
use Rattle.regions.proofs.Changed.{cut, is_there, one_more, put_both, so_of_found, space}
use Rattle.regions.proofs.Found.{among_found}
use Rattle.regions.proofs.Ordered.{formed_at}
use Rattle.regions.proofs.map.RegionMap.split.Goals as goal

pub known_spot-spot-requires-clause-start : goal.known_spot-spot-requires-clause-start
known_spot-spot-requires-clause-start c = subst (λ (s : AddressSpace). StartsAt c.args.id.0 c.args.start s.regions) (sym c.self.view_is) c.requires.start

pub known_spot-spot-requires-clause-there : goal.known_spot-spot-requires-clause-there
known_spot-spot-requires-clause-there c =
    let n = c.args.id.0 in
    let there = is_there (region_among n c.args.self.now.regions) (λ r. c.args.pages < r.pages) c.requires.fewer in
    subst (λ (s : AddressSpace). IsSome (region_among n s.regions)) (sym c.self.view_is) there

pub back-back-requires-clause-formed : goal.back-back-requires-clause-formed
back-back-requires-clause-formed c =
    let b = c.self.inside.page_bytes in
    let l = c.self.inside.regions in
    subst (λ (r : Region). IsWellFormed b (region_seen r)) (sym c.get-region.ensures)
    (formed_at b 0 (entries l) (index l c.known_spot-spot.result) c.get-region.result c.self.invariant.order c.known_spot-spot.ensures.place.within)

pub back-back-requires-clause-fewer : goal.back-back-requires-clause-fewer
back-back-requires-clause-fewer c =
    let n = c.args.id.0 in
    let l = c.self.inside.regions in
    let P : model.Region → Type 0 = λ r. c.args.pages < r.pages in
    let fewer = subst (λ (s : AddressSpace). IsSomeAnd (region_among n s.regions) P) (sym c.self.view_is) c.requires.fewer in
    subst (λ (r : Region). P (region_seen r)) (sym c.get-region.ensures)
    (so_of_found n (entries l) (index l c.known_spot-spot.result) c.get-region.result P c.known_spot-spot.ensures.place fewer)

pub insert_behind-requires-clause-room : goal.insert_behind-requires-clause-room
insert_behind-requires-clause-room c =
    let l = c.self.inside.regions in
    let spare : 1 ≤ l.places - length (entries l) = subst (λ (s : AddressSpace). 1 ≤ s.spare) (sym c.self.view_is) c.requires.spare in
    omega (arith, spare, c.set.ensures.places, ap length c.set.ensures.entries, length-set (entries l) (index l c.known_spot-spot.result) (record c.get-region.result { pages = c.args.pages }))

pub insert_behind-requires-clause-held : goal.insert_behind-requires-clause-held
insert_behind-requires-clause-held c = c.set.ensures.spots.held c.known_spot-spot.result c.known_spot-spot.ensures.held

pub invariant_of-self : goal.invariant_of-self
invariant_of-self c =
    let n = c.args.id.0 in
    let b = c.self.inside.page_bytes in
    let l = c.self.inside.regions in
    let m = c.insert_behind.new.self in
    let spot = c.known_spot-spot.result in
    let k = index l spot in
    let old = c.get-region.result in
    let x : Region = record old { pages = c.args.pages } in
    let y = c.back-back.result in
    let place = c.known_spot-spot.ensures.place in
    let fewer = subst (λ (s : AddressSpace). IsSomeAnd (region_among n s.regions) (λ r. c.args.pages < r.pages)) (sym c.self.view_is) c.requires.fewer in
    let made = cut n b c.args.pages c.args.fresh.0 (entries l) k old x y place c.requires.some fewer c.get-region.ensures refl c.back-back.ensures c.self.invariant.order in
    let is = put_both l c.set.new.self m spot x y c.set.ensures.entries c.set.ensures.spots c.insert_behind.ensures.entries in
    record {
      some = c.self.invariant.some;
      most = c.self.invariant.most;
      order = subst (λ (ys : List Region). AreInOrder b 0 (map region_seen ys)) (sym is) made.order;
    }

pub returns-clause-cut : goal.returns-clause-cut
returns-clause-cut c =
    let n = c.args.id.0 in
    let b = c.self.inside.page_bytes in
    let l = c.self.inside.regions in
    let m = c.insert_behind.new.self in
    let spot = c.known_spot-spot.result in
    let k = index l spot in
    let old = c.get-region.result in
    let x : Region = record old { pages = c.args.pages } in
    let y = c.back-back.result in
    let place = c.known_spot-spot.ensures.place in
    let fewer = subst (λ (s : AddressSpace). IsSomeAnd (region_among n s.regions) (λ r. c.args.pages < r.pages)) (sym c.self.view_is) c.requires.fewer in
    let made = cut n b c.args.pages c.args.fresh.0 (entries l) k old x y place c.requires.some fewer c.get-region.ensures refl c.back-back.ensures c.self.invariant.order in
    let is = put_both l c.set.new.self m spot x y c.set.ensures.entries c.set.ensures.spots c.insert_behind.ensures.entries in
    let longer = length-insert (set (entries l) k x) (k + 1) y (omega (arith, place.within, length-set (entries l) k x)) in
    subst (λ (s : AddressSpace). space b m ≡ record s { spare = s.spare - 1; regions = replace_region n (split_at s.page_bytes c.args.pages c.args.fresh.0) s.regions }) c.self.view_is
    (one_more b l m (insert (set (entries l) k x) (k + 1) y) _ (c.insert_behind.ensures.places ∙ c.set.ensures.places) is (longer ∙ ap (λ (j : ℕ). j + 1) (length-set (entries l) k x)) made.there)

pub returns-clause-address : goal.returns-clause-address
returns-clause-address c =
    let n = c.args.id.0 in
    let b = c.self.inside.page_bytes in
    let l = c.self.inside.regions in
    let k = index l c.known_spot-spot.result in
    let read = c.get-region.result in
    let address = c.start.result in
    let start : address ≡ (region_seen read).start + b * c.args.pages = c.start.ensures ∙ ap (λ (x : model.Region). x.start) c.back-back.ensures in
    let here : address ≡ (region_seen (get_or (entries l) k read)).start + b * c.args.pages = subst (λ (r : Region). address ≡ (region_seen r).start + b * c.args.pages) c.get-region.ensures start in
    subst (λ (s : AddressSpace). IsSomeAnd (region_among n s.regions) (λ r. address ≡ r.start + s.page_bytes * c.args.pages)) c.self.view_is
    (subst (λ (o : Option model.Region). IsSomeAnd o (λ r. address ≡ r.start + b * c.args.pages)) (sym (among_found n (entries l) k read c.known_spot-spot.ensures.place)) here)
