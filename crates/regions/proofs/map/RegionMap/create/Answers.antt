use Rattle.std.proofs.Common.{◌≡◌, ◌-◌, ◌≤◌, List, length, map, false, sym, subst, arith}
use Rattle.std.specs.Prelude.{insert}
use Rattle.std.specs.List.{list_any}
use Rattle.std.proofs.lemmas.List.Edits.{length-insert}
use Rattle.stretches.specs.Leaves.{entries}
use Rattle.stretches.specs.Spots.{index}
use Rattle.vm_model.specs.Answering.{insert_region, overlaps, region_of}
use Rattle.regions.specs.AddressSpace.{AddressSpace, AreInOrder, IsWellFormed}
use Rattle.regions.specs.Seen.{region_seen}
use Rattle.regions.specs.declared.region.Region.{Region}
use Rattle.regions.proofs.Ordered.{created, put_there, starts_rise}
use Rattle.regions.proofs.Changed.{one_more, space}
use Rattle.regions.proofs.map.RegionMap.create.Goals as goal

pub spot_behind-spot-requires : goal.spot_behind-spot-requires
spot_behind-spot-requires c = starts_rise c.self.inside.page_bytes 0 _ c.self.invariant.order

pub insert-requires-clause-room : goal.insert-requires-clause-room
insert-requires-clause-room c =
    let l = c.self.inside.regions in
    let spare : 1 ≤ l.places - length (entries l) = subst (λ (s : AddressSpace). 1 ≤ s.spare) (sym c.self.view_is) c.requires.spare in
    omega (arith, spare)

pub invariant_of-self : goal.invariant_of-self
invariant_of-self c =
    let x = region_of c.args.id.0 c.args.mapping in
    let b = c.self.inside.page_bytes in
    let l = c.self.inside.regions in
    let fits = subst (λ (s : AddressSpace). list_any (overlaps s.page_bytes x.start x.pages) s.regions ≡ false) (sym c.self.view_is) c.requires.fits in
    let formed = subst (λ (s : AddressSpace). IsWellFormed s.page_bytes x) (sym c.self.view_is) c.requires.formed in
    let made = created b c.new.result x (entries l) (index l c.spot_behind-spot.result) c.self.invariant.some c.new.ensures c.spot_behind-spot.ensures.parted formed fits c.self.invariant.order in
    record {
      some = c.self.invariant.some;
      most = c.self.invariant.most;
      order = subst (λ (ys : List Region). AreInOrder b 0 (map region_seen ys)) (sym c.insert.ensures.entries) made;
    }

pub returns : goal.returns
returns c =
    let x = region_of c.args.id.0 c.args.mapping in
    let b = c.self.inside.page_bytes in
    let l = c.self.inside.regions in
    let m = c.insert.new.self in
    let k = index l c.spot_behind-spot.result in
    let count = c.spot_behind-spot.ensures.parted in
    subst (λ (s : AddressSpace). space b m ≡ record s { spare = s.spare - 1; regions = insert_region x s.regions }) c.self.view_is
    (one_more b l m (insert (entries l) k c.new.result) _ c.insert.ensures.places c.insert.ensures.entries (length-insert (entries l) k c.new.result count.within)
    (put_there c.new.result x (entries l) k c.new.ensures count))
