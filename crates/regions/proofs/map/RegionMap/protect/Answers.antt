use Rattle.std.proofs.Common.{◌≡◌, List, map, set, length-set, sym, ap, subst}
use Rattle.std.specs.Prelude.{IsSome}
use Rattle.stretches.specs.Leaves.{entries}
use Rattle.stretches.specs.Spots.{index}
use Rattle.vm_model.specs.Regions.{region_among, replace_region, with_prot}
use Rattle.regions.specs.AddressSpace.{AddressSpace, AreInOrder, StartsAt}
use Rattle.regions.specs.Seen.{region_seen}
use Rattle.regions.specs.declared.region.Region.{Region}
use Rattle.regions.proofs.Changed.{as_many, changed, space}
use Rattle.regions.proofs.Ordered.{prot_keeps}
use Rattle.regions.proofs.map.RegionMap.protect.Goals as goal

pub known_spot-spot-requires-clause-start : goal.known_spot-spot-requires-clause-start
known_spot-spot-requires-clause-start c = subst (λ (s : AddressSpace). StartsAt c.args.id.0 c.args.start s.regions) (sym c.self.view_is) c.requires.start

pub known_spot-spot-requires-clause-there : goal.known_spot-spot-requires-clause-there
known_spot-spot-requires-clause-there c = subst (λ (s : AddressSpace). IsSome (region_among c.args.id.0 s.regions)) (sym c.self.view_is) c.requires.there

pub invariant_of-self : goal.invariant_of-self
invariant_of-self c =
    let old = c.get-region.result in
    let l = c.self.inside.regions in
    let k = index l c.known_spot-spot.result in
    let by = with_prot c.args.prot in
    let became = ap (λ (r : Region). by (region_seen r)) (sym c.get-region.ensures) in
    let made = changed c.args.id.0 c.self.inside.page_bytes by (entries l) k old (record old { prot = c.args.prot }) c.known_spot-spot.ensures.place became (prot_keeps c.self.inside.page_bytes c.args.prot) c.self.invariant.order in
    record {
      some = c.self.invariant.some;
      most = c.self.invariant.most;
      order = subst (λ (ys : List Region). AreInOrder c.self.inside.page_bytes 0 (map region_seen ys)) (sym c.set.ensures.entries) made.order;
    }

pub returns : goal.returns
returns c =
    let b = c.self.inside.page_bytes in
    let old = c.get-region.result in
    let l = c.self.inside.regions in
    let k = index l c.known_spot-spot.result in
    let by = with_prot c.args.prot in
    let became = ap (λ (r : Region). by (region_seen r)) (sym c.get-region.ensures) in
    let x : Region = record old { prot = c.args.prot } in
    let made = changed c.args.id.0 b by (entries l) k old x c.known_spot-spot.ensures.place became (prot_keeps b c.args.prot) c.self.invariant.order in
    subst (λ (s : AddressSpace). space b c.set.new.self ≡ record s { regions = replace_region c.args.id.0 by s.regions }) c.self.view_is
    (as_many b l c.set.new.self (set (entries l) k x) _ c.set.ensures.places c.set.ensures.entries (length-set (entries l) k x) made.there)
