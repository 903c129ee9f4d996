use Rattle.std.proofs.Common.{Bor, sym, ap, subst, ◌∙◌, arith}
use Rattle.std.specs.Prelude.{option_map}
use Rattle.stretches.specs.Leaves.{entries}
use Rattle.stretches.specs.Spots.{index}
use Rattle.stretches.proofs.Leaves.Held.{held_within}
use Rattle.regions.specs.Seen.{region_seen}
use Rattle.regions.specs.declared.region.Region.{Region}
use Rattle.regions.proofs.Ordered.{formed_read, found_read, missed_read, none_holds, started_read, starts_rise, IsCountUpTo}
use Rattle.regions.proofs.search.region_holding.Goals as goal

-- the one that was found last

pub end-requires : goal.end-requires
end-requires c =
    let l = c.args.regions.now in
    let p = c.in-Some.spot in
    formed_read c.args.page_bytes c.args.address (entries l) (index l p) _ c.requires (held_within l p c.in-Some.ensures) c.at-region.ensures

pub returns-then-address-end-clause-found : goal.returns-then-address-end-clause-found
returns-then-address-end-clause-found c =
    let l = c.args.regions.now in
    let p = c.in-Some.spot in
    found_read c.args.page_bytes c.args.address (entries l) (index l p) _ c.requires (held_within l p c.in-Some.ensures) c.at-region.ensures
    c.if-region-address.true (omega (arith, c.end.ensures, c.if-address-end.true))

pub returns-then-address-end-clause-formed : goal.returns-then-address-end-clause-formed
returns-then-address-end-clause-formed c =
    let l = c.args.regions.now in
    let p = c.in-Some.spot in
    formed_read c.args.page_bytes c.args.address (entries l) (index l p) _ c.requires (held_within l p c.in-Some.ensures) c.at-region.ensures

-- the one that a search finds

pub spot_behind-behind-requires : goal.spot_behind-behind-requires
spot_behind-behind-requires c = starts_rise c.args.page_bytes 0 _ c.requires

pub returns-in_err-spot-clause-found : goal.returns-in_err-spot-clause-found
returns-in_err-spot-clause-found c =
    let rs = entries c.args.regions.now in
    ap (option_map (λ (r : Bor Region). region_seen r.now)) c.from_residual.ensures
    ∙ sym (none_holds c.args.page_bytes c.args.address rs (subst (IsCountUpTo c.args.address rs) c.in_err-spot.ensures c.spot_behind-behind.ensures.parted))

pub end-requires-2 : goal.end-requires-2
end-requires-2 c =
    let l = c.args.regions.now in
    let p = c.in_ok-spot.spot in
    formed_read c.args.page_bytes c.args.address (entries l) (index l p) _ c.requires (held_within l p c.in_ok-spot.ensures.0) c.at-region-2.ensures

pub returns-then-address-end-2-clause-found : goal.returns-then-address-end-2-clause-found
returns-then-address-end-2-clause-found c =
    let l = c.args.regions.now in
    let p = c.in_ok-spot.spot in
    let within = held_within l p c.in_ok-spot.ensures.0 in
    let started = started_read c.args.page_bytes c.args.address (entries l) (index l p) _ c.requires within c.at-region-2.ensures _ c.spot_behind-behind.ensures.parted c.in_ok-spot.ensures.1 in
    found_read c.args.page_bytes c.args.address (entries l) (index l p) _ c.requires within c.at-region-2.ensures started (omega (arith, c.end-2.ensures, c.if-address-end-2.true))

pub returns-then-address-end-2-clause-formed : goal.returns-then-address-end-2-clause-formed
returns-then-address-end-2-clause-formed c =
    let l = c.args.regions.now in
    let p = c.in_ok-spot.spot in
    formed_read c.args.page_bytes c.args.address (entries l) (index l p) _ c.requires (held_within l p c.in_ok-spot.ensures.0) c.at-region-2.ensures

pub returns-else-address-end-2-clause-found : goal.returns-else-address-end-2-clause-found
returns-else-address-end-2-clause-found c =
    let l = c.args.regions.now in
    let p = c.in_ok-spot.spot in
    sym (missed_read c.args.page_bytes c.args.address (entries l) (index l p) _ c.requires (held_within l p c.in_ok-spot.ensures.0) c.at-region-2.ensures
    _ c.spot_behind-behind.ensures.parted c.in_ok-spot.ensures.1 (omega (arith, c.end-2.ensures, c.if-address-end-2.false)))
