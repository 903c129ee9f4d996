use Rattle.std.proofs.Common.{◌≡◌, sym, ap, ◌∙◌, arith}
use Rattle.std.specs.Prelude.{slice_get}
use Rattle.vm_model.proofs.Machines.Taking.{from_some}
use Rattle.regions.specs.AddressSpace.{view_of}
use Rattle.regions.specs.declared.region.RegionView.{RegionView}
use Rattle.contexts.specs.Counting.{one_for}
use Rattle.contexts.proofs.Counted.{times_left, times_next}
use Rattle.contexts.proofs.counts.forget_all.Goals as goal

pub take-requires : goal.take-requires
take-requires c =
    let rs = c.args.regions.now.regions in
    let v : RegionView = c.unwrap-view.result in
    let n = v.mapping.extent.cache.0 in
    let r = from_some view_of (slice_get rs c.loop-place.place) v (sym c.nth.ensures ∙ c.unwrap-view.ensures) in
    let cache : r.0.cache ≡ n = ap (λ (u : RegionView). u.mapping.extent.cache.0) r.2 in
    omega (arith, c.loop-place.invariant n, c.requires n, times_left rs c.loop-place.place r.0 r.1 n cache)

pub loop-place-preserved : goal.loop-place-preserved
loop-place-preserved c = λ n.
    let rs = c.args.regions.now.regions in
    let v : RegionView = c.unwrap-view.result in
    let r = from_some view_of (slice_get rs c.loop-place.place) v (sym c.nth.ensures ∙ c.unwrap-view.ensures) in
    omega (
      arith,
      c.loop-place.invariant n,
      c.take.ensures n,
      times_next rs c.loop-place.place r.0 r.1 n,
      ap (λ (u : RegionView). one_for u.mapping.extent.cache.0 n) r.2,
    )
