use Rattle.std.proofs.Common.{◌≡◌, ◌+◌, Some, arith, refl, sym, ◌∙◌}
use Rattle.std.specs.Prelude.{slice_get}
use Rattle.vm_model.specs.Machine.{Region, locks}
use Rattle.vm_model.proofs.Machines.Taking.{from_some}
use Rattle.regions.specs.AddressSpace.{view_of}
use Rattle.flat_mm.proofs.Locked.{any_here, any_next, found_nth}
use Rattle.flat_mm.proofs.locks.any_locks.Goals.{In-Some}
use Rattle.flat_mm.proofs.locks.any_locks.Goals as goal

-- the region at this place
region : (c : In-Some) → (r : Region) × (slice_get c.args.regions.now.regions c.loop-place.place ≡ Some r) × (view_of r ≡ c.in-Some.view)
region c = from_some view_of (slice_get c.args.regions.now.regions c.loop-place.place) c.in-Some.view (sym c.in-Some.ensures)

pub returns-then-locks : goal.returns-then-locks
returns-then-locks c =
    let r = region (goal.at.returns-then-locks c).In-Some in
    sym (any_here (locks c.args.cache.0 c.args.page) c.args.regions.now.regions c.loop-place.place r.0 r.1 (sym (c.if-locks.ensures r.0 r.2))) ∙ c.loop-place.invariant

pub unreachable-requires : goal.unreachable-requires
unreachable-requires c = found_nth view_of c.args.regions.now.regions c.loop-place.place (omega (arith, c.loop-place-test.true, c.count-place-end.ensures)) (sym c.in-None.ensures)

pub loop-place-preserved : goal.loop-place-preserved
loop-place-preserved c =
    let r = region (goal.at.loop-place-preserved c).In-Some in
    any_next (locks c.args.cache.0 c.args.page) c.args.regions.now.regions c.loop-place.place (c.loop-place.place + 1) r.0 refl r.1 (sym (c.if-locks.ensures r.0 r.2)) ∙ c.loop-place.invariant
