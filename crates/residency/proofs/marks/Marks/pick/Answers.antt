use Rattle.std.proofs.Common.{◌≡◌, ℕ, Bool, true, List, length, ap, subst, arith}
use Rattle.std.specs.Prelude.{Some, slice_get}
use Rattle.frame_pool.proofs.Evictable.{length-evictable_frames}
use Rattle.residency.proofs.Moves.Picked.{contains_evictable, picked_may, picked_within}
use Rattle.residency.proofs.marks.Marks.pick.Goals as goal

pub pick-frame-requires-clause-lengths : goal.pick-frame-requires-clause-lengths
pick-frame-requires-clause-lengths g c =
    let long : List Bool → ℕ = λ xs. length xs in
    omega (arith, ap long c.deref_mut.ensures.value, ap long c.self.view_is, ap long c.evictable.ensures, length-evictable_frames c.args.frames.now, c.requires.length)

pub pick-frame-requires-clause-some : goal.pick-frame-requires-clause-some
pick-frame-requires-clause-some g c = rw c.evictable.ensures (contains_evictable c.args.frames.now c.requires.some)

pub overflow_cast-result : goal.overflow_cast-result
overflow_cast-result g c =
    let P : List Bool → Type 0 = λ xs. slice_get xs c.pick-frame.result ≡ Some true in
    omega (arith, picked_within c.args.frames.now c.pick-frame.result (subst P c.evictable.ensures c.pick-frame.ensures.may), c.requires.few)

pub returns-clause-may : goal.returns-clause-may
returns-clause-may g c =
    let P : List Bool → Type 0 = λ xs. slice_get xs c.pick-frame.result ≡ Some true in
    picked_may c.args.frames.now c.pick-frame.result (subst P c.evictable.ensures c.pick-frame.ensures.may)
