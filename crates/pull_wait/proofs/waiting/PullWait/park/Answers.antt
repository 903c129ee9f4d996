use Rattle.std.proofs.Common.{◌≡◌, List, None, ap, arith, length, subst, sym}
use Rattle.std.proofs.lemmas.List.{length_push}
use Rattle.vm_ids.specs.declared.access.Parked.{Parked}
use Rattle.pull_wait.specs.Waiting.{IsOneOfEach, place_of}
use Rattle.pull_wait.proofs.Parking.{apart_push}
use Rattle.pull_wait.proofs.waiting.PullWait.park.Goals as goal

pub invariant_of-self : goal.invariant_of-self
invariant_of-self c =
    let old = c.self.inside.parked.items in
    let items = c.push_parked.ensures.items in
    let none : place_of old c.args.parked.actor.0 ≡ None = subst (λ (xs : List Parked). place_of xs c.args.parked.actor.0 ≡ None) (sym c.self.view_is) c.requires.apart in
    record {
      apart = subst IsOneOfEach (sym items) (apart_push old c.args.parked c.self.invariant.apart none);
      few = omega (arith, ap length items, length_push old c.args.parked, ap length c.self.view_is, c.requires.few);
      room = omega (arith, c.push_parked.ensures.capacity, c.self.invariant.room);
    }
