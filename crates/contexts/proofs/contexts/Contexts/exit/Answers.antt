use Rattle.std.proofs.Common.{◌≡◌, ℕ, ◌-◌, List, Option, None, Some, length, set, sym, ap, subst, arith}
use Rattle.std.specs.Prelude.{IsSome, is_some, option_map}
use Rattle.std.specs.List.{All}
use Rattle.std.proofs.lemmas.List.{map-set}
use Rattle.vm_model.specs.Machine.{Actor, numbered}
use Rattle.vm_model.proofs.Parts.Lists.{is_there, numbered_place}
use Rattle.regions.specs.AddressSpace.{AddressSpace}
use Rattle.contexts.specs.Actors.{Actors}
use Rattle.contexts.specs.Counting.{times_mapped}
use Rattle.contexts.specs.Layout.{IsKept, StartsAs, actors_seen, regions_in}
use Rattle.contexts.specs.declared.contexts.Contexts.TheInside.{Inside}
use Rattle.contexts.proofs.Living.{gone}
use Rattle.contexts.proofs.Counted.{times_after, times_among_all}
use Rattle.contexts.proofs.Kept.{alive_in}
use Rattle.contexts.proofs.Places.{numbered_replaced}
use Rattle.contexts.proofs.contexts.Contexts.exit.Goals as goal

-- the actor has a space
alive : (i : Inside) (a : Actors) → actors_seen i ≡ a → (n : ℕ) → IsSome (numbered a.actors n) → (s : AddressSpace) × (numbered i.actors.items n ≡ Some s)
alive i a is n h = is_there (numbered i.actors.items n) (alive_in i.actors.items n (subst (λ (t : Actors). IsSome (numbered t.actors n)) (sym is) h))

pub forget_regions-requires-clause-alive : goal.forget_regions-requires-clause-alive
forget_regions-requires-clause-alive c =
    let here = alive c.self.inside c.args.self.now c.self.view_is c.args.actor.0 c.requires in
    subst (λ (xs : List (Option AddressSpace)). IsSome (numbered xs c.args.actor.0)) (sym c.deref.ensures.value) (ap is_some here.1)

pub forget_regions-requires-clause-counted : goal.forget_regions-requires-clause-counted
forget_regions-requires-clause-counted c = λ n s at.
    let i = c.self.inside in
    let here = subst (λ (xs : List (Option AddressSpace)). numbered xs c.args.actor.0 ≡ Some s) c.deref.ensures.value at in
    omega (arith, c.self.invariant.mapped n, times_among_all i.actors.items c.args.actor.0 s here n)

pub overflow_sub-self : goal.overflow_sub-self
overflow_sub-self c =
    let here = alive c.self.inside c.args.self.now c.self.view_is c.args.actor.0 c.requires in
    let counted = c.self.invariant.living in
    omega (arith, gone c.self.inside.actors.items c.args.actor.0 (ap is_some here.1), counted)

pub invariant_of-self : goal.invariant_of-self
invariant_of-self c =
    let n = c.args.actor.0 in
    let i = c.self.inside in
    let xs = i.actors.items in
    let counted = c.self.invariant.living in
    let here = alive i c.args.self.now c.self.view_is n c.requires in
    let place = numbered_place xs n here.0 here.1 in
    record {
      some = c.self.invariant.some;
      most = c.self.invariant.most;
      living = omega (arith, gone xs n (ap is_some here.1), counted);
      few = c.self.invariant.few;
      mapped = λ m.
          omega (
            arith,
            c.self.invariant.mapped m,
            c.forget_regions.ensures m here.0 (subst (λ (ys : List (Option AddressSpace)). numbered ys n ≡ Some here.0) (sym c.deref.ensures.value) here.1),
            times_after xs n here.0 here.1 m None,
            ap (times_mapped m) (map-set (option_map (λ (s : AddressSpace). s.regions)) xs (n - 1) None),
          );
      kept = numbered_replaced (IsKept i.page i.owners.items) xs n None place.0
          (λ s e. absurd (cc e)) c.self.invariant.kept;
      starts = c.self.invariant.starts;
      started = numbered_replaced (λ _ s. All (StartsAs i.starts.items) s.regions) xs n None place.0 (λ s e. absurd (cc e)) c.self.invariant.started;
    }

pub returns : goal.returns
returns c =
    let n = c.args.actor.0 in
    let seen = map-set (option_map (λ (s : AddressSpace). s.regions)) c.self.inside.actors.items (n - 1) None in
    subst (λ (a : Actors). (record { page_bytes = c.self.inside.page; actors = regions_in (set c.self.inside.actors.items (n - 1) None); regions_made = length c.self.inside.owners.items }) ≡ record a { actors = set a.actors (n - 1) None }) c.self.view_is
    (ap (λ (xs : List (Option Actor)). record { page_bytes = c.self.inside.page; actors = xs; regions_made = length c.self.inside.owners.items }) seen)
