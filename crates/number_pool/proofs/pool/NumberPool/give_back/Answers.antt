use Rattle.std.proofs.Common.{◌≡◌, ◌-◌, true, false, List, ℕ, length, set, sym, ◌∙◌, subst, arith, length-set}
use Rattle.number_pool.specs.Numbers.{is_taken}
use Rattle.number_pool.specs.Layout.{IsSplit}
use Rattle.number_pool.proofs.Splits.{returned_one, seen_set, seen_taken, taken_before}
use Rattle.number_pool.proofs.pool.NumberPool.give_back.Goals as goal

-- the number stands among those that were taken before
was_taken : (c : goal.After-push_reserved) → is_taken c.self.inside.taken.items c.args.number ≡ true
was_taken c =
    let taken = c.self.inside.taken.items in
    sym (seen_taken taken (c.self.inside.bound - length taken) c.args.number) ∙ rw c.self.view_is c.requires

pub invariant_of-self : goal.invariant_of-self
invariant_of-self c =
    let old = c.self.invariant in
    let taken = c.self.inside.taken.items in
    let P : List ℕ → Type 0 = IsSplit (set taken c.args.number false) in
    record {
      split = subst P (sym c.push_reserved.ensures.items) (returned_one _ _ c.args.number old.split (was_taken c));
      within = let within = old.within in omega (arith, length-set taken c.args.number false);
      to_take = old.to_take;
      to_return = let room = old.to_return in omega arith;
      few = old.few;
    }

pub returns : goal.returns
returns c =
    let taken = c.self.inside.taken.items in
    rw (← c.self.view_is) (seen_set taken c.self.inside.bound c.args.number false (taken_before taken c.args.number (was_taken c)))
