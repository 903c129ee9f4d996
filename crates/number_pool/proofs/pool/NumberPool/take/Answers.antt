use Rattle.std.proofs.Common.{◌≡◌, ◌++◌, ◌-◌, ◌<◌, ◌≤◌, Bool, true, false, List, [], ◌∷◌, ℕ, length, replicate, set, sym, ap, ◌∙◌, subst, arith, length-set}
use Rattle.std.proofs.lemmas.List.{get_or_past, length_push, nil_from_length}
use Rattle.number_pool.specs.Numbers.{taken_count}
use Rattle.number_pool.specs.Layout.{IsReturned, IsSplit}
use Rattle.number_pool.proofs.Splits.{each_taken, first_taken, last_returned, seen_count, seen_fresh, seen_long, seen_set, seen_taken, taken_again}
use Rattle.number_pool.proofs.pool.NumberPool.take.Goals as goal

pub invariant_of-self : goal.invariant_of-self
invariant_of-self c =
    let old = c.self.invariant in
    let taken = c.self.inside.taken.items in
    record {
      split = taken_again taken c.pop.new.self.items c.in-Some.number (subst (IsSplit taken) c.in-Some.ensures.items old.split);
      within = let within = old.within in omega (arith, length-set taken c.in-Some.number true);
      to_take = old.to_take;
      to_return = let room = old.to_return in omega arith;
      few = old.few;
    }

pub returns-in-Some : goal.returns-in-Some
returns-in-Some c =
    let taken = c.self.inside.taken.items in
    let bound = c.self.inside.bound in
    let number = c.in-Some.number in
    let last : IsReturned taken number =
    last_returned taken c.pop.new.self.items number (subst (IsSplit taken) c.in-Some.ensures.items c.self.invariant.split) in
    let before = last.before in
    let within = c.self.invariant.within in
    rw (← c.self.view_is)
    (omega (arith, seen_long taken bound within), seen_taken taken (bound - length taken) number ∙ last.free, seen_set taken bound number true before)

pub returns-then-number-self : goal.returns-then-number-self
returns-then-number-self c =
    let old = c.self.invariant in
    let taken = c.self.inside.taken.items in
    let bound = c.self.inside.bound in
    let none : c.self.inside.returned.items ≡ [] =
    nil_from_length c.self.inside.returned.items (omega (arith, c.in_default.ensures.cases, c.self.inside.returned.ok.0)) in
    let seen : List Bool = taken ++ replicate (bound - length taken) false in
    let all : length seen ≤ taken_count seen =
    let counted = old.split.counted in
    omega (arith, ap length none, seen_count taken (bound - length taken), seen_long taken bound old.within, c.if-number-self.true, c.len-number.ensures, c.self.inside.taken.ok.0) in
    (c.self.view_is, rw (← c.self.view_is) (each_taken seen all))

-- one number at least was never taken
below : (c : goal.After-push_reserved) → length c.self.inside.taken.items < c.self.inside.bound
below c = let within = c.self.invariant.within in omega (arith, c.if-number-self.false, c.len-number.ensures, c.self.inside.taken.ok.0)

pub invariant_of-self-2 : goal.invariant_of-self-2
invariant_of-self-2 c =
    let old = c.self.invariant in
    let taken = c.self.inside.taken.items in
    let none : c.self.inside.returned.items ≡ [] =
    nil_from_length c.self.inside.returned.items (omega (arith, c.in_default.ensures.cases, c.self.inside.returned.ok.0)) in
    let none_now : c.pop.new.self.items ≡ [] =
    nil_from_length c.pop.new.self.items (omega (arith, c.in_default.ensures.cases, c.pop.new.self.ok.0)) in
    let less = below c in
    let split : IsSplit (taken ++ true ∷ []) [] = first_taken taken (subst (IsSplit taken) none old.split) in
    record {
      split = rw (c.push_reserved.ensures.items, none_now) split;
      within = omega (arith, less, ap length c.push_reserved.ensures.items, length_push taken true);
      to_take = let room = old.to_take in omega arith;
      to_return = let room = old.to_return in omega arith;
      few = old.few;
    }

pub returns : goal.returns
returns c =
    let taken = c.self.inside.taken.items in
    let bound = c.self.inside.bound in
    let number : c.len-number.result ≡ length taken = omega (arith, c.len-number.ensures, c.self.inside.taken.ok.0) in
    let less = below c in
    rw (← c.self.view_is) (
      omega (arith, number, less, seen_long taken bound c.self.invariant.within),
      seen_taken taken (bound - length taken) c.len-number.result ∙ get_or_past taken c.len-number.result false (omega (arith, number)),
      ap (λ (now : List Bool). now ++ replicate (bound - length now) false) c.push_reserved.ensures.items
          ∙ seen_fresh taken bound less
          ∙ ap (λ (k : ℕ). set (taken ++ replicate (bound - length taken) false) k true) (sym number),
    )
