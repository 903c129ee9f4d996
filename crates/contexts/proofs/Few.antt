-- Living actors have no more regions than were made: each has a number of its own, of those that
-- were given.
use Rattle.std.proofs.Common.{◌≡◌, ◌==◌, ℕ, zero, suc, ◌+◌, ◌-◌, ◌≤◌, Bool, true, false, cond, List, [], ◌∷◌, length, Option, Some, None, refl, sym, ap, subst, ◌∙◌, arith, inl, inr}
use Rattle.std.specs.Prelude.{slice_get}
use Rattle.std.specs.List.{All}
use Rattle.std.proofs.lemmas.Bool.{cases_eq, eq-eqb}
use Rattle.std.proofs.lemmas.List.Elements.{All-head, All-tail}
use Rattle.std.proofs.lemmas.List.Sums.{sum_by-cons}
use Rattle.std.proofs.lemmas.Option.{slice_get_within}
use Rattle.vm_ids.specs.declared.numbers.ActorId.{ActorId}
use Rattle.vm_model.specs.Machine as model
use Rattle.regions.specs.AddressSpace.{AddressSpace}
use Rattle.contexts.specs.Actors.{region_count, regions_among, times_among, times_made}
use Rattle.contexts.specs.Layout.{IsKept, owner_of, regions_in}
use Rattle.contexts.proofs.Once.{is_numbered, kept_at, made_once, times-cons}
use Rattle.contexts.proofs.Owners.{IsFor}
use Rattle.contexts.proofs.Places.{Numbered}

abbrev one_if : Bool → ℕ
one_if c = cond c 1 0

-- the sum over the numbers from 1 to k
total : (ℕ → ℕ) → ℕ → ℕ
total f zero = 0
total f (suc k) = total f k + f (suc k)

total_few : (f : ℕ → ℕ) (k : ℕ) → ((n : ℕ) → f n ≤ 1) → total f k ≤ k
unfolding total
total_few f zero few = omega arith
total_few f (suc k) few = omega (arith, total_few f k few, few (suc k))

total_both : (f g h : ℕ → ℕ) (k : ℕ) → ((n : ℕ) → h n ≡ f n + g n) → total h k ≡ total f k + total g k
unfolding total
total_both f g h zero both = refl
total_both f g h (suc k) both = omega (arith, total_both f g h k both, both (suc k))

-- a number from 1 to k is met
total_met : (m k : ℕ) → 1 ≤ m → m ≤ k → 1 ≤ total (λ n. one_if (m == n)) k
unfolding total
total_met m zero some low = absurd (omega (arith, some, low))
total_met m (suc k) some low = elim (cases_eq m (suc k)) [
  | inl e ↦ omega (arith, ap one_if (eq-eqb m (suc k) e))
  | inr d ↦ omega (arith, total_met m k some (omega (arith, low, d)))
]

-- the number of a region that was made
pub in_range : (owners : List ActorId) (n : ℕ) (a : ActorId) → owner_of owners n ≡ Some a → (1 ≤ n) × (n ≤ length owners)
in_range owners n a e = go (n == 0) refl e
  where
    go : (c : Bool) → (n == 0) ≡ c → cond c None (slice_get owners (n - 1)) ≡ Some a → (1 ≤ n) × (n ≤ length owners)
    go true none e = absurd (cc e)
    go false other e =
        let some : 1 ≤ n = elim (cases_eq n 0) [ inl q ↦ absurd (let t : false ≡ true = sym other ∙ eq-eqb n 0 q in cc t) | inr d ↦ omega (arith, d) ] in
        (some, (let low = slice_get_within owners (n - 1) a e in omega (arith, low, some)))

among_few : (owners : List ActorId) (actor : ℕ) (rs : model.Actor) → All (IsFor owners actor) rs → length rs ≤ total (λ n. times_among n (Some rs)) (length owners)
among_few owners actor [] all = omega arith
among_few owners actor (r ∷ rs) all =
    let range = in_range owners r.number (record { 0 = actor }) (All-head (IsFor owners actor) r rs all) in
    let both = total_both (λ n. one_if (r.number == n)) (λ n. times_among n (Some rs)) (λ n. times_among n (Some (r ∷ rs))) (length owners) (λ n. times-cons (is_numbered n) r rs) in
    omega (arith, both, total_met r.number (length owners) range.0 range.1, among_few owners actor rs (All-tail (IsFor owners actor) r rs all))

-- one actor of those
one_few : (owners : List ActorId) (actor : ℕ) (o : Option model.Actor) → ((rs : model.Actor) → o ≡ Some rs → All (IsFor owners actor) rs) → regions_among o ≤ total (λ n. times_among n o) (length owners)
one_few owners actor None all = omega arith
one_few owners actor (Some rs) all = among_few owners actor rs (all rs refl)

all_few : (owners : List ActorId) (ys : List (Option model.Actor)) (first : ℕ) → ((j : ℕ) (rs : model.Actor) → slice_get ys j ≡ Some (Some rs) → All (IsFor owners (first + j)) rs) → region_count ys ≤ total (λ n. times_made n ys) (length owners)
all_few owners [] first all = omega arith
all_few owners (y ∷ ys) first all =
    let here : first + 0 ≡ first = omega arith in
    let both = total_both (λ n. times_among n y) (λ n. times_made n ys) (λ n. times_made n (y ∷ ys)) (length owners) (λ n. sum_by-cons (times_among n) y ys) in
    let one = one_few owners (first + 0) y (λ rs e. all 0 rs (ap (λ (o : Option model.Actor). Some o) e)) in
    let rest = all_few owners ys (first + 1) (λ j rs at. (let next : first + suc j ≡ first + 1 + j = omega arith in subst (λ (k : ℕ). All (IsFor owners k) rs) next (all (suc j) rs at))) in
    omega (arith, sum_by-cons regions_among y ys, both, one, rest)

-- living actors have no more regions than were made
pub regions_few : (page : ℕ) (owners : List ActorId) (xs : List (Option AddressSpace)) → Numbered (IsKept page owners) xs → region_count (regions_in xs) ≤ length owners
regions_few page owners xs kept =
    let most = total_few (λ n. times_made n (regions_in xs)) (length owners) (λ n. made_once page owners xs kept n) in
    let many = all_few owners (regions_in xs) 1 (λ j rs at. (let next : j + 1 ≡ 1 + j = omega arith in subst (λ (k : ℕ). All (IsFor owners k) rs) next (kept_at page owners xs kept 0 j rs at).0)) in
    omega (arith, most, many)
