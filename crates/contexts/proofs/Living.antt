-- How many actors live, after one came or went or its regions changed.
use Rattle.std.proofs.Common.{◌≡◌, ℕ, ◌+◌, ◌-◌, ◌<◌, Bool, true, false, cond, List, [], ◌∷◌, ◌++◌, length, set, Option, Some, None, refl, sym, ap, ◌∙◌, arith}
use Rattle.std.specs.Prelude.{◌||◌, IsSome, count_by, is_some, nat_le, option_map}
use Rattle.std.proofs.lemmas.Bool.Decides.{nat_tests}
use Rattle.std.proofs.lemmas.List.{length-map}
use Rattle.std.proofs.lemmas.List.Sums.{sum_by-cons, sum_by_push}
use Rattle.vm_model.specs.Machine as model
use Rattle.vm_model.specs.Machine.{numbered}
use Rattle.vm_model.proofs.Parts.Lists.{at_number, is_there}
use Rattle.vm_model.specs.declared.limits.TheConstants.{LIVING_ACTORS, MOST_MADE}
use Rattle.regions.specs.AddressSpace.{AddressSpace}
use Rattle.contexts.specs.Actors.{is_full}
use Rattle.contexts.specs.Layout.{regions_in}
use Rattle.vm_model.proofs.Parts.Lists.{sum_by_same, sum_by_swap}

abbrev pub regions_of : AddressSpace → model.Actor
regions_of s = s.regions

pub gone : (xs : List (Option AddressSpace)) (n : ℕ) → IsSome (numbered xs n) → count_by is_some (set xs (n - 1) None) + 1 ≡ count_by is_some xs
gone xs n there =
    let found = is_there (numbered xs n) there in
    omega (arith, sum_by_swap (λ (o : Option AddressSpace). cond (is_some o) 1 0) xs (n - 1) (Some found.0) None (at_number xs n found.0 found.1))

pub stays : (xs : List (Option AddressSpace)) (n : ℕ) (w : AddressSpace) → IsSome (numbered xs n) → count_by is_some (set xs (n - 1) (Some w)) ≡ count_by is_some xs
stays xs n w there =
    let found = is_there (numbered xs n) there in
    sum_by_same (λ (o : Option AddressSpace). cond (is_some o) 1 0) xs (n - 1) (Some found.0) (Some w) (at_number xs n found.0 found.1) refl

abbrev lives : Option model.Actor → ℕ
lives o = cond (is_some o) 1 0

abbrev lives_in : Option AddressSpace → ℕ
lives_in o = cond (is_some o) 1 0

-- as many are seen to live
pub seen_living : (xs : List (Option AddressSpace)) → count_by is_some (regions_in xs) ≡ count_by is_some xs
seen_living [] = refl
seen_living (None ∷ xs) = omega (arith, sum_by-cons lives (option_map regions_of None) (regions_in xs), sum_by-cons lives_in None xs, seen_living xs)
seen_living (Some s ∷ xs) = omega (arith, sum_by-cons lives (option_map regions_of (Some s)) (regions_in xs), sum_by-cons lives_in (Some s) xs, seen_living xs)

-- no more can be made, by what the fields count
pub full_by : (page living : ℕ) (xs : List (Option AddressSpace)) (made : ℕ) → living ≡ count_by is_some xs
    → is_full (record { page_bytes = page; actors = regions_in xs; regions_made = made }) ≡ (nat_le LIVING_ACTORS living || nat_le MOST_MADE (length xs))
full_by page living xs made counted =
    ap (λ (n : ℕ). nat_le LIVING_ACTORS n || nat_le MOST_MADE (length (regions_in xs))) (seen_living xs ∙ sym counted)
    ∙ ap (λ (n : ℕ). nat_le LIVING_ACTORS living || nat_le MOST_MADE n) (length-map xs (option_map regions_of))

-- where more can be made, few live
pub few_living : (page living : ℕ) (xs : List (Option AddressSpace)) (made : ℕ) → living ≡ count_by is_some xs
    → is_full (record { page_bytes = page; actors = regions_in xs; regions_made = made }) ≡ false → living < LIVING_ACTORS
few_living page living xs made counted free = go (nat_le LIVING_ACTORS living) refl (sym (full_by page living xs made counted) ∙ free)
  where
    go : (c : Bool) → nat_le LIVING_ACTORS living ≡ c → (c || nat_le MOST_MADE (length xs)) ≡ false → living < LIVING_ACTORS
    go true e f = absurd (cc f)
    go false e f = grind (arith, nat_tests)

pub more_living : (xs : List (Option AddressSpace)) (s : AddressSpace) → count_by is_some (xs ++ Some s ∷ []) ≡ count_by is_some xs + 1
more_living xs s = sum_by_push lives_in xs (Some s)
