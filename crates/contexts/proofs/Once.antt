-- Each number stands at most once among the regions of an actor, and so among those of all.
use Rattle.std.proofs.Common.{◌≡◌, ◌==◌, ℕ, zero, suc, ◌+◌, ◌-◌, ◌≤◌, Bool, true, false, cond, not, List, [], ◌∷◌, ◌++◌, length, Option, Some, None, refl, sym, ap, subst, ◌∙◌, arith}
use Rattle.std.specs.Prelude.{count_by, nat_lt, option_map, slice_get, sum_by}
use Rattle.std.specs.List.{All}
use Rattle.std.proofs.lemmas.Bool.Decides.{nat_tests}
use Rattle.std.proofs.lemmas.List.Elements.{All-head, All-tail}
use Rattle.std.proofs.lemmas.List.Filters.{sum_by-filter_both}
use Rattle.std.proofs.lemmas.List.Sums.{sum_by-append, sum_by-cons}
use Rattle.vm_ids.specs.declared.numbers.ActorId.{ActorId}
use Rattle.vm_model.specs.Answering.{insert_region, without_region}
use Rattle.vm_model.specs.Regions.{back_of, region_among, replace_region, split_at}
use Rattle.vm_model.specs.Machine as model
use Rattle.vm_model.specs.Machine.{numbered}
use Rattle.vm_model.proofs.Parts.Lists.{numbered-map}
use Rattle.regions.specs.AddressSpace.{AddressSpace}
use Rattle.contexts.specs.Actors.{times_among, times_made}
use Rattle.contexts.specs.Layout.{IsKept, owner_of, regions_in}
use Rattle.contexts.proofs.Living.{regions_of}
use Rattle.contexts.proofs.Owners.{IsFor}
use Rattle.contexts.proofs.Places.{Numbered, number_at}

abbrev pub AreOnce : model.Actor → Type 0
AreOnce rs = (region : ℕ) → times_among region (Some rs) ≤ 1

abbrev one_if : Bool → ℕ
one_if c = cond c 1 0

-- this is its number
abbrev pub is_numbered : ℕ → model.Region → Bool
is_numbered n r = r.number == n

-- How many regions pass a test, after some changed

module _ (p : model.Region → Bool) where
  abbrev passes : model.Region → ℕ
  passes r = one_if (p r)

  abbrev times : model.Actor → ℕ
  times rs = count_by p rs

  pub times-cons : (r : model.Region) (rs : model.Actor) → times (r ∷ rs) ≡ passes r + times rs
  times-cons r rs = sum_by-cons passes r rs

  -- one more
  pub times_insert : (r : model.Region) (rs : model.Actor) → times (insert_region r rs) ≡ times (r ∷ rs)
  times_insert r [] = refl
  times_insert r (x ∷ xs) = go (nat_lt r.start x.start) (times_insert r xs)
    where
      go : (c : Bool) → times (insert_region r xs) ≡ times (r ∷ xs) → times (cond c (r ∷ x ∷ xs) (x ∷ insert_region r xs)) ≡ times (r ∷ x ∷ xs)
      go true rest = refl
      go false rest = omega (arith, rest, times-cons x (insert_region r xs), times-cons r xs, times-cons r (x ∷ xs), times-cons x xs)

  -- one less
  pub times_without : (region : ℕ) (rs : model.Actor) → times (without_region region rs) ≤ times rs
  times_without region rs = omega (arith, sum_by-filter_both (λ (r : model.Region). r.number == region) (λ r. not (r.number == region)) (λ _. refl) passes rs)

  -- one becomes others
  pub times_replaced : (region : ℕ) (by : model.Region → List model.Region) (r : model.Region) (rs : model.Actor) → region_among region rs ≡ Some r → times (replace_region region by rs) + passes r ≡ times (by r) + times rs
  times_replaced region by r [] e = absurd (cc e)
  times_replaced region by r (x ∷ xs) e = go (x.number == region) e (times_replaced region by r xs)
    where
      go : (c : Bool) → cond c (Some x) (region_among region xs) ≡ Some r → (region_among region xs ≡ Some r → times (replace_region region by xs) + passes r ≡ times (by r) + times xs)
          → times (cond c (by x ++ xs) (x ∷ replace_region region by xs)) + passes r ≡ times (by r) + times (x ∷ xs)
      go true found rest =
          let same : x ≡ r = cc found in
          subst (λ (y : model.Region). times (by x ++ xs) + passes y ≡ times (by y) + times (x ∷ xs)) same
          (omega (arith, sum_by-append passes (by x) xs, times-cons x xs))
      go false found rest = omega (arith, rest found, times-cons x (replace_region region by xs), times-cons x xs)

  -- it becomes one that passes where it does
  pub times_same : (region : ℕ) (by : model.Region → List model.Region) (r : model.Region) (rs : model.Actor) → region_among region rs ≡ Some r → times (by r) ≡ passes r → times (replace_region region by rs) ≡ times rs
  times_same region by r rs e same = omega (arith, same, times_replaced region by r rs e)

  -- it becomes two, of which the first passes where it does
  pub times_split : (region page pages fresh : ℕ) (r : model.Region) (rs : model.Actor) → p (record r { pages = pages }) ≡ p r → region_among region rs ≡ Some r
      → times (replace_region region (split_at page pages fresh) rs) ≡ times (back_of page pages fresh r ∷ rs)
  times_split region page pages fresh r rs front_same e =
      let front = record r { pages = pages } in
      let back = back_of page pages fresh r in
      omega (arith, times_replaced region (split_at page pages fresh) r rs e, times-cons front (back ∷ []), times-cons back [], times-cons back rs, ap one_if front_same)

  -- one with the number passes, so there is one that does
  pub times_some : (region : ℕ) (r : model.Region) (rs : model.Actor) → region_among region rs ≡ Some r → p r ≡ true → 1 ≤ times rs
  times_some region r rs e is = omega (arith, times_replaced region (λ _. []) r rs e, ap one_if is)

-- where none has the number, none goes
none_goes : (n : ℕ) (rs : model.Actor) → times_among n (Some rs) ≤ 0 → without_region n rs ≡ rs
none_goes n [] few = refl
none_goes n (x ∷ xs) few = go (x.number == n) refl (none_goes n xs)
  where
    go : (c : Bool) → (x.number == n) ≡ c → (times_among n (Some xs) ≤ 0 → without_region n xs ≡ xs) → cond (not c) (x ∷ without_region n xs) (without_region n xs) ≡ x ∷ xs
    go true e rest = absurd (omega (arith, few, times-cons (is_numbered n) x xs, ap one_if e))
    go false e rest = ap (λ (ys : model.Actor). x ∷ ys) (rest (omega (arith, few, times-cons (is_numbered n) x xs)))

-- the only one with the number goes
pub times_gone : (p : model.Region → Bool) (n : ℕ) (r : model.Region) (rs : model.Actor) → region_among n rs ≡ Some r → times_among n (Some rs) ≤ 1
    → count_by p (without_region n rs) + one_if (p r) ≡ count_by p rs
times_gone p n r [] e few = absurd (cc e)
times_gone p n r (x ∷ xs) e few = go (x.number == n) refl e (times_gone p n r xs)
  where
    go : (c : Bool) → (x.number == n) ≡ c → cond c (Some x) (region_among n xs) ≡ Some r
        → (region_among n xs ≡ Some r → times_among n (Some xs) ≤ 1 → count_by p (without_region n xs) + one_if (p r) ≡ count_by p xs)
        → count_by p (cond (not c) (x ∷ without_region n xs) (without_region n xs)) + one_if (p r) ≡ count_by p (x ∷ xs)
    go true is found rest =
        let same : x ≡ r = cc found in
        let left : without_region n xs ≡ xs = none_goes n xs (omega (arith, few, times-cons (is_numbered n) x xs, ap one_if is)) in
        omega (arith, ap (count_by p) left, times-cons p x xs, ap (λ (y : model.Region). one_if (p y)) same)
    go false is found rest =
        omega (arith, rest found (omega (arith, few, times-cons (is_numbered n) x xs)), times-cons p x (without_region n xs), times-cons p x xs)

-- what was made for another actor, or for none yet
times_other : (n : ℕ) (owners : List ActorId) (actor : ℕ) → (owner_of owners n ≡ Some (record { 0 = actor }) → ⊥) → (rs : model.Actor) → All (IsFor owners actor) rs → times_among n (Some rs) ≡ 0
times_other n owners actor other [] all = refl
times_other n owners actor other (r ∷ rs) all =
    omega (arith, times-cons (is_numbered n) r rs, none (r.number == n) refl, times_other n owners actor other rs (All-tail (IsFor owners actor) r rs all))
  where
    none : (c : Bool) → (r.number == n) ≡ c → one_if c ≡ 0
    none false e = refl
    none true e =
        let same : r.number ≡ n = grind (arith, nat_tests) in
        absurd (other (subst (λ (k : ℕ). owner_of owners k ≡ Some (record { 0 = actor })) same (All-head (IsFor owners actor) r rs all)))

-- Once among an actor's regions

pub once_none : AreOnce []
once_none n = omega arith

pub once_without : (region : ℕ) (rs : model.Actor) → AreOnce rs → AreOnce (without_region region rs)
once_without region rs once n = let few = once n in omega (arith, few, times_without (is_numbered n) region rs)

pub once_same : (region : ℕ) (by : model.Region → List model.Region) (r : model.Region) (rs : model.Actor) → region_among region rs ≡ Some r
    → ((n : ℕ) → times_among n (Some (by r)) ≡ one_if (r.number == n)) → AreOnce rs → AreOnce (replace_region region by rs)
once_same region by r rs e same once n = let few = once n in omega (arith, few, times_same (is_numbered n) region by r rs e (same n))

-- no region has the next number
no_owner : (owners : List ActorId) (n : ℕ) → n ≡ length owners + 1 → owner_of owners n ≡ None
no_owner owners n next = go (n == 0)
  where
    past : (xs : List ActorId) → slice_get xs (length xs) ≡ None
    past [] = refl
    past (x ∷ xs) = past xs

    go : (c : Bool) → cond c None (slice_get owners (n - 1)) ≡ None
    go true = refl
    go false = ap (slice_get owners) (omega arith) ∙ past owners

-- one of the next number comes
pub once_more : (owners : List ActorId) (actor : ℕ) (fresh : model.Region) (rs ms : model.Actor) → fresh.number ≡ length owners + 1 → All (IsFor owners actor) rs
    → ((n : ℕ) → times_among n (Some ms) ≡ times_among n (Some (fresh ∷ rs))) → AreOnce rs → AreOnce ms
once_more owners actor fresh rs ms next all more once n = go (fresh.number == n) refl
  where
    go : (c : Bool) → (fresh.number == n) ≡ c → times_among n (Some ms) ≤ 1
    go false e = let few = once n in omega (arith, few, more n, times-cons (is_numbered n) fresh rs, ap one_if e)
    go true e =
        let number : n ≡ length owners + 1 = grind (arith, nat_tests) in
        let none = times_other n owners actor (λ f. absurd (let g = sym (no_owner owners n number) ∙ f in cc g)) rs all in
        omega (arith, none, more n, times-cons (is_numbered n) fresh rs, ap one_if e)

-- Once among those of all

sum_none : {A : Type 0} (f : A → ℕ) (xs : List A) → ((j : ℕ) (x : A) → slice_get xs j ≡ Some x → f x ≡ 0) → sum_by f xs ≡ 0
sum_none f [] none = refl
sum_none f (x ∷ xs) none = omega (arith, sum_by-cons f x xs, none 0 x refl, sum_none f xs (λ j y e. none (suc j) y e))

-- a sum of which all but one is nothing
sum_one : {A : Type 0} (f : A → ℕ) (xs : List A) (i : ℕ) → ((j : ℕ) (x : A) → slice_get xs j ≡ Some x → f x ≤ 1) → ((j : ℕ) (x : A) → slice_get xs j ≡ Some x → (j ≡ i → ⊥) → f x ≡ 0) → sum_by f xs ≤ 1
sum_one f [] i most none = omega arith
sum_one f (x ∷ xs) zero most none = omega (arith, sum_by-cons f x xs, most 0 x refl, sum_none f xs (λ j y e. none (suc j) y e (λ same. absurd (omega (arith, same)))))
sum_one f (x ∷ xs) (suc i) most none =
    omega (
      arith,
      sum_by-cons f x xs,
      none 0 x refl (λ same. absurd (omega (arith, same))),
      sum_one f xs i (λ j y e. most (suc j) y e) (λ j y e off. none (suc j) y e (λ same. off (omega (arith, same)))),
    )

module _ (page : ℕ) (owners : List ActorId) (xs : List (Option AddressSpace)) (kept : Numbered (IsKept page owners) xs) (n : ℕ) where
  -- the place of the actor for which the region was made
  abbrev place : Option ActorId → ℕ
  place None = 0
  place (Some a) = a.0 - 1

  kept_by : (o : Option AddressSpace) (actor : ℕ) (rs : model.Actor) → numbered xs actor ≡ o → option_map regions_of o ≡ Some rs → All (IsFor owners actor) rs × AreOnce rs
  kept_by None actor rs at is = absurd (cc is)
  kept_by (Some s) actor rs at is =
      let same : s.regions ≡ rs = cc is in
      let here = kept actor s at in
      (subst (All (IsFor owners actor)) same here.owned, subst AreOnce same here.once)

  pub kept_at : (j : ℕ) (rs : model.Actor) → slice_get (regions_in xs) j ≡ Some (Some rs) → All (IsFor owners (j + 1)) rs × AreOnce rs
  kept_at j rs at = kept_by (numbered xs (j + 1)) (j + 1) rs refl (sym (numbered-map regions_of xs (j + 1)) ∙ number_at (regions_in xs) j rs at)

  few_at : (j : ℕ) (o : Option model.Actor) → slice_get (regions_in xs) j ≡ Some o → times_among n o ≤ 1
  few_at j None at = omega arith
  few_at j (Some rs) at = (kept_at j rs at).1 n

  none_at : (j : ℕ) (o : Option model.Actor) → slice_get (regions_in xs) j ≡ Some o → (j ≡ place (owner_of owners n) → ⊥) → times_among n o ≡ 0
  none_at j None at off = refl
  none_at j (Some rs) at off = times_other n owners (j + 1) (λ owner. off (omega (arith, ap place owner))) rs (kept_at j rs at).0

  -- at most one region of a living actor has the number
  pub made_once : times_made n (regions_in xs) ≤ 1
  made_once = sum_one (times_among n) (regions_in xs) (place (owner_of owners n)) few_at none_at
