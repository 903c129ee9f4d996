-- Where numbers stand in buckets, and that a bucket is free.
use Rattle.std.proofs.Common.{◌≡◌, ◌≢◌, ℕ, zero, suc, ◌+◌, ◌*◌, ◌<◌, ◌≤◌, ◌==◌, true, List, [], ◌∷◌, length, Option, Some, None, refl, ap, ◌∙◌, arith, inl, inr}
use Rattle.std.specs.Prelude.{is_some, count_by}
use Rattle.std.specs.Option.{option_eq}
use Rattle.std.proofs.lemmas.Bool.{cases_eq}
use Rattle.std.proofs.lemmas.Grind.{common_steps}
use Rattle.vm_ids.proofs.Places.{same_number, other_number, bit_true, bit_false, count_cons, count_some, count_not_all}
use Rattle.probe_table.specs.Entries.{hash_of}
use Rattle.probe_table.specs.Probing.{bucket, home_of, IsPassed, is_number, times, IsProbing}
use Rattle.probe_table.proofs.Writes.{some_below}

-- a number that stands somewhere is counted
pub counted : (buckets : List (Option ℕ)) (at number : ℕ) → bucket buckets at ≡ Some number → 1 ≤ count_by (is_number number) buckets
counted buckets at number e = count_some (is_number number) buckets at None (some_below buckets at number e) (ap (is_number number) e ∙ same_number number)

-- a number that is counted stands somewhere
pub place_in : (number : ℕ) (buckets : List (Option ℕ)) → 1 ≤ count_by (is_number number) buckets → (at : ℕ) × (bucket buckets at ≡ Some number)
place_in number [] h = absurd (omega arith)
place_in number (None ∷ xs) h =
    let rest : (at : ℕ) × (bucket xs at ≡ Some number) = place_in number xs (omega (arith, count_cons (is_number number) None xs)) in
    (suc rest.0, rest.1)
place_in number (Some other ∷ xs) h = elim (cases_eq other number) [
  | inl same ↦ (0, ap (λ (n : ℕ). Some n) same)
  | inr differs ↦
      (let rest : (at : ℕ) × (bucket xs at ≡ Some number) = place_in number xs (omega (arith, count_cons (is_number number) (Some other) xs, bit_false (other == number) (other_number other number differs))) in
      (suc rest.0, rest.1))
]

taken_is : (o : Option ℕ) → o ≢ None → is_some o ≡ true
taken_is None h = absurd (h refl)
taken_is (Some x) h = refl

-- where no bucket from one on is free, so many are taken
pub taken_from : (buckets : List (Option ℕ)) (from : ℕ) → IsPassed buckets from (length buckets) None → length buckets ≤ from + count_by is_some buckets
taken_from [] from h = omega arith
taken_from (x ∷ xs) zero h =
    let rest : length xs ≤ 0 + count_by is_some xs = taken_from xs zero (λ at low high. h (suc at) (omega arith) (omega arith)) in
    omega (arith, count_cons is_some x xs, bit_true (is_some x) (taken_is x (h 0 (omega arith) (omega arith))))
taken_from (x ∷ xs) (suc from) h =
    let rest : length xs ≤ from + count_by is_some xs = taken_from xs from (λ at low high. h (suc at) (omega arith) (omega arith)) in
    omega (arith, count_cons is_some x xs)

-- while a number isn't entered, there is a free bucket behind the homes
pub is_room : (hashes buckets : List (Option ℕ)) (number : ℕ) → IsProbing hashes buckets (length buckets) → number < length hashes → hash_of hashes number ≡ None → IsPassed buckets (2 * length hashes) (length buckets) None → ⊥
is_room hashes buckets number is below absent passed =
    let fewer : count_by is_some hashes < length hashes = count_not_all is_some hashes number None below (ap is_some absent) in
    omega (arith, taken_from buckets (2 * length hashes) passed, is.taken, is.room)

-- where a number that is entered stands
pub place_of : (hashes buckets : List (Option ℕ)) (gap number hash : ℕ) → IsProbing hashes buckets gap → hash_of hashes number ≡ Some hash → (at : ℕ) × (bucket buckets at ≡ Some number)
place_of hashes buckets gap number hash is entered = place_in number buckets (omega (arith, is.once number, ap times entered))

-- a number that stands somewhere is entered
pub is_entered : (hashes buckets : List (Option ℕ)) (gap at number : ℕ) → IsProbing hashes buckets gap → bucket buckets at ≡ Some number → hash_of hashes number ≢ None
is_entered hashes buckets gap at number is stands absent = absurd (omega (arith, counted buckets at number stands, is.once number, ap times absent))

with_hash : (o : Option ℕ) → o ≢ None → (hash : ℕ) × (o ≡ Some hash)
with_hash None some = absurd (some refl)
with_hash (Some hash) some = (hash, refl)

pub its_hash : (hashes buckets : List (Option ℕ)) (gap at number : ℕ) → IsProbing hashes buckets gap → bucket buckets at ≡ Some number → (hash : ℕ) × (hash_of hashes number ≡ Some hash)
its_hash hashes buckets gap at number is stands = with_hash (hash_of hashes number) (is_entered hashes buckets gap at number is stands)

pub its_below : (hashes buckets : List (Option ℕ)) (gap at number : ℕ) → IsProbing hashes buckets gap → bucket buckets at ≡ Some number → number < length hashes
its_below hashes buckets gap at number is stands =
    let its : (hash : ℕ) × (hash_of hashes number ≡ Some hash) = its_hash hashes buckets gap at number is stands in
    some_below hashes number its.0 its.1

-- a number that is entered stands before the first free bucket from its home on
pub before_free : (hashes buckets : List (Option ℕ)) (number hash at free : ℕ) → IsProbing hashes buckets (length buckets) → hash_of hashes number ≡ Some hash → bucket buckets at ≡ Some number → home_of (length hashes) hash ≤ free → bucket buckets free ≡ None → at < free
before_free hashes buckets number hash at free is entered stands low empty = grind (arith, common_steps, is.reached at number hash stands entered free, some_below buckets at number stands)

-- where the walk from its home to a free bucket comes by a number that is entered
pub on_the_walk : (hashes buckets : List (Option ℕ)) (number hash count home free : ℕ) → IsProbing hashes buckets (length buckets) → hash_of hashes number ≡ Some hash → count ≡ length hashes → home ≡ home_of count hash → home ≤ free → bucket buckets free ≡ None → (at : ℕ) × (home ≤ at) × (at < free) × (bucket buckets at ≡ Some number)
on_the_walk hashes buckets number hash count home free is entered size its low empty =
    let place : (at : ℕ) × (bucket buckets at ≡ Some number) = place_of hashes buckets (length buckets) number hash is entered in
    let behind : home_of (length hashes) hash ≤ place.0 = is.behind place.0 number hash place.1 entered in
    let same : home_of count hash ≡ home_of (length hashes) hash = ap (λ (n : ℕ). home_of n hash) size in
    (place.0, omega arith, before_free hashes buckets number hash place.0 free is entered place.1 (omega arith) empty, place.1)

-- the test whether a number is entered under a hash
pub same_hash : (o : Option ℕ) (hash : ℕ) → o ≡ Some hash → option_eq ◌==◌ o (Some hash) ≡ true
same_hash o hash e = ap (λ (p : Option ℕ). option_eq ◌==◌ p (Some hash)) e ∙ same_number hash
