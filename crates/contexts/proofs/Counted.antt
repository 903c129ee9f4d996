-- How many regions map each cache.
use Rattle.std.proofs.Common.{◌≡◌, ◌≢◌, ◌==◌, ℕ, zero, suc, ◌+◌, ◌-◌, ◌<◌, ◌≤◌, Bool, true, false, cond, List, [], ◌∷◌, ◌++◌, length, set, replicate, take, Option, Some, None, refl, sym, ap, inl, inr, ◌∙◌, arith}
use Rattle.std.specs.Prelude.{◌||◌, count_by, get_or, nat_lt, option_map, slice_get}
use Rattle.std.specs.List.{list_any}
use Rattle.std.proofs.lemmas.Bool.{cases_eq, eq-eqb}
use Rattle.std.proofs.lemmas.Bool.Decides.{nat_tests}
use Rattle.std.proofs.lemmas.List.{get_or-set_other, get_or-set_same, get_or_default, map-append}
use Rattle.std.proofs.lemmas.List.Sums.{count_by-le-length, get_or-le-sum_by, sum_by-cons, sum_by-le-sum_by, sum_by_more, sum_by_more_le, sum_by_push}
use Rattle.std.proofs.lemmas.Option.{get_or_from_slice_get, slice_get_within}
use Rattle.vm_model.specs.Answering.{maps_in}
use Rattle.vm_model.specs.Machine as model
use Rattle.vm_model.specs.Machine.{numbered}
use Rattle.vm_model.specs.Regions.{region_among}
use Rattle.vm_model.proofs.Parts.Lists.{at_number, numbered-map, sum_by_swap}
use Rattle.regions.specs.AddressSpace.{AddressSpace}
use Rattle.contexts.specs.Actors.{region_count, regions_among}
use Rattle.contexts.specs.Counting.{count_of, one_for, times_in, times_mapped}
use Rattle.contexts.specs.Layout.{IsChanged, regions_in}
use Rattle.contexts.proofs.Kept.{changed_seen}
use Rattle.contexts.proofs.Living.{regions_of}
use Rattle.contexts.proofs.Once.{times_some}

-- What is counted, in a list

same_one : (cache n : ℕ) → cache ≡ n → one_for cache n ≡ 1
same_one cache n e = ap (λ (c : Bool). cond c 1 0) (eq-eqb cache n e)

other_none : (cache n : ℕ) → cache ≢ n → one_for cache n ≡ 0
other_none cache n e = ap (λ (c : Bool). cond c 1 0) (let t : (cache == n) ≡ false = grind (arith, nat_tests) in t)

-- what is counted has a place
pub counted_within : (counts : List ℕ) (n : ℕ) → 1 ≤ count_of counts n → n < length counts
counted_within [] n some = absurd (omega (arith, some))
counted_within (c ∷ counts) zero some = omega arith
counted_within (c ∷ counts) (suc n) some = omega (arith, counted_within counts n some)

-- what is read at a place is what is counted
pub counted_read : (counts : List ℕ) (n x : ℕ) → n < length counts → x ≡ get_or counts n x → count_of counts n ≡ x
counted_read counts n x within e = get_or_default counts n 0 x within ∙ sym e

module _ (counts : List ℕ) (cache v : ℕ) (within : cache < length counts) where
  here : count_of (set counts cache v) cache ≡ v
  here = get_or-set_same counts cache v 0 within

  there : (n : ℕ) → n ≢ cache → count_of (set counts cache v) n ≡ count_of counts n
  there n apart = get_or-set_other counts cache n v 0 apart

  -- one more
  pub counted_more : v ≡ count_of counts cache + 1 → (n : ℕ) → count_of (set counts cache v) n ≡ count_of counts n + one_for cache n
  counted_more is n = elim (cases_eq cache n) [
    | inl e ↦ omega (arith, ap (count_of (set counts cache v)) (sym e), ap (count_of counts) (sym e), here, is, same_one cache n e)
    | inr apart ↦ omega (arith, there n (λ e. apart (sym e)), other_none cache n apart)
  ]

  -- one less
  pub counted_less : v + 1 ≡ count_of counts cache → (n : ℕ) → count_of counts n ≡ count_of (set counts cache v) n + one_for cache n
  counted_less is n = elim (cases_eq cache n) [
    | inl e ↦ omega (arith, ap (count_of (set counts cache v)) (sym e), ap (count_of counts) (sym e), here, is, same_one cache n e)
    | inr apart ↦ omega (arith, there n (λ e. apart (sym e)), other_none cache n apart)
  ]

-- The regions of an actor, one after the other

module _ (rs : model.Actor) (i : ℕ) (r : model.Region) (at : slice_get rs i ≡ Some r) (cache : ℕ) where
  abbrev for : model.Region → ℕ
  for x = one_for x.cache cache

  -- so many map it up to this one, and it
  pub times_next : times_in cache (Some (take (i + 1) rs)) ≡ times_in cache (Some (take i rs)) + one_for r.cache cache
  times_next = omega (arith, sum_by_more for rs i r (slice_get_within rs i r at), ap for (get_or_from_slice_get rs i r r at))

  -- no more than all
  pub times_left : r.cache ≡ cache → times_in cache (Some (take i rs)) + 1 ≤ times_in cache (Some rs)
  times_left e = omega (arith, sum_by_more_le for rs i r (slice_get_within rs i r at), ap for (get_or_from_slice_get rs i r r at), same_one r.cache cache e)

-- The regions of all

some_of : (a b : ℕ) → nat_lt 0 (a + b) ≡ (nat_lt 0 a || nat_lt 0 b)
some_of zero b = ap (nat_lt 0) (omega arith)
some_of (suc a) b = grind (arith, nat_tests)

any_counted : (p : model.Region → Bool) (rs : model.Actor) → list_any p rs ≡ nat_lt 0 (count_by p rs)
any_counted p [] = refl
any_counted p (r ∷ rs) =
    first (p r) ∙ ap (λ (b : Bool). nat_lt 0 (cond (p r) 1 0) || b) (any_counted p rs) ∙ sym (some_of (cond (p r) 1 0) (count_by p rs))
    ∙ ap (nat_lt 0) (sym (sum_by-cons (λ (x : model.Region). cond (p x) 1 0) r rs))
  where
    first : (c : Bool) → (c || list_any p rs) ≡ (nat_lt 0 (cond c 1 0) || list_any p rs)
    first true = refl
    first false = refl

maps_counted : (cache : ℕ) (o : Option model.Actor) → maps_in cache o ≡ nat_lt 0 (times_in cache o)
maps_counted cache None = refl
maps_counted cache (Some rs) = any_counted (λ (r : model.Region). r.cache == cache) rs

-- a cache is mapped where some region is counted
pub mapped_counted : (cache : ℕ) (xs : List (Option model.Actor)) → list_any (maps_in cache) xs ≡ nat_lt 0 (times_mapped cache xs)
mapped_counted cache [] = refl
mapped_counted cache (x ∷ xs) =
    (λ i. maps_counted cache x i || mapped_counted cache xs i) ∙ sym (some_of (times_in cache x) (times_mapped cache xs))
    ∙ ap (nat_lt 0) (sym (sum_by-cons (times_in cache) x xs))

-- no more than there are
in_few : (cache : ℕ) (o : Option model.Actor) → times_in cache o ≤ regions_among o
in_few cache None = omega arith
in_few cache (Some rs) = count_by-le-length (λ (r : model.Region). r.cache == cache) rs

pub mapped_few : (cache : ℕ) (xs : List (Option model.Actor)) → times_mapped cache xs ≤ region_count xs
mapped_few cache xs = sum_by-le-sum_by (times_in cache) regions_among xs (in_few cache)

-- The actors' spaces

module _ (xs : List (Option AddressSpace)) (a : ℕ) (s : AddressSpace) (is : numbered xs a ≡ Some s) where
  regions_at : slice_get (regions_in xs) (a - 1) ≡ Some (Some s.regions)
  regions_at = at_number (regions_in xs) a s.regions (numbered-map regions_of xs a ∙ ap (option_map regions_of) is)

  -- the regions of one are counted among all
  pub times_among_all : (cache : ℕ) → times_in cache (Some s.regions) ≤ times_mapped cache (regions_in xs)
  times_among_all cache =
      let o : Option model.Actor = Some s.regions in
      omega (
        arith,
        get_or-le-sum_by (times_in cache) (regions_in xs) (a - 1) o (slice_get_within (regions_in xs) (a - 1) o regions_at),
        ap (times_in cache) (get_or_from_slice_get (regions_in xs) (a - 1) o o regions_at),
      )

  -- a region that is there is counted
  pub times_here : (n : ℕ) (r : model.Region) → region_among n s.regions ≡ Some r → 1 ≤ times_mapped r.cache (regions_in xs)
  times_here n r e = omega (arith, times_among_all r.cache, times_some (λ (x : model.Region). x.cache == r.cache) n r s.regions e (eq-eqb r.cache r.cache refl))

  -- the actor goes, or has other regions
  pub times_after : (cache : ℕ) (o : Option model.Actor) → times_mapped cache (set (regions_in xs) (a - 1) o) + times_in cache (Some s.regions) ≡ times_mapped cache (regions_in xs) + times_in cache o
  times_after cache o = sum_by_swap (times_in cache) (regions_in xs) (a - 1) (Some s.regions) o regions_at

pub times_changed : (a : ℕ) (by : model.Actor → model.Actor) (xs ys : List (Option AddressSpace)) (e : IsChanged a by xs ys) (cache : ℕ)
    → times_mapped cache (regions_in ys) + times_in cache (Some e.space.regions) ≡ times_mapped cache (regions_in xs) + times_in cache (Some (by e.space.regions))
times_changed a by xs ys e cache =
    let was : numbered (regions_in xs) a ≡ Some e.space.regions = numbered-map regions_of xs a ∙ ap (option_map regions_of) e.here in
    let seen = changed_seen a by xs ys e ∙ ap (λ (o : Option model.Actor). set (regions_in xs) (a - 1) (option_map by o)) was in
    ap (λ (zs : List (Option model.Actor)). times_mapped cache zs + times_in cache (Some e.space.regions)) seen
    ∙ times_after xs a e.space e.here cache (Some (by e.space.regions))

-- an actor without regions comes
pub made_times : (cache : ℕ) (xs : List (Option AddressSpace)) (s : AddressSpace) → s.regions ≡ [] → times_mapped cache (regions_in (xs ++ Some s ∷ [])) ≡ times_mapped cache (regions_in xs)
made_times cache xs s none =
    let more = ap (times_mapped cache) (map-append (option_map regions_of) xs (Some s ∷ [])) ∙ sum_by_push (times_in cache) (regions_in xs) (Some s.regions) in
    omega (arith, more, ap (λ (rs : model.Actor). times_in cache (Some rs)) none)
