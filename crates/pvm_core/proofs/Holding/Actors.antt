-- How many locked regions of all actors cover a page, after regions were mapped, cut, protected and
-- taken away.
use Rattle.std.proofs.Common.{◌≡◌, ◌==◌, ℕ, ◌+◌, ◌-◌, ◌<◌, ◌≤◌, Bool, true, false, cond, List, [], ◌∷◌, ◌++◌, get_or, set, length, map, Option, Some, None, refl, sym, ap, ◌∙◌, arith}
use Rattle.std.specs.Prelude.{◌&&◌, Err, IfSome, Ok, OnErr, OnOk, Result, count_by, is_some, nat_le, nat_lt, option_map}
use Rattle.std.specs.List.{list_any}
use Rattle.std.specs.Option.{option_or}
use Rattle.std.proofs.lemmas.Bool.Decides.{nat_tests}
use Rattle.std.proofs.lemmas.List.Sums.{sum_by-cons, sum_by-set, sum_by_push}
use Rattle.std.proofs.lemmas.Option.{get_or_from_slice_get, slice_get_within}
use Rattle.vm_ids.specs.declared.command.Prot.{Prot}
use Rattle.vm_ids.specs.declared.numbers.RegionId.{RegionId}
use Rattle.vm_ids.specs.declared.refusal.Refusal.{Refusal}
use Rattle.vm_ids.specs.declared.reply.Trouble.{Trouble}
use Rattle.vm_ids.specs.declared.reply.Trouble.TheVariants as troubles
use Rattle.vm_ids.proofs.Places.{bit, count_cons}
use Rattle.vm_model.specs.Answering.{insert_region, maps_in, without_region}
use Rattle.vm_model.specs.Machine.{Actor, Region, locks, numbered}
use Rattle.vm_model.proofs.Parts.Lists.{at_number}
use Rattle.vm_model.specs.Regions.{region_among, region_with, replace_in, replace_region, split_at, with_prot}
use Rattle.contexts.specs.Actors.{Actors, split_refusal, times_among, times_made, with_split}
use Rattle.contexts.proofs.RegionRows.{IsCut, is_cut, with_allowed}
use Rattle.pvm_core.specs.Locks.{locks_by, locks_over}
use Rattle.pvm_core.proofs.Holding.Regions.{counted_insert, cut_counts, neither, none_goes, one_goes, prot_counts, replaced, times_none, times_some, unlocked}

module _ (cache page : ℕ) where
  -- an actor more, without regions
  pub over_made : (xs : List (Option Actor)) → locks_over (xs ++ Some [] ∷ []) cache page ≡ locks_over xs cache page
  over_made xs = omega (arith, sum_by_push (locks_by cache page) xs (Some []))

  -- an unlocked region more
  pub over_mapped : (xs : List (Option Actor)) (n : ℕ) (rs : Actor) (r : Region) → numbered xs n ≡ Some rs → r.locked ≡ false → locks_over (set xs (n - 1) (option_map (insert_region r) (numbered xs n))) cache page ≡ locks_over xs cache page
  over_mapped xs n rs r here free =
      let place = at_number xs n rs here in
      let at : get_or xs (n - 1) None ≡ Some rs = get_or_from_slice_get xs (n - 1) (Some rs) None place in
      let less : n - 1 < length xs = slice_get_within xs (n - 1) (Some rs) place in
      let put : locks_by cache page (option_map (insert_region r) (numbered xs n)) ≡ locks_by cache page (get_or xs (n - 1) None)
      = ap (λ (o : Option Actor). locks_by cache page (option_map (insert_region r) o)) here ∙ counted_insert (locks cache page) r rs (unlocked cache page r free) ∙ sym (ap (locks_by cache page) at) in
      omega (arith, sum_by-set (locks_by cache page) xs (n - 1) (option_map (insert_region r) (numbered xs n)) None less, put)

  -- a region became others
  module _ (n : ℕ) (by : Region → List Region) (r : Region) (same : count_by (locks cache page) (by r) ≡ bit (locks cache page r)) where
    pub over_replaced : (xs : List (Option Actor)) → region_with n xs ≡ Some r → locks_over (replace_in n by xs) cache page ≡ locks_over xs cache page
    over_replaced [] e = absurd (cc e)
    over_replaced (None ∷ xs) e = omega (arith, sum_by-cons (locks_by cache page) None (replace_in n by xs), sum_by-cons (locks_by cache page) None xs, over_replaced xs e)
    over_replaced (Some rs ∷ xs) e = go (over_replaced xs) (region_among n rs) refl e
      where
        go : (region_with n xs ≡ Some r → locks_over (replace_in n by xs) cache page ≡ locks_over xs cache page) → (o : Option Region) → region_among n rs ≡ o → option_or o (region_with n xs) ≡ Some r → locks_over (cond (is_some (region_among n rs)) (Some (replace_region n by rs) ∷ xs) (Some rs ∷ replace_in n by xs)) cache page ≡ locks_over (Some rs ∷ xs) cache page
        go rest (Some y) here e =
            let found : region_among n rs ≡ Some r = here ∙ e in
            ap (λ (c : Bool). locks_over (cond c (Some (replace_region n by rs) ∷ xs) (Some rs ∷ replace_in n by xs)) cache page) (ap (λ (o : Option Region). is_some o) here)
            ∙ omega (arith, sum_by-cons (locks_by cache page) (Some (replace_region n by rs)) xs, sum_by-cons (locks_by cache page) (Some rs) xs, replaced (locks cache page) n by r same rs found)
        go rest None here e =
            ap (λ (c : Bool). locks_over (cond c (Some (replace_region n by rs) ∷ xs) (Some rs ∷ replace_in n by xs)) cache page) (ap (λ (o : Option Region). is_some o) here)
            ∙ omega (arith, sum_by-cons (locks_by cache page) (Some rs) (replace_in n by xs), sum_by-cons (locks_by cache page) (Some rs) xs, rest e)

  -- no region goes
  over_left : (n : ℕ) (xs : List (Option Actor)) → times_made n xs ≡ 0 → locks_over (map (option_map (without_region n)) xs) cache page ≡ locks_over xs cache page
  over_left n [] e = refl
  over_left n (x ∷ xs) e =
      let times = sum_by-cons (times_among n) x xs in
      let here : locks_by cache page (option_map (without_region n) x) ≡ locks_by cache page x = one x (omega (arith, times, e)) in
      let rest : locks_over (map (option_map (without_region n)) xs) cache page ≡ locks_over xs cache page = over_left n xs (omega (arith, times, e)) in
      omega (arith, sum_by-cons (locks_by cache page) (option_map (without_region n) x) (map (option_map (without_region n)) xs), sum_by-cons (locks_by cache page) x xs, here, rest)
    where
      one : (o : Option Actor) → times_among n o ≡ 0 → locks_by cache page (option_map (without_region n) o) ≡ locks_by cache page o
      one None e = refl
      one (Some rs) e = none_goes (locks cache page) n rs e

  -- the one region with its number, which is unlocked, went
  pub over_unmapped : (n : ℕ) (r : Region) (xs : List (Option Actor)) → times_made n xs ≤ 1 → region_with n xs ≡ Some r → r.locked ≡ false → locks_over (map (option_map (without_region n)) xs) cache page ≡ locks_over xs cache page
  over_unmapped n r [] once e free = absurd (cc e)
  over_unmapped n r (None ∷ xs) once e free =
      let times = sum_by-cons (times_among n) None xs in
      let rest : locks_over (map (option_map (without_region n)) xs) cache page ≡ locks_over xs cache page = over_unmapped n r xs (omega (arith, times, once)) e free in
      omega (arith, sum_by-cons (locks_by cache page) None (map (option_map (without_region n)) xs), sum_by-cons (locks_by cache page) None xs, rest)
  over_unmapped n r (Some rs ∷ xs) once e free = go (λ o f. over_unmapped n r xs o f free) (region_among n rs) refl e
    where
      times : times_made n (Some rs ∷ xs) ≡ count_by (λ (r : Region). r.number == n) rs + times_made n xs
      times = sum_by-cons (times_among n) (Some rs) xs

      both : count_by (locks cache page) (without_region n rs) ≡ count_by (locks cache page) rs → locks_over (map (option_map (without_region n)) xs) cache page ≡ locks_over xs cache page
          → locks_over (Some (without_region n rs) ∷ map (option_map (without_region n)) xs) cache page ≡ locks_over (Some rs ∷ xs) cache page
      both here rest = omega (arith, sum_by-cons (locks_by cache page) (Some (without_region n rs)) (map (option_map (without_region n)) xs), sum_by-cons (locks_by cache page) (Some rs) xs, here, rest)

      go : (times_made n xs ≤ 1 → region_with n xs ≡ Some r → locks_over (map (option_map (without_region n)) xs) cache page ≡ locks_over xs cache page)
          → (o : Option Region) → region_among n rs ≡ o → option_or o (region_with n xs) ≡ Some r → locks_over (Some (without_region n rs) ∷ map (option_map (without_region n)) xs) cache page ≡ locks_over (Some rs ∷ xs) cache page
      go rest (Some y) here e =
          let found : region_among n rs ≡ Some r = here ∙ e in
          let some = times_some n r rs found in
          both (one_goes (locks cache page) n r rs (omega (arith, times, once)) found (unlocked cache page r free)) (over_left n xs (omega (arith, times, once, some)))
      go rest None here e = both (none_goes (locks cache page) n rs (times_none n rs here)) (rest (omega (arith, times, once)) e)

-- as many locked regions cover each page after a region was protected
pub over_allowed : (n : ℕ) (prot : Prot) (t : Actors) → is_some (region_with n t.actors) ≡ true → (cache page : ℕ) → locks_over (with_allowed n prot t).actors cache page ≡ locks_over t.actors cache page
over_allowed n prot t some cache page = go (region_with n t.actors) refl some
  where
    go : (o : Option Region) → region_with n t.actors ≡ o → is_some o ≡ true → locks_over (with_allowed n prot t).actors cache page ≡ locks_over t.actors cache page
    go None found e = absurd (cc e)
    go (Some r) found e = over_replaced cache page n (with_prot prot) r (prot_counts cache page prot r) t.actors found

-- and after one was cut
over_split : (t : Actors) (n pages : ℕ) → IsCut t n pages → (cache page : ℕ) → locks_over (with_split t n pages).actors cache page ≡ locks_over t.actors cache page
over_split t n pages c cache page =
    let e = c.fewer in
    let fewer : pages < c.region.pages = grind (arith, nat_tests) in
    over_replaced cache page n (split_at t.page_bytes pages (t.regions_made + 1)) c.region (cut_counts cache page t.page_bytes pages (t.regions_made + 1) c.region fewer) t.actors c.found

-- or wasn't
pub over_cut : (t u : Actors) (region : RegionId) (pages : ℕ) (o : Option Refusal) (result : Result RegionId Trouble) → split_refusal t region.0 pages ≡ o → IfSome o (λ r. result ≡ Err (troubles.Refused r))
    → OnOk result (u ≡ with_split t region.0 pages) → OnErr result (u ≡ t) → (cache page : ℕ) → locks_over u.actors cache page ≡ locks_over t.actors cache page
over_cut t u region pages None (Ok fresh) is refused ok err cache page = ap (λ (w : Actors). locks_over w.actors cache page) ok ∙ over_split t region.0 pages (is_cut t region.0 pages is) cache page
over_cut t u region pages (Some r) (Ok fresh) is refused ok err cache page = absurd (cc refused)
over_cut t u region pages o (Err e) is refused ok err cache page = ap (λ (w : Actors). locks_over w.actors cache page) err

-- A cache that no region maps

module _ (cache page : ℕ) where
  other_cache : (r : Region) → (r.cache == cache) ≡ false → locks cache page r ≡ false
  other_cache r e = ap (λ (b : Bool). r.locked && b && nat_le r.offset page && nat_lt page (r.offset + r.pages)) e ∙ none r.locked
    where
      none : (l : Bool) → (l && false && nat_le r.offset page && nat_lt page (r.offset + r.pages)) ≡ false
      none true = refl
      none false = refl

  none_in : (rs : Actor) → list_any (λ (r : Region). r.cache == cache) rs ≡ false → count_by (locks cache page) rs ≡ 0
  none_in [] e = refl
  none_in (r ∷ rs) e =
      let two = neither (r.cache == cache) (list_any (λ (r : Region). r.cache == cache) rs) e in
      omega (arith, count_cons (locks cache page) r rs, ap bit (other_cache r two.0), none_in rs two.1)

  none_by : (o : Option Actor) → maps_in cache o ≡ false → locks_by cache page o ≡ 0
  none_by None e = refl
  none_by (Some rs) e = none_in rs e

  pub over_none : (xs : List (Option Actor)) → list_any (maps_in cache) xs ≡ false → locks_over xs cache page ≡ 0
  over_none [] e = refl
  over_none (x ∷ xs) e =
      let two = neither (maps_in cache x) (list_any (maps_in cache) xs) e in
      omega (arith, sum_by-cons (locks_by cache page) x xs, none_by x two.0, over_none xs two.1)
