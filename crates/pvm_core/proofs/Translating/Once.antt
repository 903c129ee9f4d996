-- The one region with its number is the one of which is told.
use Rattle.std.proofs.Common.{◌≡◌, ◌==◌, ℕ, zero, suc, ◌+◌, ◌≤◌, Bool, true, false, cond, List, [], ◌∷◌, Option, Some, None, refl, ap, ◌∙◌, arith}
use Rattle.std.specs.Prelude.{option_map, slice_get}
use Rattle.std.specs.Option.{option_or}
use Rattle.std.proofs.lemmas.List.Sums.{sum_by-cons}
use Rattle.vm_model.specs.Machine.{Actor, Region}
use Rattle.vm_model.specs.Place.{holds, region_at}
use Rattle.vm_model.specs.Regions.{region_among, status_in, status_with}
use Rattle.vm_model.proofs.Parts.Lists.{sum_by_part}
use Rattle.contexts.specs.Actors.{times_among, times_made}
use Rattle.contexts.proofs.Once.{is_numbered, times-cons}

module _ (b address n : ℕ) where
  abbrev at : Actor → Option Region
  at rs = region_at b address rs

  abbrev times : Actor → ℕ
  times rs = times_among n (Some rs)

  abbrev bit : Bool → ℕ
  bit c = cond c 1 0

  has_one : (r : Region) → (r.number == n) ≡ true → bit (r.number == n) ≡ 1
  has_one r e = ap bit e

  -- a region with the number is counted
  counted : (rs : Actor) (r : Region) → at rs ≡ Some r → (r.number == n) ≡ true → 1 ≤ times rs
  counted [] r found is = absurd (cc found)
  counted (x ∷ xs) r found is = go (holds b address x) found (λ f. counted xs r f is)
    where
      go : (c : Bool) → cond c (Some x) (at xs) ≡ Some r → (at xs ≡ Some r → 1 ≤ times xs) → 1 ≤ times (x ∷ xs)
      go true f rest = (let same : x ≡ r = cc f in let own = has_one x (ap (λ (q : Region). q.number == n) same ∙ is) in omega (arith, times-cons (is_numbered n) x xs, own))
      go false f rest = omega (arith, times-cons (is_numbered n) x xs, rest f)

  -- and is the one that is found by its number
  among : (rs : Actor) (r : Region) → at rs ≡ Some r → (r.number == n) ≡ true → times rs ≤ 1 → region_among n rs ≡ Some r
  among [] r found is once = absurd (cc found)
  among (x ∷ xs) r found is once = go (holds b address x) found (x.number == n) refl (λ f few. among xs r f is few)
    where
      go : (c : Bool) → cond c (Some x) (at xs) ≡ Some r → (d : Bool) → (x.number == n) ≡ d → (at xs ≡ Some r → times xs ≤ 1 → region_among n xs ≡ Some r) → cond d (Some x) (region_among n xs) ≡ Some r
      go true f true k rest = f
      go true f false k rest = absurd (let same : x ≡ r = cc f in let its : (x.number == n) ≡ true = ap (λ (q : Region). q.number == n) same ∙ is in cc (its, k))
      go false f true k rest = absurd (omega (arith, times-cons (is_numbered n) x xs, has_one x k, counted xs r f is, once))
      go false f false k rest = rest f (omega (arith, times-cons (is_numbered n) x xs, once))

  pub once_told : (first place : ℕ) (xs : List (Option Actor)) (rs : Actor) (r : Region) → times_made n xs ≤ 1 → slice_get xs place ≡ Some (Some rs) → at rs ≡ Some r → (r.number == n) ≡ true
      → status_with n first xs ≡ Some (status_in (first + place) r)
  once_told first place [] rs r once there found is = absurd (cc there)
  once_told first zero (None ∷ xs) rs r once there found is = absurd (cc there)
  once_told first (suc k) (None ∷ xs) rs r once there found is =
      once_told (first + 1) k xs rs r (omega (arith, sum_by-cons (times_among n) None xs, once)) there found is ∙ ap (λ (j : ℕ). Some (status_in j r)) (omega arith)
  once_told first zero (Some ys ∷ xs) rs r once there found is =
      let same : ys ≡ rs = cc there in
      let here = ap (region_among n) same ∙ among rs r found is (omega (arith, sum_by-cons (times_among n) (Some ys) xs, once, ap times same)) in
      ap (λ (o : Option Region). option_or (option_map (status_in first) o) (status_with n (first + 1) xs)) here ∙ ap (λ (j : ℕ). Some (status_in j r)) (omega arith)
  once_told first (suc k) (Some ys ∷ xs) rs r once there found is = go (region_among n ys) refl (λ few. once_told (first + 1) k xs rs r few there found is)
    where
      behind : 1 ≤ times_made n xs
      behind = omega (arith, sum_by_part (times_among n) xs k (Some rs) there, counted rs r found is)

      go : (o : Option Region) → region_among n ys ≡ o → (times_made n xs ≤ 1 → status_with n (first + 1) xs ≡ Some (status_in (first + 1 + k) r)) → option_or (option_map (status_in first) o) (status_with n (first + 1) xs) ≡ Some (status_in (first + suc k) r)
      go None e rest = rest (omega (arith, sum_by-cons (times_among n) (Some ys) xs, once)) ∙ ap (λ (j : ℕ). Some (status_in j r)) (omega arith)
      go (Some y) e rest = absurd (omega (arith, sum_by-cons (times_among n) (Some ys) xs, behind, once, held ys y e))
        where
          held : (zs : Actor) (y : Region) → region_among n zs ≡ Some y → 1 ≤ times zs
          held [] y f = absurd (cc f)
          held (z ∷ zs) y f = turn (z.number == n) refl f (held zs y)
            where
              turn : (c : Bool) → (z.number == n) ≡ c → cond c (Some z) (region_among n zs) ≡ Some y → (region_among n zs ≡ Some y → 1 ≤ times zs) → 1 ≤ times (z ∷ zs)
              turn true k g rest = omega (arith, times-cons (is_numbered n) z zs, has_one z k)
              turn false k g rest = omega (arith, times-cons (is_numbered n) z zs, rest g)
