-- What regions show at an address after one was added, became others, or went.
use Rattle.std.proofs.Common.{◌≡◌, ◌==◌, ℕ, ◌+◌, ◌*◌, Bool, true, false, cond, not, List, [], ◌∷◌, ◌++◌, Option, Some, None, refl, sym, ap, subst, ◌∙◌, arith}
use Rattle.std.specs.Prelude.{nat_le, nat_lt, ◌&&◌, ◌||◌}
use Rattle.std.specs.List.{list_any}
use Rattle.std.proofs.lemmas.Bool.Decides.{nat_tests}
use Rattle.vm_model.specs.Answering.{insert_region, overlaps, without_region}
use Rattle.vm_model.specs.Machine.{Actor, Region}
use Rattle.vm_model.specs.Place.{holds, region_at}
use Rattle.vm_model.specs.Regions.{region_among, replace_region}
use Rattle.pvm_core.proofs.Translating.Places.{Shows, StaysAt, shows_same}

module _ (b address : ℕ) (writable : Bool) where
  abbrev held : Region → Bool
  held r = holds b address r

  abbrev at : Actor → Option Region
  at rs = region_at b address rs

  passed : (x : Region) (xs : Actor) → held x ≡ false → at (x ∷ xs) ≡ at xs
  passed x xs away = ap (λ (c : Bool). cond c (Some x) (at xs)) away

  met : (x : Region) (xs : Actor) → held x ≡ true → at (x ∷ xs) ≡ Some x
  met x xs here = ap (λ (c : Bool). cond c (Some x) (at xs)) here

  -- what is found holds the address
  pub found_holds : (rs : Actor) (r : Region) → at rs ≡ Some r → held r ≡ true
  found_holds [] r e = absurd (cc e)
  found_holds (x ∷ xs) r e = go (found_holds xs r) (held x) refl e
    where
      go : (at xs ≡ Some r → held r ≡ true) → (c : Bool) → held x ≡ c → cond c (Some x) (at xs) ≡ Some r → held r ≡ true
      go rest true k f = let same : x ≡ r = cc f in subst (λ (y : Region). held y ≡ true) same k
      go rest false k f = rest f

  -- A region that is added

  -- one that doesn't hold the address
  pub inserted : (new : Region) (rs : Actor) → held new ≡ false → at (insert_region new rs) ≡ at rs
  inserted new [] away = passed new [] away
  inserted new (x ∷ xs) away = go (nat_lt new.start x.start) (inserted new xs away)
    where
      go : (c : Bool) → at (insert_region new xs) ≡ at xs → at (cond c (new ∷ x ∷ xs) (x ∷ insert_region new xs)) ≡ at (x ∷ xs)
      go true rest = passed new (x ∷ xs) away
      go false rest = ap (λ (o : Option Region). cond (held x) (Some x) o) rest

  -- two regions that share no address don't both hold one
  apart : (new r : Region) → overlaps b new.start new.pages r ≡ false → held r ≡ true → held new ≡ false
  apart new r none here = go (nat_lt new.start (r.start + b * r.pages)) (nat_lt r.start (new.start + b * new.pages)) (nat_le r.start address) (nat_lt address (r.start + b * r.pages)) (nat_le new.start address) (nat_lt address (new.start + b * new.pages)) refl refl refl refl refl refl none here
    where
      go : (v w x y z k : Bool) → nat_lt new.start (r.start + b * r.pages) ≡ v → nat_lt r.start (new.start + b * new.pages) ≡ w → nat_le r.start address ≡ x → nat_lt address (r.start + b * r.pages) ≡ y
          → nat_le new.start address ≡ z → nat_lt address (new.start + b * new.pages) ≡ k → (v && w) ≡ false → (x && y) ≡ true → (z && k) ≡ false
      go v w x y false k p1 p2 p3 p4 p5 p6 away here = refl
      go v w x y true false p1 p2 p3 p4 p5 p6 away here = refl
      go v w false y true true p1 p2 p3 p4 p5 p6 away here = absurd (cc here)
      go v w true false true true p1 p2 p3 p4 p5 p6 away here = absurd (cc here)
      go true true true true true true p1 p2 p3 p4 p5 p6 away here = absurd (cc away)
      go false w true true true true p1 p2 p3 p4 p5 p6 away here = absurd (grind (arith, nat_tests))
      go true false true true true true p1 p2 p3 p4 p5 p6 away here = absurd (grind (arith, nat_tests))

  fits_each : (new r : Region) (rs : Actor) → list_any (overlaps b new.start new.pages) rs ≡ false → at rs ≡ Some r → overlaps b new.start new.pages r ≡ false
  fits_each new r [] none e = absurd (cc e)
  fits_each new r (x ∷ xs) none e = go (overlaps b new.start new.pages x) refl none (held x) e (λ n. fits_each new r xs n)
    where
      go : (d : Bool) → overlaps b new.start new.pages x ≡ d → (d || list_any (overlaps b new.start new.pages) xs) ≡ false → (c : Bool) → cond c (Some x) (at xs) ≡ Some r
          → (list_any (overlaps b new.start new.pages) xs ≡ false → at xs ≡ Some r → overlaps b new.start new.pages r ≡ false) → overlaps b new.start new.pages r ≡ false
      go true is n c f rest = absurd (cc n)
      go false is n true f rest = let same : x ≡ r = cc f in subst (λ (y : Region). overlaps b new.start new.pages y ≡ false) same is
      go false is n false f rest = rest n f

  -- one that shares no address with the others
  pub inserted_stays : (new : Region) (rs : Actor) → list_any (overlaps b new.start new.pages) rs ≡ false → StaysAt b address writable rs (insert_region new rs)
  inserted_stays new rs none r found =
      (r, inserted new rs (apart new r (fits_each new r rs none found) (found_holds rs r found)) ∙ found, shows_same b address writable r)

  -- A region that becomes others

  -- what it shows one of them shows; where it doesn't hold the address none does
  pub record Becomes (r : Region) (new : List Region) : Type 0 where
    pub holding : held r ≡ true → (q : Region) × (at new ≡ Some q) × Shows b address writable r q
    pub other : held r ≡ false → at new ≡ None

  found_first : (new xs : Actor) (q : Region) → at new ≡ Some q → at (new ++ xs) ≡ Some q
  found_first [] xs q e = absurd (cc e)
  found_first (x ∷ new) xs q e = go (held x) e (found_first new xs q)
    where
      go : (c : Bool) → cond c (Some x) (at new) ≡ Some q → (at new ≡ Some q → at (new ++ xs) ≡ Some q) → cond c (Some x) (at (new ++ xs)) ≡ Some q
      go true f rest = f
      go false f rest = rest f

  found_behind : (new xs : Actor) → at new ≡ None → at (new ++ xs) ≡ at xs
  found_behind [] xs e = refl
  found_behind (x ∷ new) xs e = go (held x) e (found_behind new xs)
    where
      go : (c : Bool) → cond c (Some x) (at new) ≡ None → (at new ≡ None → at (new ++ xs) ≡ at xs) → cond c (Some x) (at (new ++ xs)) ≡ at xs
      go true f rest = absurd (cc f)
      go false f rest = rest f

  pub replaced_stays : (n : ℕ) (by : Region → List Region) (r : Region) (rs : Actor) → region_among n rs ≡ Some r → Becomes r (by r) → StaysAt b address writable rs (replace_region n by rs)
  replaced_stays n by r [] among new y found = absurd (cc among)
  replaced_stays n by r (x ∷ xs) among new y found = go (x.number == n) among (held x) refl found (λ f g. replaced_stays n by r xs f new y g)
    where
      go : (c : Bool) → cond c (Some x) (region_among n xs) ≡ Some r → (d : Bool) → held x ≡ d → cond d (Some x) (at xs) ≡ Some y
          → (region_among n xs ≡ Some r → at xs ≡ Some y → (q : Region) × (at (replace_region n by xs) ≡ Some q) × Shows b address writable y q)
          → (q : Region) × (at (cond c (by x ++ xs) (x ∷ replace_region n by xs)) ≡ Some q) × Shows b address writable y q
      go true f true k g rest =
          let same : x ≡ r = cc f in
          let own : x ≡ y = cc g in
          let h = new.holding (ap held (sym same) ∙ k) in
          (h.0, ap (λ (z : Region). at (by z ++ xs)) same ∙ found_first (by r) xs h.0 h.1, subst (λ (z : Region). Shows b address writable z h.0) (sym same ∙ own) h.2)
      go true f false k g rest =
          let same : x ≡ r = cc f in
          (y, ap (λ (z : Region). at (by z ++ xs)) same ∙ found_behind (by r) xs (new.other (ap held (sym same) ∙ k)) ∙ g, shows_same b address writable y)
      go false f true k g rest = (y, met x (replace_region n by xs) k ∙ g, shows_same b address writable y)
      go false f false k g rest = (let h = rest f g in (h.0, passed x (replace_region n by xs) k ∙ h.1, h.2))

  -- A region that goes

  -- the regions with this number go, none of which is the one that holds the address
  pub gone_stays : (n : ℕ) (rs : Actor) → ((r : Region) → at rs ≡ Some r → (r.number == n) ≡ false) → StaysAt b address writable rs (without_region n rs)
  gone_stays n [] other r found = absurd (cc found)
  gone_stays n (x ∷ xs) other r found = go (held x) refl found (x.number == n) refl (λ away f. gone_stays n xs (λ q at_q. other q (passed x xs away ∙ at_q)) r f)
    where
      go : (d : Bool) → held x ≡ d → cond d (Some x) (at xs) ≡ Some r → (c : Bool) → (x.number == n) ≡ c
          → (held x ≡ false → at xs ≡ Some r → (q : Region) × (at (without_region n xs) ≡ Some q) × Shows b address writable r q)
          → (q : Region) × (at (cond (not c) (x ∷ without_region n xs) (without_region n xs)) ≡ Some q) × Shows b address writable r q
      go true k g true m rest = absurd (let away = other x (met x xs k) in cc (away, m))
      go true k g false m rest = (r, met x (without_region n xs) k ∙ g, shows_same b address writable r)
      go false k g true m rest = rest k g
      go false k g false m rest = (let h = rest k g in (h.0, passed x (without_region n xs) k ∙ h.1, h.2))
