-- Regions that lie in live caches, as caches and regions come and go.
use Rattle.std.proofs.Common.{◌≡◌, ◌≢◌, ◌==◌, ℕ, ◌+◌, ◌-◌, ◌≤◌, Bool, true, false, cond, not, List, [], ◌∷◌, ◌++◌, length, set, map, Option, Some, None, refl, sym, ap, subst, ◌∙◌, arith, inl, inr}
use Rattle.std.specs.Prelude.{◌||◌, nat_lt, is_some, option_map, All}
use Rattle.std.specs.List.{list_any}
use Rattle.std.specs.Option.{option_or}
use Rattle.std.proofs.lemmas.Bool.Decides.{nat_tests}
use Rattle.std.proofs.lemmas.List.Elements.{All-append, All-nil, All-cons, All-head, All-tail, All-weaker}
use Rattle.vm_model.specs.Machine.{Machine, Cache, Page, Region, Actor, cache_of, numbered}
use Rattle.vm_model.specs.Answering.{Answered, insert_region, maps_in, put_cache, put_pages, without_region}
use Rattle.vm_model.specs.Regions.{region_among, region_with, replace_in, replace_region}
use Rattle.vm_model.specs.Laws.{IsLaid, LiesIn, LieIn}
use Rattle.vm_model.proofs.Parts.Lists.{length-overwrite, numbered-other, numbered-set}
use Rattle.vm_model.proofs.Machines.Sound.{numbered-push}
use Rattle.vm_model.proofs.Machines.Taking.{All-filter}

abbrev pub Lie : List (Option Cache) → List (Option Actor) → Type 0
Lie cs xs = All (LieIn cs) xs

-- where each region still lies, all do
pub lie_still : (cs ds : List (Option Cache)) → ((r : Region) → LiesIn cs r → LiesIn ds r) → (xs : List (Option Actor)) → Lie cs xs → Lie ds xs
lie_still cs ds still xs h = All-weaker (LieIn cs) (LieIn ds) actor xs h
  where
    actor : (a : Option Actor) → LieIn cs a → LieIn ds a
    actor None p = tt
    actor (Some rs) p = All-weaker (LiesIn cs) (LiesIn ds) still rs p

-- a cache is put in place of another with as many pages
region_put : (cs : List (Option Cache)) (n : ℕ) (c d : Cache) → numbered cs n ≡ Some c → length d.pages ≡ length c.pages → (r : Region) → LiesIn cs r → LiesIn (set cs (n - 1) (Some d)) r
region_put cs n c d there same r p = elim (numbered-set cs n r.cache c d p.cache there p.there) [
  | inl e ↦ record { cache = p.cache; there = e; within = p.within }
  | inr e ↦ record { cache = d; there = e.1; within = omega (arith, p.within, same, ap (λ (x : Cache). length x.pages) e.0) }
]

pub put_laid : (m : Machine) (n : ℕ) (c d : Cache) → cache_of m n ≡ Some c → length d.pages ≡ length c.pages → IsLaid m → IsLaid (put_cache m n d)
put_laid m n c d there same P = record {
  some = P.some;
  lie = lie_still m.caches (set m.caches (n - 1) (Some d)) (region_put m.caches n c d there same) m.actors P.lie;
}

-- pages are put in a cache
pub pages_laid : (m : Machine) (n first : ℕ) (part : List Page) (c : Cache) → cache_of m n ≡ Some c → first + length part ≤ length c.pages → IsLaid m → IsLaid (put_cache m n (put_pages first part c))
pages_laid m n first part c there fits P = put_laid m n c (put_pages first part c) there (length-overwrite first part c.pages fits) P

-- a cache is added
pub more_laid : (m : Machine) (c : Cache) → IsLaid m → IsLaid (record m { caches = m.caches ++ Some c ∷ [] })
more_laid m c P = record {
  some = P.some;
  lie = lie_still m.caches (m.caches ++ Some c ∷ []) (λ r p. record { cache = p.cache; there = numbered-push m.caches (Some c) r.cache p.cache p.there; within = p.within }) m.actors P.lie;
}

-- a cache that goes, which no region maps
pub or_parts : (a b : Bool) → (a || b) ≡ false → (a ≡ false) × (b ≡ false)
or_parts true b e = absurd (cc e)
or_parts false b e = (refl, e)

other_number : (n k : ℕ) → (k == n) ≡ false → k ≢ n
other_number n k e same = grind (arith, nat_tests)

module _ (cs : List (Option Cache)) (n : ℕ) (some : 1 ≤ n) where
  regions_gone : (rs : List Region) → list_any (λ (r : Region). r.cache == n) rs ≡ false → All (LiesIn cs) rs → All (LiesIn (set cs (n - 1) None)) rs
  regions_gone [] none p = All-nil (LiesIn (set cs (n - 1) None))
  regions_gone (r ∷ rs) none p =
      let each = or_parts (r.cache == n) (list_any (λ (r : Region). r.cache == n) rs) none in
      let old = All-head (LiesIn cs) r rs p in
      All-cons (LiesIn (set cs (n - 1) None)) r rs (record { cache = old.cache; there = numbered-other cs n r.cache None old.cache some (other_number n r.cache each.0) old.there; within = old.within }) (regions_gone rs each.1 (All-tail (LiesIn cs) r rs p))

  pub actors_gone : (xs : List (Option Actor)) → list_any (maps_in n) xs ≡ false → Lie cs xs → Lie (set cs (n - 1) None) xs
  actors_gone [] none p = All-nil (LieIn (set cs (n - 1) None))
  actors_gone (x ∷ xs) none p =
      let each = or_parts (maps_in n x) (list_any (maps_in n) xs) none in
      All-cons (LieIn (set cs (n - 1) None)) x xs (one x each.0 (All-head (LieIn cs) x xs p)) (actors_gone xs each.1 (All-tail (LieIn cs) x xs p))
    where
      one : (a : Option Actor) → maps_in n a ≡ false → LieIn cs a → LieIn (set cs (n - 1) None) a
      one None e q = tt
      one (Some rs) e q = regions_gone rs e q

-- regions of an actor
pub insert_all : (P : Region → Type 0) (r : Region) (rs : List Region) → P r → All P rs → All P (insert_region r rs)
insert_all P r [] p h = All-cons P r [] p h
insert_all P r (x ∷ xs) p h = go (nat_lt r.start x.start) (insert_all P r xs p (All-tail P x xs h))
  where
    go : (b : Bool) → All P (insert_region r xs) → All P (cond b (r ∷ x ∷ xs) (x ∷ insert_region r xs))
    go true rest = All-cons P r (x ∷ xs) p h
    go false rest = All-cons P x (insert_region r xs) (All-head P x xs h) rest

pub unmapped : (cs : List (Option Cache)) (n : ℕ) (xs : List (Option Actor)) → Lie cs xs → Lie cs (map (option_map (without_region n)) xs)
unmapped cs n [] h = All-nil (LieIn cs)
unmapped cs n (x ∷ xs) h = All-cons (LieIn cs) (option_map (without_region n) x) (map (option_map (without_region n)) xs) (one x (All-head (LieIn cs) x xs h)) (unmapped cs n xs (All-tail (LieIn cs) x xs h))
  where
    one : (a : Option Actor) → LieIn cs a → LieIn cs (option_map (without_region n) a)
    one None p = tt
    one (Some rs) p = All-filter (LiesIn cs) (λ (r : Region). not (r.number == n)) rs p

-- the region with a number is one of them
among_all : (P : Region → Type 0) (n : ℕ) (r : Region) (rs : List Region) → region_among n rs ≡ Some r → All P rs → P r
among_all P n r [] e h = absurd (cc e)
among_all P n r (x ∷ xs) e h = go (x.number == n) e (λ found. among_all P n r xs found (All-tail P x xs h))
  where
    go : (b : Bool) → cond b (Some x) (region_among n xs) ≡ Some r → (region_among n xs ≡ Some r → P r) → P r
    go true found rest = let same : x ≡ r = cc found in subst P same (All-head P x xs h)
    go false found rest = rest found

-- the region with a number lies in a live cache
pub region_lies : (cs : List (Option Cache)) (n : ℕ) (r : Region) (xs : List (Option Actor)) → region_with n xs ≡ Some r → Lie cs xs → LiesIn cs r
region_lies cs n r [] e h = absurd (cc e)
region_lies cs n r (None ∷ xs) e h = region_lies cs n r xs e (All-tail (LieIn cs) None xs h)
region_lies cs n r (Some rs ∷ xs) e h = go (region_among n rs) refl e (λ found. region_lies cs n r xs found (All-tail (LieIn cs) (Some rs) xs h))
  where
    go : (o : Option Region) → region_among n rs ≡ o → option_or o (region_with n xs) ≡ Some r → (region_with n xs ≡ Some r → LiesIn cs r) → LiesIn cs r
    go None here found rest = rest found
    go (Some x) here found rest = let same : x ≡ r = cc found in among_all (LiesIn cs) n r rs (here ∙ ap (λ (y : Region). Some y) same) (All-head (LieIn cs) (Some rs) xs h)

-- one region becomes others
replaced_all : (P : Region → Type 0) (n : ℕ) (by : Region → List Region) (r : Region) (rs : List Region) → region_among n rs ≡ Some r → All P (by r) → All P rs → All P (replace_region n by rs)
replaced_all P n by r [] e new h = absurd (cc e)
replaced_all P n by r (x ∷ xs) e new h = go (x.number == n) e (λ found. replaced_all P n by r xs found new (All-tail P x xs h))
  where
    go : (b : Bool) → cond b (Some x) (region_among n xs) ≡ Some r → (region_among n xs ≡ Some r → All P (replace_region n by xs)) → All P (cond b (by x ++ xs) (x ∷ replace_region n by xs))
    go true found rest = let same : x ≡ r = cc found in All-append P (by x) xs (subst (λ (y : Region). All P (by y)) (sym same) new) (All-tail P x xs h)
    go false found rest = All-cons P x (replace_region n by xs) (All-head P x xs h) (rest found)

pub changed_lie : (cs : List (Option Cache)) (n : ℕ) (by : Region → List Region) (r : Region) (xs : List (Option Actor)) → region_with n xs ≡ Some r → (LiesIn cs r → All (LiesIn cs) (by r)) → Lie cs xs → Lie cs (replace_in n by xs)
changed_lie cs n by r [] e new h = absurd (cc e)
changed_lie cs n by r (None ∷ xs) e new h = All-cons (LieIn cs) None (replace_in n by xs) tt (changed_lie cs n by r xs e new (All-tail (LieIn cs) None xs h))
changed_lie cs n by r (Some rs ∷ xs) e new h = go (region_among n rs) refl e (λ found. changed_lie cs n by r xs found new (All-tail (LieIn cs) (Some rs) xs h))
  where
    go : (o : Option Region) → region_among n rs ≡ o → option_or o (region_with n xs) ≡ Some r → (region_with n xs ≡ Some r → Lie cs (replace_in n by xs)) → Lie cs (cond (is_some o) (Some (replace_region n by rs) ∷ xs) (Some rs ∷ replace_in n by xs))
    go None here found rest = All-cons (LieIn cs) (Some rs) (replace_in n by xs) (All-head (LieIn cs) (Some rs) xs h) (rest found)
    go (Some x) here found rest =
        let same : x ≡ r = cc found in
        let all : All (LiesIn cs) rs = All-head (LieIn cs) (Some rs) xs h in
        let lies : LiesIn cs r = among_all (LiesIn cs) n r rs (here ∙ ap (λ (y : Region). Some y) same) all in
        All-cons (LieIn cs) (Some (replace_region n by rs)) xs (replaced_all (LiesIn cs) n by r rs (here ∙ ap (λ (y : Region). Some y) same) (new lies) all) (All-tail (LieIn cs) (Some rs) xs h)

pub neither : (a b x y : ℕ) → (nat_lt a b || nat_lt x y) ≡ false → (b ≤ a) × (y ≤ x)
neither a b x y e = (grind (arith, nat_tests), grind (arith, nat_tests))

pub not_past : (a b : ℕ) → nat_lt a b ≡ false → b ≤ a
not_past a b e = grind (arith, nat_tests)

-- each row leaves the regions in live caches
abbrev pub RowLaid : Answered → Type 0
RowLaid a = IsLaid a.next
