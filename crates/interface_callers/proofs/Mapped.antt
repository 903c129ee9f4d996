-- Which caches the regions of actors map.
use Rattle.std.proofs.Common.{◌≡◌, ◌==◌, ℕ, ◌+◌, ◌-◌, Bool, true, false, cond, List, [], ◌∷◌, ◌++◌, length, set, Option, Some, None, refl, sym, ap, subst, ◌∙◌, zero, suc}
use Rattle.std.specs.Prelude.{◌||◌, nat_lt, Ok, Err, slice_get}
use Rattle.std.specs.List.{list_any}
use Rattle.vm_ids.specs.declared.refusal.Refusal.TheVariants.{Crosses}
use Rattle.vm_model.proofs.Parts.Lists.{numbered_place}
use Rattle.vm_ids.proofs.Places.{same_number}
use Rattle.interface_callers.proofs.Words.{Actor, Machine, Place, Region, actor_of, holds, insert_region, is_mapped, maps_in, place, place_in, place_of_actor, placed, region_at}
use Rattle.interface_callers.proofs.Lists.{any_at}
use Rattle.std.proofs.lemmas.Bool.{or_right}

-- What is accessed is mapped

-- the first region is the one, or another is
first_maps : (here : Bool) (x r : Region) (rs : Actor) (o : Option Region) → cond here (Some x) o ≡ Some r → (o ≡ Some r → list_any (λ (y : Region). y.cache == r.cache) rs ≡ true) → list_any (λ (y : Region). y.cache == r.cache) (x ∷ rs) ≡ true
first_maps true x r rs o e others =
    let same : x ≡ r = cc e in
    ap (λ (b : Bool). b || list_any (λ (y : Region). y.cache == r.cache) rs) (ap (λ (y : Region). y.cache == r.cache) same ∙ same_number r.cache)
first_maps false x r rs o e others = or_right (x.cache == r.cache) (list_any (λ (y : Region). y.cache == r.cache) rs) (others e)

region_maps : (page_bytes address : ℕ) (rs : Actor) (r : Region) → region_at page_bytes address rs ≡ Some r → list_any (λ (x : Region). x.cache == r.cache) rs ≡ true
region_maps page_bytes address [] r e = absurd (cc e)
region_maps page_bytes address (x ∷ rs) r e = first_maps (holds page_bytes address x) x r rs (region_at page_bytes address rs) e (region_maps page_bytes address rs r)

placed_at : (page_bytes address : ℕ) (rs : Actor) (o : Option Region) (p : Place) → region_at page_bytes address rs ≡ o → placed page_bytes address o ≡ Ok p → list_any (λ (x : Region). x.cache == p.region.cache) rs ≡ true
placed_at page_bytes address rs None p is e = absurd (cc e)
placed_at page_bytes address rs (Some r) p is e =
    let region : r ≡ p.region = ap (λ (q : Place). q.region) (let s : place_in page_bytes address r ≡ p = cc e in s) in
    subst (λ (x : Region). list_any (λ (y : Region). y.cache == x.cache) rs ≡ true) region (region_maps page_bytes address rs r is)

among_at : (page_bytes : ℕ) (rs : Actor) (address : ℕ) (crosses : Bool) (p : Place) → cond crosses (Err Crosses) (placed page_bytes address (region_at page_bytes address rs)) ≡ Ok p
    → list_any (λ (x : Region). x.cache == p.region.cache) rs ≡ true
among_at page_bytes rs address true p e = absurd (cc e)
among_at page_bytes rs address false p e = placed_at page_bytes address rs _ p refl e

actor_maps : (m : Machine) (actor address length : ℕ) (o : Option Actor) (p : Place) → actor_of m actor ≡ o → place_of_actor m.page_bytes o address length ≡ Ok p → is_mapped m p.region.cache ≡ true
actor_maps m actor address length None p is e = absurd (cc e)
actor_maps m actor address length (Some rs) p is e =
    any_at (maps_in p.region.cache) m.actors (actor - 1) (Some rs) (numbered_place m.actors actor rs is).1 (among_at m.page_bytes rs address _ p e)

pub place_maps : (m : Machine) (actor address length : ℕ) (p : Place) → place m actor address length ≡ Ok p → is_mapped m p.region.cache ≡ true
place_maps m actor address length p e = actor_maps m actor address length (actor_of m actor) p refl e

-- an actor without regions maps nothing
pub actor_mapped : (actors : List (Option Actor)) (k : ℕ) → list_any (maps_in k) (actors ++ Some [] ∷ []) ≡ list_any (maps_in k) actors
actor_mapped [] k = refl
actor_mapped (a ∷ actors) k = ap (λ (b : Bool). maps_in k a || b) (actor_mapped actors k)

-- What is mapped then

or_swap : (a b c : Bool) → (a || (b || c)) ≡ (b || (a || c))
or_swap true true c = refl
or_swap true false c = refl
or_swap false b c = refl

or_first : (a b c : Bool) → ((a || b) || c) ≡ (a || (b || c))
or_first true b c = refl
or_first false b c = refl

any_inserted : (q : ℕ) (r : Region) (rs : Actor) → list_any (λ (x : Region). x.cache == q) (insert_region r rs) ≡ ((r.cache == q) || list_any (λ (x : Region). x.cache == q) rs)
any_inserted q r [] = refl
any_inserted q r (x ∷ xs) = by (nat_lt r.start x.start) (any_inserted q r xs)
  where
    by : (b : Bool) → list_any (λ (x : Region). x.cache == q) (insert_region r xs) ≡ ((r.cache == q) || list_any (λ (x : Region). x.cache == q) xs)
        → list_any (λ (x : Region). x.cache == q) (cond b (r ∷ x ∷ xs) (x ∷ insert_region r xs)) ≡ ((r.cache == q) || list_any (λ (x : Region). x.cache == q) (x ∷ xs))
    by true e = refl
    by false e = ap (λ (b : Bool). (x.cache == q) || b) e ∙ or_swap (x.cache == q) (r.cache == q) (list_any (λ (x : Region). x.cache == q) xs)

pub any_set : {A : Type 0} (p : A → Bool) (b : Bool) (xs : List A) (i : ℕ) (u v : A) → slice_get xs i ≡ Some u → p v ≡ (b || p u) → list_any p (set xs i v) ≡ (b || list_any p xs)
any_set p b [] i u v e f = absurd (cc e)
any_set {A} p b (x ∷ xs) zero u v e f =
    let is : x ≡ u = cc e in
    ap (λ (c : Bool). c || list_any p xs) (f ∙ ap (λ (w : A). b || p w) (sym is)) ∙ or_first b (p x) (list_any p xs)
any_set p b (x ∷ xs) (suc i) u v e f = ap (λ (c : Bool). p x || c) (any_set p b xs i u v e f) ∙ or_swap (p x) b (list_any p xs)

-- the cache that it maps, and what was mapped before
pub maps_then : (actors : List (Option Actor)) (i : ℕ) (rs : Actor) (r : Region) → slice_get actors i ≡ Some (Some rs) → (q : ℕ) → list_any (maps_in q) (set actors i (Some (insert_region r rs))) ≡ ((r.cache == q) || list_any (maps_in q) actors)
maps_then actors i rs r here q = any_set (maps_in q) (r.cache == q) actors i (Some rs) (Some (insert_region r rs)) here (any_inserted q r rs)
