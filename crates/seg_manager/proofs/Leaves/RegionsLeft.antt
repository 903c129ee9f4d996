-- The regions that are noted once an actor ended or a region was taken away.
use Rattle.std.proofs.Common.{◌≡◌, ◌≢◌, ◌==◌, ℕ, zero, suc, ◌+◌, ◌-◌, ◌<◌, Bool, true, false, cond, List, [], ◌∷◌, ◌++◌, filter, length, map, set, Option, Some, None, refl, sym, ap, ◌∙◌, arith}
use Rattle.std.specs.Prelude.{Ok, Err, not, option_map, slice_get, slice_set}
use Rattle.std.specs.List.{AllByRecursion}
use Rattle.std.proofs.lemmas.Bool.{eq-eqb, ne_eqb}
use Rattle.std.proofs.lemmas.List.{map-append}
use Rattle.vm_ids.specs.declared.refusal.Refusal.TheVariants as refusals
use Rattle.vm_model.specs.Regions.{region_with}
use Rattle.vm_model.proofs.Parts.Lists.{numbered_place}
use Rattle.vm_model.proofs.Parts.Pairs.{each_append}
use Rattle.interface_callers.proofs.Words.{Actor, Machine, Region, numbered, without_region}
use Rattle.seg_manager.specs.Inner.{leaves, staying}
use Rattle.seg_manager.specs.Keeping.{mapped_at, mapped_by}
use Rattle.seg_manager.specs.Tying.{Noted, noted_at, noted_of, noted_region, noted_regions}
use Rattle.seg_manager.specs.declared.tables.Leaving.{Leaving}
use Rattle.seg_manager.specs.declared.tables.Leaving.TheVariants as leavings
use Rattle.seg_manager.specs.declared.tables.Mapped.{Mapped}
use Rattle.seg_manager.proofs.Lookup.Entries.{filter_all, filter_append, map_filter}
use Rattle.seg_manager.proofs.Leaves.LeavingRows.{Then, actors_then, caches_of, if_some}

-- The regions that are noted

abbrev leaves_noted : Leaving → Noted → Bool
leaves_noted (leavings.Actor actor) x = x.actor == actor.0
leaves_noted (leavings.Region region) x = x.region == region.0

leaves_is : (l : Leaving) (x : Mapped) → leaves l x ≡ leaves_noted l (noted_of x)
leaves_is (leavings.Actor actor) x = refl
leaves_is (leavings.Region region) x = refl

filter_is : {A : Type 0} (p q : A → Bool) → ((x : A) → p x ≡ q x) → (xs : List A) → filter p xs ≡ filter q xs
filter_is p q e [] = refl
filter_is p q e (x ∷ xs) = λ i. cond (e x i) (x ∷ filter_is p q e xs i) (filter_is p q e xs i)

map_is : {A B C : Type 0} (f : B → C) (g : A → B) (xs : List A) → map f (map g xs) ≡ map (λ x. f (g x)) xs
map_is f g [] = refl
map_is f g (x ∷ xs) = ap (λ ys. f (g x) ∷ ys) (map_is f g xs)

module _ (t : Noted → Bool) where
  filter_noted : (k : ℕ) (a : Option Actor) → filter t (noted_at k a) ≡ noted_at k (option_map (filter (λ (r : Region). t (noted_region k r))) a)
  filter_noted k None = refl
  filter_noted k (Some rs) = sym (map_filter t (noted_region k) rs)

  -- the caches that they map
  mapped_here : (k : ℕ) (a : Option Actor) → map (λ (x : Noted). x.cache) (noted_at k (option_map (filter (λ (r : Region). t (noted_region k r))) a)) ≡ mapped_at (λ n r. t (noted_region n r)) k a
  mapped_here k None = refl
  mapped_here k (Some rs) = map_is (λ (x : Noted). x.cache) (noted_region k) (filter (λ (r : Region). t (noted_region k r)) rs)

  mapped_noted : (k : ℕ) (actors : List (Option Actor)) → map (λ (x : Noted). x.cache) (filter t (noted_regions k actors)) ≡ mapped_by (λ n r. t (noted_region n r)) k actors
  mapped_noted k [] = refl
  mapped_noted k (a ∷ actors) =
      ap (map (λ (x : Noted). x.cache)) (filter_append t (noted_at k a) (noted_regions (k + 1) actors))
      ∙ map-append (λ (x : Noted). x.cache) (filter t (noted_at k a)) (filter t (noted_regions (k + 1) actors))
      ∙ (λ i. (ap (map (λ (x : Noted). x.cache)) (filter_noted k a) ∙ mapped_here k a) i ++ mapped_noted (k + 1) actors i)

pub mapped_left : (l : Leaving) (m : Machine) (rs : List Mapped) → map noted_of rs ≡ noted_regions 1 m.actors → map (λ (x : Mapped). x.cache.0) (filter (leaves l) rs) ≡ caches_of l m
mapped_left l m rs e =
    ap (map (λ (x : Mapped). x.cache.0)) (filter_is (leaves l) (λ (x : Mapped). leaves_noted l (noted_of x)) (leaves_is l) rs)
    ∙ sym (map_is (λ (x : Noted). x.cache) noted_of (filter (λ (x : Mapped). leaves_noted l (noted_of x)) rs))
    ∙ ap (map (λ (x : Noted). x.cache)) (map_filter (leaves_noted l) noted_of rs ∙ ap (filter (leaves_noted l)) e)
    ∙ mapped_noted (leaves_noted l) 1 m.actors
    ∙ by l
  where
    by : (l : Leaving) → mapped_by (λ n r. leaves_noted l (noted_region n r)) 1 m.actors ≡ caches_of l m
    by (leavings.Actor actor) = refl
    by (leavings.Region region) = refl

-- Those of one actor go.
abbrev of_others : ℕ → Noted → Bool
of_others n x = not (x.actor == n)

others_pass : (k n : ℕ) (a : Option Actor) → k ≢ n → AllByRecursion (λ (x : Noted). of_others n x ≡ true) (noted_at k a)
others_pass k n None apart = tt
others_pass k n (Some rs) apart = by rs
  where
    by : (rs : Actor) → AllByRecursion (λ (x : Noted). of_others n x ≡ true) (map (noted_region k) rs)
    by [] = tt
    by (r ∷ rs) = (ap not (ne_eqb k n apart), by rs)

others_behind : (k n : ℕ) (actors : List (Option Actor)) → n < k → AllByRecursion (λ (x : Noted). of_others n x ≡ true) (noted_regions k actors)
others_behind k n [] less = tt
others_behind k n (a ∷ actors) less = each_append (λ (x : Noted). of_others n x ≡ true) (noted_at k a) (noted_regions (k + 1) actors) (others_pass k n a (λ e. absurd (omega (arith, less, e)))) (others_behind (k + 1) n actors (omega (arith, less)))

all_go : (k n : ℕ) (a : Option Actor) → k ≡ n → filter (of_others n) (noted_at k a) ≡ []
all_go k n None e = refl
all_go k n (Some rs) e = by rs
  where
    by : (rs : Actor) → filter (of_others n) (map (noted_region k) rs) ≡ []
    by [] = refl
    by (r ∷ rs) = ap (λ (b : Bool). cond (not b) (noted_region k r ∷ filter (of_others n) (map (noted_region k) rs)) (filter (of_others n) (map (noted_region k) rs))) (eq-eqb k n e) ∙ by rs

actor_gone : (k : ℕ) (actors : List (Option Actor)) (i n : ℕ) → n ≡ k + i → i < length actors → noted_regions k (set actors i None) ≡ filter (of_others n) (noted_regions k actors)
actor_gone k [] i n e less = absurd (omega (arith, less))
actor_gone k (a ∷ actors) zero n e less =
    sym (filter_append (of_others n) (noted_at k a) (noted_regions (k + 1) actors)
    ∙ (λ j. all_go k n a (let s : k ≡ n = omega (arith, e) in s) j ++ filter_all (of_others n) (noted_regions (k + 1) actors) (others_behind (k + 1) n actors (omega (arith, e))) j))
actor_gone k (a ∷ actors) (suc i) n e less =
    ap (λ xs. noted_at k a ++ xs) (actor_gone (k + 1) actors i n (omega (arith, e)) (omega (arith, less)))
    ∙ sym (filter_append (of_others n) (noted_at k a) (noted_regions (k + 1) actors)
    ∙ ap (λ xs. xs ++ filter (of_others n) (noted_regions (k + 1) actors)) (filter_all (of_others n) (noted_at k a) (others_pass k n a (λ s. absurd (omega (arith, e, s))))))

-- One region goes.
region_gone : (k n : ℕ) (actors : List (Option Actor)) → noted_regions k (map (option_map (without_region n)) actors) ≡ filter (λ (x : Noted). not (x.region == n)) (noted_regions k actors)
region_gone k n [] = refl
region_gone k n (a ∷ actors) =
    (λ i. sym (filter_noted (λ (x : Noted). not (x.region == n)) k a) i ++ region_gone (k + 1) n actors i)
    ∙ sym (filter_append (λ (x : Noted). not (x.region == n)) (noted_at k a) (noted_regions (k + 1) actors))

regions_stay : (l : Leaving) (actors now : List (Option Actor)) → actors_then l actors ≡ Ok now → noted_regions 1 now ≡ filter (λ (x : Noted). not (leaves_noted l x)) (noted_regions 1 actors)
regions_stay (leavings.Actor actor) actors now e = by (numbered actors actor.0) refl e
  where
    by : (o : Option Actor) → numbered actors actor.0 ≡ o → if_some o refusals.NoActor (λ rs. Ok (slice_set actors (actor.0 - 1) None)) ≡ Ok now → noted_regions 1 now ≡ filter (of_others actor.0) (noted_regions 1 actors)
    by None is e = absurd (cc e)
    by (Some rs) is e =
        let place = numbered_place actors actor.0 rs is in
        let same : slice_set actors (actor.0 - 1) None ≡ now = cc e in
        ap (noted_regions 1) (sym same) ∙ actor_gone 1 actors (actor.0 - 1) actor.0 (omega (arith, place.0)) (there actors (actor.0 - 1) (Some rs) place.1)
      where
        there : {A : Type 0} (xs : List A) (i : ℕ) (x : A) → slice_get xs i ≡ Some x → i < length xs
        there [] i x e = absurd (cc e)
        there (y ∷ ys) zero x e = omega arith
        there (y ∷ ys) (suc i) x e = omega (arith, there ys i x e)
regions_stay (leavings.Region region) actors now e = by (region_with region.0 actors) e
  where
    by_lock : (b : Bool) → (let r : Then = cond b (Err refusals.Locked) (Ok (map (option_map (without_region region.0)) actors)) in r) ≡ Ok now → noted_regions 1 now ≡ filter (λ (x : Noted). not (x.region == region.0)) (noted_regions 1 actors)
    by_lock true e = absurd (cc e)
    by_lock false e = let same : map (option_map (without_region region.0)) actors ≡ now = cc e in ap (noted_regions 1) (sym same) ∙ region_gone 1 region.0 actors

    by : (o : Option Region) → if_some o refusals.NoRegion (λ r. cond r.locked (Err refusals.Locked) (Ok (map (option_map (without_region region.0)) actors))) ≡ Ok now → noted_regions 1 now ≡ filter (λ (x : Noted). not (x.region == region.0)) (noted_regions 1 actors)
    by None e = absurd (cc e)
    by (Some r) e = by_lock r.locked e

pub stay_noted : (l : Leaving) (actors now : List (Option Actor)) (rs : List Mapped) → actors_then l actors ≡ Ok now → map noted_of rs ≡ noted_regions 1 actors → map noted_of (staying l rs) ≡ noted_regions 1 now
stay_noted l actors now rs by e =
    ap (map noted_of) (filter_is (λ (x : Mapped). not (leaves l x)) (λ (x : Mapped). not (leaves_noted l (noted_of x))) (λ x. ap not (leaves_is l x)) rs)
    ∙ map_filter (λ (x : Noted). not (leaves_noted l x)) noted_of rs
    ∙ ap (filter (λ (x : Noted). not (leaves_noted l x))) e
    ∙ sym (regions_stay l actors now by)
