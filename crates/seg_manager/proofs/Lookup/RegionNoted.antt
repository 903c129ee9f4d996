-- A region is noted, at its place among the others.
use Rattle.std.proofs.Common.{◌≡◌, ◌==◌, ℕ, zero, suc, ◌+◌, ◌<◌, Bool, true, false, cond, List, [], ◌∷◌, ◌++◌, map, set, Option, Some, None, refl, sym, ap, ◌∙◌, arith}
use Rattle.std.specs.Prelude.{◌||◌, ◌&&◌, insert, nat_lt, slice_get}
use Rattle.std.proofs.lemmas.Bool.{eq-eqb, ne_eqb}
use Rattle.std.proofs.lemmas.Bool.Decides.{nat_tests}
use Rattle.interface_callers.proofs.Words.{Actor, Region, insert_region}
use Rattle.seg_manager.specs.Inner.{comes_before, place_from}
use Rattle.seg_manager.specs.Tying.{Noted, noted_at, noted_of, noted_region, noted_regions}
use Rattle.seg_manager.specs.declared.tables.Mapped.{Mapped}

-- it stands before the other, and before the first that it stands before
abbrev is_before : Noted → Noted → Bool
is_before x y = nat_lt x.actor y.actor || (x.actor == y.actor && nat_lt x.address y.address)

abbrev pub put_noted : Noted → List Noted → List Noted
put_noted x [] = x ∷ []
put_noted x (y ∷ ys) = cond (is_before x y) (x ∷ y ∷ ys) (y ∷ put_noted x ys)

place_behind : (x : Mapped) (i : ℕ) (rs : List Mapped) → place_from x (i + 1) rs ≡ suc (place_from x i rs)
place_behind x i [] = omega arith
place_behind x i (y ∷ ys) = by (comes_before x y) (place_behind x (i + 1) ys)
  where
    by : (b : Bool) → place_from x (i + 1 + 1) ys ≡ suc (place_from x (i + 1) ys) → cond b (i + 1) (place_from x (i + 1 + 1) ys) ≡ suc (cond b i (place_from x (i + 1) ys))
    by true e = omega arith
    by false e = e

-- it is inserted there
pub noted_insert : (x : Mapped) (rs : List Mapped) → map noted_of (insert rs (place_from x 0 rs) x) ≡ put_noted (noted_of x) (map noted_of rs)
noted_insert x [] = refl
noted_insert x (y ∷ ys) = by (comes_before x y) (ap (λ (i : ℕ). map noted_of (insert (y ∷ ys) i x)) (place_behind x 0 ys) ∙ ap (λ xs. noted_of y ∷ xs) (noted_insert x ys))
  where
    by : (b : Bool) → map noted_of (insert (y ∷ ys) (place_from x (0 + 1) ys) x) ≡ noted_of y ∷ put_noted (noted_of x) (map noted_of ys)
        → map noted_of (insert (y ∷ ys) (cond b 0 (place_from x (0 + 1) ys)) x) ≡ cond b (noted_of x ∷ noted_of y ∷ map noted_of ys) (noted_of y ∷ put_noted (noted_of x) (map noted_of ys))
    by true e = refl
    by false e = e

-- The regions of the machine

before_later : (x y : Noted) → x.actor < y.actor → is_before x y ≡ true
before_later x y less = ap (λ (b : Bool). b || (x.actor == y.actor && nat_lt x.address y.address)) (let yes : nat_lt x.actor y.actor ≡ true = grind (arith, nat_tests) in yes)

behind_sooner : (x y : Noted) → y.actor < x.actor → is_before x y ≡ false
behind_sooner x y less =
    (λ i. no i || (other i && nat_lt x.address y.address))
  where
    no : nat_lt x.actor y.actor ≡ false
    no = grind (arith, nat_tests)

    other : (x.actor == y.actor) ≡ false
    other = ne_eqb x.actor y.actor (λ e. absurd (omega (arith, e, less)))

within_actor : (k : ℕ) (r s : Region) → is_before (noted_region k r) (noted_region k s) ≡ nat_lt r.start s.start
within_actor k r s = λ i. no i || (same i && nat_lt r.start s.start)
  where
    no : nat_lt k k ≡ false
    no = grind (arith, nat_tests)

    same : (k == k) ≡ true
    same = eq-eqb k k refl

-- before those of later actors
put_later : (x : Noted) (k : ℕ) (actors : List (Option Actor)) → x.actor < k → put_noted x (noted_regions k actors) ≡ x ∷ noted_regions k actors
put_later x k [] less = refl
put_later x k (None ∷ actors) less = put_later x (k + 1) actors (omega (arith, less))
put_later x k (Some [] ∷ actors) less = put_later x (k + 1) actors (omega (arith, less))
put_later x k (Some (r ∷ rs) ∷ actors) less =
    ap (λ (b : Bool). cond b (x ∷ noted_regions k (Some (r ∷ rs) ∷ actors)) (noted_region k r ∷ put_noted x (map (noted_region k) rs ++ noted_regions (k + 1) actors))) (before_later x (noted_region k r) less)

-- behind those of sooner ones
put_behind : (x : Noted) (k : ℕ) (rs : Actor) (ys : List Noted) → k < x.actor → put_noted x (map (noted_region k) rs ++ ys) ≡ map (noted_region k) rs ++ put_noted x ys
put_behind x k [] ys less = refl
put_behind x k (r ∷ rs) ys less =
    ap (λ (b : Bool). cond b (x ∷ noted_region k r ∷ (map (noted_region k) rs ++ ys)) (noted_region k r ∷ put_noted x (map (noted_region k) rs ++ ys))) (behind_sooner x (noted_region k r) less)
    ∙ ap (λ xs. noted_region k r ∷ xs) (put_behind x k rs ys less)

put_own : (k : ℕ) (r : Region) (rs : Actor) (actors : List (Option Actor)) → map (noted_region k) (insert_region r rs) ++ noted_regions (k + 1) actors ≡ put_noted (noted_region k r) (map (noted_region k) rs ++ noted_regions (k + 1) actors)
put_own k r [] actors = sym (put_later (noted_region k r) (k + 1) actors (omega arith))
put_own k r (s ∷ rs) actors =
    by (nat_lt r.start s.start) (put_own k r rs actors)
    ∙ ap (λ (b : Bool). cond b (noted_region k r ∷ noted_region k s ∷ later) (noted_region k s ∷ put_noted (noted_region k r) later)) (sym (within_actor k r s))
  where
    later : List Noted
    later = map (noted_region k) rs ++ noted_regions (k + 1) actors

    by : (b : Bool) → map (noted_region k) (insert_region r rs) ++ noted_regions (k + 1) actors ≡ put_noted (noted_region k r) (map (noted_region k) rs ++ noted_regions (k + 1) actors)
        → map (noted_region k) (cond b (r ∷ s ∷ rs) (s ∷ insert_region r rs)) ++ noted_regions (k + 1) actors
        ≡ cond b (noted_region k r ∷ noted_region k s ∷ (map (noted_region k) rs ++ noted_regions (k + 1) actors)) (noted_region k s ∷ put_noted (noted_region k r) (map (noted_region k) rs ++ noted_regions (k + 1) actors))
    by true e = refl
    by false e = ap (λ xs. noted_region k s ∷ xs) e

put_at : (x : Noted) (k : ℕ) (a : Option Actor) (ys : List Noted) → k < x.actor → put_noted x (noted_at k a ++ ys) ≡ noted_at k a ++ put_noted x ys
put_at x k None ys less = refl
put_at x k (Some rs) ys less = put_behind x k rs ys less

-- a region that an actor has more
pub noted_added : (k : ℕ) (actors : List (Option Actor)) (i : ℕ) (r : Region) (rs : Actor) → slice_get actors i ≡ Some (Some rs)
    → noted_regions k (set actors i (Some (insert_region r rs))) ≡ put_noted (noted_region (k + i) r) (noted_regions k actors)
noted_added k [] i r rs here = absurd (cc here)
noted_added k (a ∷ actors) zero r rs here =
    let is : a ≡ Some rs = cc here in
    put_own k r rs actors
    ∙ (λ i. put_noted (noted_region ((let e : k ≡ k + 0 = omega arith in e) i) r) (noted_at k (sym is i) ++ noted_regions (k + 1) actors))
noted_added k (a ∷ actors) (suc i) r rs here =
    ap (λ xs. noted_at k a ++ xs) (noted_added (k + 1) actors i r rs here ∙ ap (λ (n : ℕ). put_noted (noted_region n r) (noted_regions (k + 1) actors)) (let e : k + 1 + i ≡ k + suc i = omega arith in e))
    ∙ sym (put_at (noted_region (k + suc i) r) k a (noted_regions (k + 1) actors) (omega arith))
