-- The region with a number, where it stands, and what becomes of it.
use Rattle.std.proofs.Common.{◌≡◌, ◌==◌, ℕ, zero, suc, ◌+◌, ◌-◌, ◌<◌, ◌≤◌, Bool, true, false, cond, List, [], ◌∷◌, ◌++◌, length, get_or, set, take, drop, map, Option, Some, None, refl, sym, ap, subst, ◌∙◌, arith, rules, Vec, Global}
use Rattle.std.specs.Prelude.{count_by, insert, is_some, option_and_then, option_map, slice_get}
use Rattle.std.specs.List.{All}
use Rattle.std.specs.Option.{option_or}
use Rattle.std.proofs.lemmas.Bool.Decides.{nat_tests}
use Rattle.std.proofs.Math.Seq.{map-set_same}
use Rattle.std.proofs.lemmas.List.{append-nil, length-map, length-take-le, map-append, map_push, take_more}
use Rattle.std.proofs.lemmas.List.Elements.{All-append, All-drop, All-get_or, All-same, All-take}
use Rattle.std.proofs.lemmas.List.Sums.{sum_by-cons}
use Rattle.std.proofs.lemmas.Option.{get_or_from_slice_get, slice_get-get_or, slice_get_within}
use Rattle.vm_model.specs.Machine as model
use Rattle.vm_model.specs.Machine.{numbered}
use Rattle.vm_model.specs.Answering.{change_region}
use Rattle.vm_model.specs.Regions.{region_among, region_with, replace_in, replace_region, status_in, status_with}
use Rattle.vm_model.specs.declared.located.Located.{Located}
use Rattle.vm_model.specs.declared.tables.Actor.{Actor}
use Rattle.vm_model.specs.declared.tables.Cache.{Cache}
use Rattle.vm_model.specs.declared.tables.Region.{Region}
use Rattle.vm_model.specs.declared.tables.Tables.{Tables}
use Rattle.vm_model.specs.Seen.{actor_seen, actors_seen, region_seen, machine_seen, ArePlaced, IsLocated, IsPlaced, IsPlaceOf, IsReplaced, AreTablesSound}
use Rattle.vm_model.proofs.Parts.Lists.{found_is, numbered_place}
use Rattle.vm_model.proofs.Parts.ListParts.{at_some}
use Rattle.vm_model.proofs.Machines.Sound.{numbered-all, placed-set, sound-actors}

-- a list around one of its places
around : {A : Type 0} (xs : List A) (k : ℕ) (x : A) → slice_get xs k ≡ Some x → xs ≡ take k xs ++ x ∷ drop (suc k) xs
around [] k x e = absurd (search rules)
around (y ∷ ys) zero x e = let same : y ≡ x = cc in ap (λ z. z ∷ ys) same
around (y ∷ ys) (suc k) x e = ap (λ zs. y ∷ zs) (around ys k x e)

set_around : {A : Type 0} (xs : List A) (k : ℕ) (x : A) → k < length xs → set xs k x ≡ take k xs ++ x ∷ drop (suc k) xs
set_around [] k x h = absurd (omega arith)
set_around (y ∷ ys) zero x h = refl
set_around (y ∷ ys) (suc k) x h = ap (λ zs. y ∷ zs) (set_around ys k x (omega arith))

-- a region becomes two: the second goes in behind it, and the first in its place
pub two_around : {A : Type 0} (xs : List A) (k : ℕ) (front back : A) → k < length xs → set (insert xs (k + 1) back) k front ≡ take k xs ++ front ∷ back ∷ drop (k + 1) xs
two_around {A} xs k front back h = ap (λ (j : ℕ). set (insert xs j back) k front) (let e : k + 1 ≡ suc k = omega arith in e) ∙ go xs k h ∙ ap (λ (j : ℕ). take k xs ++ front ∷ back ∷ drop j xs) (let e : suc k ≡ k + 1 = omega arith in e)
  where
    go : (xs : List A) (k : ℕ) → k < length xs → set (insert xs (suc k) back) k front ≡ take k xs ++ front ∷ back ∷ drop (suc k) xs
    go [] k h = absurd (omega arith)
    go (x ∷ xs) zero h = refl
    go (x ∷ xs) (suc k) h = ap (λ zs. x ∷ zs) (go xs k (omega arith))

living_behind : (x y : Option model.Actor) (xs ys : List (Option model.Actor)) → is_some x ≡ is_some y → count_by is_some xs ≡ count_by is_some ys → count_by is_some (x ∷ xs) ≡ count_by is_some (y ∷ ys)
living_behind x y xs ys e rest =
    sum_by-cons (λ o. cond (is_some o) 1 0) x xs ∙ ap (λ (b : Bool). cond b 1 0 + count_by is_some xs) e ∙ ap (λ (k : ℕ). cond (is_some y) 1 0 + k) rest ∙ sym (sum_by-cons (λ o. cond (is_some o) 1 0) y ys)

-- What no region in front has as its number

module _ (n : ℕ) where
  among_behind : (front back : model.Actor) → region_among n front ≡ None → region_among n (front ++ back) ≡ region_among n back
  among_behind [] back none = refl
  among_behind (r ∷ rs) back none = go (r.number == n) none (among_behind rs back)
    where
      go : (b : Bool) → cond b (Some r) (region_among n rs) ≡ None → (region_among n rs ≡ None → region_among n (rs ++ back) ≡ region_among n back) → cond b (Some r) (region_among n (rs ++ back)) ≡ region_among n back
      go true e rest = absurd (cc e)
      go false e rest = rest e

  replaced_behind : (by : model.Region → List model.Region) (front back : model.Actor) → region_among n front ≡ None → replace_region n by (front ++ back) ≡ front ++ replace_region n by back
  replaced_behind by [] back none = refl
  replaced_behind by (r ∷ rs) back none = go (r.number == n) none (replaced_behind by rs back)
    where
      go : (b : Bool) → cond b (Some r) (region_among n rs) ≡ None → (region_among n rs ≡ None → replace_region n by (rs ++ back) ≡ rs ++ replace_region n by back) → cond b (by r ++ (rs ++ back)) (r ∷ replace_region n by (rs ++ back)) ≡ r ∷ (rs ++ replace_region n by back)
      go true e rest = absurd (cc e)
      go false e rest = ap (λ ys. r ∷ ys) (rest e)

  with_behind : (front back : List (Option model.Actor)) → region_with n front ≡ None → region_with n (front ++ back) ≡ region_with n back
  with_behind [] back none = refl
  with_behind (None ∷ xs) back none = with_behind xs back none
  with_behind (Some rs ∷ xs) back none = go (region_among n rs) none (with_behind xs back)
    where
      go : (o : Option model.Region) → option_or o (region_with n xs) ≡ None → (region_with n xs ≡ None → region_with n (xs ++ back) ≡ region_with n back) → option_or o (region_with n (xs ++ back)) ≡ region_with n back
      go None e rest = rest e
      go (Some r) e rest = absurd (cc e)

  in_behind : (by : model.Region → List model.Region) (front back : List (Option model.Actor)) → region_with n front ≡ None → replace_in n by (front ++ back) ≡ front ++ replace_in n by back
  in_behind by [] back none = refl
  in_behind by (None ∷ xs) back none = ap (λ ys. None ∷ ys) (in_behind by xs back none)
  in_behind by (Some rs ∷ xs) back none = go (region_among n rs) none (in_behind by xs back)
    where
      go : (o : Option model.Region) → option_or o (region_with n xs) ≡ None → (region_with n xs ≡ None → replace_in n by (xs ++ back) ≡ xs ++ replace_in n by back)
          → cond (is_some o) (Some (replace_region n by rs) ∷ (xs ++ back)) (Some rs ∷ replace_in n by (xs ++ back)) ≡ Some rs ∷ (xs ++ replace_in n by back)
      go None e rest = ap (λ ys. Some rs ∷ ys) (rest e)
      go (Some r) e rest = absurd (cc e)

  status_behind : (actor : ℕ) (front back : List (Option model.Actor)) → region_with n front ≡ None → status_with n actor (front ++ back) ≡ status_with n (actor + length front) back
  status_behind actor [] back none = ap (λ (k : ℕ). status_with n k back) (let e : actor ≡ actor + 0 = omega arith in e)
  status_behind actor (None ∷ xs) back none = status_behind (actor + 1) xs back none ∙ ap (λ (k : ℕ). status_with n k back) (let e : actor + 1 + length xs ≡ actor + suc (length xs) = omega arith in e)
  status_behind actor (Some rs ∷ xs) back none = go (region_among n rs) none (status_behind (actor + 1) xs back) ∙ ap (λ (k : ℕ). status_with n k back) (let e : actor + 1 + length xs ≡ actor + suc (length xs) = omega arith in e)
    where
      go : (o : Option model.Region) → option_or o (region_with n xs) ≡ None → (region_with n xs ≡ None → status_with n (actor + 1) (xs ++ back) ≡ status_with n (actor + 1 + length xs) back)
          → option_or (option_map (status_in actor) o) (status_with n (actor + 1) (xs ++ back)) ≡ status_with n (actor + 1 + length xs) back
      go None e rest = rest e
      go (Some r) e rest = absurd (cc e)

  other : (a : ℕ) → ((a == n) ≡ true → ⊥) → (a == n) ≡ false
  other a h = go (a == n) h
    where
      go : (b : Bool) → (b ≡ true → ⊥) → b ≡ false
      go true h = absurd (h refl)
      go false h = refl

  among_one : (r : model.Region) → (r.number == n) ≡ false → region_among n (r ∷ []) ≡ None
  among_one r e = ap (λ (b : Bool). cond b (Some r) None) e

  -- one region more was passed, or one actor more
  pub passed_region : (rs : List Region) (k : ℕ) (d : Region) → k < length rs → ((get_or rs k d).number.0 == n) ≡ false → region_among n (map region_seen (take k rs)) ≡ None → region_among n (map region_seen (take (k + 1) rs)) ≡ None
  passed_region rs k d below e none =
      ap (λ ys. region_among n (map region_seen ys)) (take_more rs k d below)
      ∙ ap (region_among n) (map_push region_seen (take k rs) (get_or rs k d))
      ∙ among_behind (map region_seen (take k rs)) (region_seen (get_or rs k d) ∷ []) none
      ∙ among_one (region_seen (get_or rs k d)) e

  pub passed_actor : (xs : List (Option Actor)) (k : ℕ) (a : Option Actor) → k < length xs → a ≡ get_or xs k a → region_with n (actors_seen (a ∷ [])) ≡ None → region_with n (actors_seen (take k xs)) ≡ None → region_with n (actors_seen (take (k + 1) xs)) ≡ None
  passed_actor xs k a below at e none =
      ap (λ ys. region_with n (actors_seen ys)) (take_more xs k a below ∙ ap (λ (y : Option Actor). take k xs ++ y ∷ []) (sym at))
      ∙ ap (region_with n) (map_push (option_map actor_seen) (take k xs) a)
      ∙ with_behind (actors_seen (take k xs)) (actors_seen (a ∷ [])) none
      ∙ e

  pub located_here : (xs : List (Option Actor)) (k place : ℕ) (a : Option Actor) (x : Actor) (r : Region) → k < length xs → a ≡ get_or xs k a → a ≡ Some x → IsPlaceOf n x.regions.items place r → region_with n (actors_seen (take k xs)) ≡ None
      → IsLocated n xs (record { actor = record { 0 = k + 1 }; place = place; region = r })
  located_here xs k place a x r below at is here none =
      let index : k + 1 - 1 ≡ k = omega arith in
      record {
        actor = x;
        there = at_some xs (k + 1) (omega arith) ∙ ap (λ (i : ℕ). option_and_then (λ y. y) (slice_get xs i)) index ∙ ap (option_and_then (λ y. y)) (slice_get-get_or xs k a below ∙ ap Some (sym at ∙ is));
        place = here;
        first = ap (λ (i : ℕ). region_with n (actors_seen (take i xs))) index ∙ none;
      }

  -- What the region becomes

  module _ (rs : List Region) (k : ℕ) (r : Region) (place : IsPlaceOf n rs k r) where
    found_here : (r.number.0 == n) ≡ true
    found_here = let e = place.is in grind (arith, nat_tests)

    parted : map region_seen rs ≡ map region_seen (take k rs) ++ region_seen r ∷ map region_seen (drop (suc k) rs)
    parted = ap (map region_seen) (around rs k r place.there) ∙ map-append region_seen (take k rs) (r ∷ drop (suc k) rs)

    among_is : region_among n (map region_seen rs) ≡ Some (region_seen r)
    among_is =
        ap (region_among n) parted
        ∙ among_behind (map region_seen (take k rs)) (region_seen r ∷ map region_seen (drop (suc k) rs)) place.first
        ∙ ap (λ (b : Bool). cond b (Some (region_seen r)) (region_among n (map region_seen (drop (suc k) rs)))) found_here

    replaced_is : (by : model.Region → List model.Region) → replace_region n by (map region_seen rs) ≡ map region_seen (take k rs) ++ (by (region_seen r) ++ map region_seen (drop (suc k) rs))
    replaced_is by =
        ap (replace_region n by) parted
        ∙ replaced_behind by (map region_seen (take k rs)) (region_seen r ∷ map region_seen (drop (suc k) rs)) place.first
        ∙ ap (λ (b : Bool). map region_seen (take k rs) ++ cond b (by (region_seen r) ++ map region_seen (drop (suc k) rs)) (region_seen r ∷ replace_region n by (map region_seen (drop (suc k) rs)))) found_here

  module _ (xs : List (Option Actor)) (l : Located) (here : IsLocated n xs l) where
    abbrev index : ℕ
    index = l.actor.0 - 1

    at_index : (1 ≤ l.actor.0) × (slice_get xs index ≡ Some (Some here.actor))
    at_index = numbered_place xs l.actor.0 here.actor here.there

    parted_actors : actors_seen xs ≡ actors_seen (take index xs) ++ Some (actor_seen here.actor) ∷ actors_seen (drop (suc index) xs)
    parted_actors = ap (map (option_map actor_seen)) (around xs index (Some here.actor) at_index.1) ∙ map-append (option_map actor_seen) (take index xs) (Some here.actor ∷ drop (suc index) xs)

    among_there : region_among n (actor_seen here.actor) ≡ Some (region_seen l.region)
    among_there = among_is here.actor.regions.items l.place l.region here.place

    -- it is the region with the number
    pub with_is : region_with n (actors_seen xs) ≡ Some (region_seen l.region)
    with_is =
        ap (region_with n) parted_actors
        ∙ with_behind (actors_seen (take index xs)) (Some (actor_seen here.actor) ∷ actors_seen (drop (suc index) xs)) here.first
        ∙ ap (λ (o : Option model.Region). option_or o (region_with n (actors_seen (drop (suc index) xs)))) among_there

    -- what is told of it
    pub status_is : status_with n 1 (actors_seen xs) ≡ Some (status_in l.actor.0 (region_seen l.region))
    status_is =
        let front = actors_seen (take index xs) in
        let number : 1 + length front ≡ l.actor.0 = omega (arith, length-map (take index xs) (option_map actor_seen), length-take-le index xs (omega (arith, slice_get_within xs index (Some here.actor) at_index.1)), at_index.0) in
        ap (status_with n 1) parted_actors
        ∙ status_behind 1 front (Some (actor_seen here.actor) ∷ actors_seen (drop (suc index) xs)) here.first
        ∙ ap (λ (k : ℕ). status_with n k (Some (actor_seen here.actor) ∷ actors_seen (drop (suc index) xs))) number
        ∙ ap (λ (o : Option model.Region). option_or (option_map (status_in l.actor.0) o) (status_with n (l.actor.0 + 1) (actors_seen (drop (suc index) xs)))) among_there

    -- what was read as its actor
    module _ (found : Option Actor) (x : Actor) (at : found ≡ get_or xs index found) (is : found ≡ Some x) where
      actor_is : x ≡ here.actor
      actor_is = let there : found ≡ Some here.actor = found_is xs l.actor.0 here.actor found here.there at in cc

      pub place_within : l.place < length x.regions.items
      place_within = subst (λ (y : Actor). l.place < length y.regions.items) (sym actor_is) (slice_get_within here.actor.regions.items l.place l.region here.place.there)

      -- the region alone becomes another
      pub one_instead : (r : Region) → set x.regions.items l.place r ≡ take l.place x.regions.items ++ r ∷ drop (l.place + 1) x.regions.items
      one_instead r = set_around x.regions.items l.place r place_within ∙ ap (λ (j : ℕ). take l.place x.regions.items ++ r ∷ drop j x.regions.items) (let e : suc l.place ≡ l.place + 1 = omega arith in e)

      -- its regions are as they were
      module _ (a : Actor) (same : a.regions.items ≡ x.regions.items) where
        pub kept : actors_seen (set xs index (Some a)) ≡ actors_seen xs
        kept = map-set_same (option_map actor_seen) xs index (Some a) (Some here.actor)
            (ap (λ rs. Some (map region_seen rs)) (same ∙ ap (λ (y : Actor). y.regions.items) actor_is) ∙ sym (ap (option_map actor_seen) (get_or_from_slice_get xs index (Some here.actor) (Some here.actor) at_index.1)))

        pub kept_placed : (b : ℕ) (cs : List (Option Cache)) → All (ArePlaced b cs) xs → All (ArePlaced b cs) (set xs index (Some a))
        kept_placed b cs old =
            let regions : All (IsPlaced b cs) here.actor.regions.items = numbered-all (ArePlaced b cs) xs l.actor.0 here.actor here.there old in
            placed-set b cs xs index a (All-same (IsPlaced b cs) a.regions.items here.actor.regions.items (same ∙ ap (λ (y : Actor). y.regions.items) actor_is) regions) old

    -- its actor after the region became others
    module _ (found : Option Actor) (x a : Actor) (parts : List Region) (at : found ≡ get_or xs index found) (is : found ≡ Some x) (items : a.regions.items ≡ take l.place x.regions.items ++ (parts ++ drop (l.place + 1) x.regions.items)) where
      abbrev rs : List Region
      rs = here.actor.regions.items

      items_is : a.regions.items ≡ take l.place rs ++ (parts ++ drop (suc l.place) rs)
      items_is =
          subst (λ (y : Actor). a.regions.items ≡ take l.place y.regions.items ++ (parts ++ drop (l.place + 1) y.regions.items)) (actor_is found x at is) items
          ∙ ap (λ (j : ℕ). take l.place rs ++ (parts ++ drop j rs)) (let e : l.place + 1 ≡ suc l.place = omega arith in e)

      replaced_in : (by : model.Region → List model.Region) → by (region_seen l.region) ≡ map region_seen parts → actors_seen (set xs index (Some a)) ≡ replace_in n by (actors_seen xs)
      replaced_in by becomes =
          let changed : actor_seen a ≡ replace_region n by (actor_seen here.actor) =
          ap (map region_seen) items_is
          ∙ map-append region_seen (take l.place rs) (parts ++ drop (suc l.place) rs)
          ∙ ap (λ ys. map region_seen (take l.place rs) ++ ys) (map-append region_seen parts (drop (suc l.place) rs) ∙ ap (λ ys. ys ++ map region_seen (drop (suc l.place) rs)) (sym becomes))
          ∙ sym (replaced_is rs l.place l.region here.place by) in
          let back = actors_seen (drop (suc index) xs) in
          ap (map (option_map actor_seen)) (set_around xs index (Some a) (slice_get_within xs index (Some here.actor) at_index.1))
          ∙ map-append (option_map actor_seen) (take index xs) (Some a ∷ drop (suc index) xs)
          ∙ ap (λ (y : model.Actor). actors_seen (take index xs) ++ Some y ∷ back) changed
          ∙ ap (λ (o : Option model.Region). actors_seen (take index xs) ++ cond (is_some o) (Some (replace_region n by (actor_seen here.actor)) ∷ back) (Some (actor_seen here.actor) ∷ replace_in n by back)) (sym among_there)
          ∙ sym (in_behind by (actors_seen (take index xs)) (Some (actor_seen here.actor) ∷ back) here.first)
          ∙ ap (replace_in n by) (sym parted_actors)

      pub replaced : IsReplaced l parts xs (set xs index (Some a))
      replaced = record {
        seen = λ by becomes. replaced_in by becomes ∙ ap (λ (k : ℕ). replace_in k by (actors_seen xs)) (sym here.place.is);
        placed = λ b cs new old.
            let regions : All (IsPlaced b cs) rs = numbered-all (ArePlaced b cs) xs l.actor.0 here.actor here.there old in
            placed-set b cs xs index a
            (All-same (IsPlaced b cs) a.regions.items _ items_is
            (All-append (IsPlaced b cs) (take l.place rs) (parts ++ drop (suc l.place) rs) (All-take (IsPlaced b cs) l.place rs regions)
            (All-append (IsPlaced b cs) parts (drop (suc l.place) rs) new (All-drop (IsPlaced b cs) (suc l.place) rs regions))))
            old;
      }

  -- where no living actor has the region, nothing is told
  pub nothing_told : (xs : List (Option model.Actor)) → region_with n xs ≡ None → status_with n 1 xs ≡ None
  nothing_told xs none = ap (status_with n 1) (sym (append-nil xs)) ∙ status_behind 1 xs [] none

  -- and nothing changes
  pub nothing_changes : (m : model.Machine) (by : model.Region → List model.Region) → region_with n m.actors ≡ None → change_region m n by ≡ m
  nothing_changes m by none = ap (λ xs. record m { actors = xs }) (ap (replace_in n by) (sym (append-nil m.actors)) ∙ in_behind by m.actors [] none ∙ append-nil m.actors)

  -- The tables after a region became others

  as_many : (by : model.Region → List model.Region) (xs : List (Option model.Actor)) → length (replace_in n by xs) ≡ length xs
  as_many by [] = refl
  as_many by (None ∷ xs) = ap suc (as_many by xs)
  as_many by (Some rs ∷ xs) = go (is_some (region_among n rs)) (as_many by xs)
    where
      go : (b : Bool) → length (replace_in n by xs) ≡ length xs → length (cond b (Some (replace_region n by rs) ∷ xs) (Some rs ∷ replace_in n by xs)) ≡ suc (length xs)
      go true rest = refl
      go false rest = ap suc rest

  as_many_live : (by : model.Region → List model.Region) (xs : List (Option model.Actor)) → count_by is_some (replace_in n by xs) ≡ count_by is_some xs
  as_many_live by [] = refl
  as_many_live by (None ∷ xs) = living_behind None None (replace_in n by xs) xs refl (as_many_live by xs)
  as_many_live by (Some rs ∷ xs) = go (is_some (region_among n rs)) (as_many_live by xs)
    where
      go : (b : Bool) → count_by is_some (replace_in n by xs) ≡ count_by is_some xs → count_by is_some (cond b (Some (replace_region n by rs) ∷ xs) (Some rs ∷ replace_in n by xs)) ≡ count_by is_some (Some rs ∷ xs)
      go true rest = living_behind (Some (replace_region n by rs)) (Some rs) xs xs refl refl
      go false rest = living_behind (Some rs) (Some rs) (replace_in n by xs) xs refl rest

  module _ (t : Tables) (l : Located) (here : IsLocated n t.actors.items l) (s : AreTablesSound t) where
    -- the region lies in a cache
    pub located_placed : IsPlaced t.page_bytes t.caches.items l.region
    located_placed =
        let rs = here.actor.regions.items in
        let P = IsPlaced t.page_bytes t.caches.items in
        subst P (get_or_from_slice_get rs l.place l.region l.region here.place.there)
        (All-get_or P rs l.place l.region (slice_get_within rs l.place l.region here.place.there) (numbered-all (ArePlaced t.page_bytes t.caches.items) t.actors.items l.actor.0 here.actor here.there s.placed))

    module _ (parts : List Region) (actors : Vec (Option Actor) Global) (made : ℕ) (replaced : IsReplaced l parts t.actors.items actors.items) where
      seen_actors : (by : model.Region → List model.Region) → by (region_seen l.region) ≡ map region_seen parts → actors_seen actors.items ≡ replace_in n by (actors_seen t.actors.items)
      seen_actors by becomes = replaced.seen by becomes ∙ ap (λ (k : ℕ). replace_in k by (actors_seen t.actors.items)) here.place.is

      pub sound_replaced : All (IsPlaced t.page_bytes t.caches.items) parts → AreTablesSound (record t { actors = actors; regions_made = made })
      sound_replaced new =
          let by : model.Region → List model.Region = λ _. map region_seen parts in
          let seen = seen_actors by refl in
          sound-actors t actors made
          (sym (length-map actors.items (option_map actor_seen)) ∙ ap length seen ∙ as_many by (actors_seen t.actors.items) ∙ length-map t.actors.items (option_map actor_seen))
          (ap (count_by is_some) seen ∙ as_many_live by (actors_seen t.actors.items))
          (replaced.placed t.page_bytes t.caches.items new s.placed) s

      pub seen_replaced : (by : model.Region → List model.Region) → by (region_seen l.region) ≡ map region_seen parts → machine_seen (record t { actors = actors; regions_made = made }) ≡ record (change_region (machine_seen t) n by) { regions_made = made }
      seen_replaced by becomes = ap (λ (xs : List (Option model.Actor)). record (machine_seen t) { actors = xs; regions_made = made }) (seen_actors by becomes)

-- the tables where no region changed
pub sound_kept : (t : Tables) (actors : Vec (Option Actor) Global) → actors_seen actors.items ≡ actors_seen t.actors.items → All (ArePlaced t.page_bytes t.caches.items) actors.items → AreTablesSound t → AreTablesSound (record t { actors = actors })
sound_kept t actors seen placed s =
    sound-actors t actors t.regions_made
    (sym (length-map actors.items (option_map actor_seen)) ∙ ap length seen ∙ length-map t.actors.items (option_map actor_seen))
    (ap (count_by is_some) seen) placed s
