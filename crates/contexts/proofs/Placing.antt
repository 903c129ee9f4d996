-- Where the regions of the actors lie, and the place of an access.
use Rattle.std.proofs.Common.{◌≡◌, ◌≢◌, ◌==◌, ℕ, ◌+◌, ◌-◌, ◌*◌, ◌/◌, ◌%◌, ◌<◌, ◌≤◌, Bool, true, false, cond, not, List, [], ◌∷◌, ◌++◌, map, Option, Some, None, refl, sym, ap, subst, ◌∙◌, arith, rules, div-lt_iff_lt-mul, mul_comm}
use Rattle.std.specs.Prelude.{option_map, is_some, IfSome, OnErr, OnOk, Result, Ok, Err, nat_le, nat_lt, ◌&&◌, ◌||◌}
use Rattle.std.specs.List.{All, list_any}
use Rattle.std.proofs.lemmas.Bool.Decides.{nat_tests}
use Rattle.std.proofs.Math.Nat.{add-mul-mod_self_left}
use Rattle.std.proofs.lemmas.List.Elements.{All-append, All-cons, All-filter, All-head, All-nil, All-set, All-tail, All-weaker}
use Rattle.vm_ids.specs.declared.command.Mapping.{Mapping}
use Rattle.vm_ids.specs.declared.command.Prot.{Prot}
use Rattle.vm_ids.specs.declared.numbers.RegionId.{RegionId}
use Rattle.vm_ids.specs.declared.refusal.Refusal.{Refusal}
use Rattle.vm_ids.specs.declared.refusal.Refusal.TheVariants as refusals
use Rattle.vm_ids.specs.declared.reply.Trouble.{Trouble}
use Rattle.vm_ids.specs.declared.reply.Trouble.TheVariants as troubles
use Rattle.vm_model.specs.Machine as model
use Rattle.vm_model.specs.Machine.{numbered}
use Rattle.vm_model.specs.Answering.{insert_region, maps_in, without_region}
use Rattle.vm_model.specs.Place.{Place, holds, place_in, place_of_actor, placed, region_at}
use Rattle.vm_model.specs.Regions.{back_of, region_among, region_with, replace_in, split_at}
use Rattle.vm_model.proofs.Machines.Sound.{numbered-all}
use Rattle.regions.specs.AddressSpace.{access_to, place_told}
use Rattle.regions.specs.declared.region.Place as regions
use Rattle.contexts.specs.Actors.{Actors, next_region, split_refusal, with_region, with_split}
use Rattle.contexts.specs.Placed.{ArePlaced, AreRight, EachRegion, HasItsPages, IsAligned}
use Rattle.contexts.proofs.Owners.{all_insert}
use Rattle.contexts.proofs.RegionRows.{IsCut, IsMappable, is_cut, with_allowed, with_locked, without_actor}
use Rattle.contexts.proofs.Replaced.{all_replaced, all_replaced_in}

-- Where regions lie

module _ (P : model.Region → Type 0) where
  -- those of an actor
  pub each_at : (xs : List (Option model.Actor)) (n : ℕ) → All (EachRegion P) xs → EachRegion P (numbered xs n)
  each_at xs n h = go (numbered xs n) refl
    where
      go : (o : Option model.Actor) → numbered xs n ≡ o → EachRegion P o
      go None e = tt
      go (Some rs) e = numbered-all (EachRegion P) xs n rs e h

  each_put : (r : model.Region) → P r → (o : Option model.Actor) → EachRegion P o → EachRegion P (option_map (insert_region r) o)
  each_put r p None h = tt
  each_put r p (Some rs) h = all_insert P r rs p h

  each_more : (xs : List (Option model.Actor)) → All (EachRegion P) xs → All (EachRegion P) (xs ++ Some [] ∷ [])
  each_more xs h = All-append (EachRegion P) xs (Some [] ∷ []) h (All-cons (EachRegion P) (Some []) [] (All-nil P) (All-nil (EachRegion P)))

  each_without : (n : ℕ) (xs : List (Option model.Actor)) → All (EachRegion P) xs → All (EachRegion P) (map (option_map (without_region n)) xs)
  each_without n [] h = All-nil (EachRegion P)
  each_without n (x ∷ xs) h =
      All-cons (EachRegion P) (option_map (without_region n) x) (map (option_map (without_region n)) xs) (one x (All-head (EachRegion P) x xs h)) (each_without n xs (All-tail (EachRegion P) x xs h))
    where
      one : (o : Option model.Actor) → EachRegion P o → EachRegion P (option_map (without_region n) o)
      one None h = tt
      one (Some rs) h = All-filter (λ (r : model.Region). not (r.number == n)) P rs h

module _ (sizes : ℕ → Option ℕ) where
  pub placed_at : (xs : List (Option model.Actor)) (n : ℕ) → All (ArePlaced sizes) xs → ArePlaced sizes (numbered xs n)
  placed_at = each_at (HasItsPages sizes)

  -- the region that is mapped lies in the cache, and is of whole pages
  pub next_placed : (t : Actors) (p : Mapping) (o : Option model.Actor) (q : Option ℕ) → sizes p.extent.cache.0 ≡ q → IsMappable t o q p → HasItsPages sizes (next_region t p) × IsAligned t.page_bytes (next_region t p)
  next_placed t p o q size k = (
    record {
      count = k.count;
      there = size ∙ k.there;
      within = (let inside = k.inside in grind (arith, nat_tests));
    },
    (let e = k.aligned in grind (arith, nat_tests)),
  )

  pub right_mapped : (t : Actors) (actor : ℕ) (p : Mapping) → HasItsPages sizes (next_region t p) × IsAligned t.page_bytes (next_region t p) → AreRight sizes t → AreRight sizes (with_region t actor p)
  right_mapped t actor p r k = record {
    some = k.some;
    placed = put (HasItsPages sizes) r.0 k.placed;
    aligned = put (IsAligned t.page_bytes) r.1 k.aligned;
  }
    where
      put : (P : model.Region → Type 0) → P (next_region t p) → All (EachRegion P) t.actors → All (EachRegion P) (with_region t actor p).actors
      put P r h = All-set (EachRegion P) t.actors (actor - 1) (option_map (insert_region (next_region t p)) (numbered t.actors actor)) (each_put P (next_region t p) r (numbered t.actors actor) (each_at P t.actors actor h)) h

  pub right_made : (t : Actors) → AreRight sizes t → AreRight sizes (record t { actors = t.actors ++ Some [] ∷ [] })
  right_made t k = record {
    some = k.some;
    placed = each_more (HasItsPages sizes) t.actors k.placed;
    aligned = each_more (IsAligned t.page_bytes) t.actors k.aligned;
  }

  pub right_without : (n : ℕ) (t : Actors) → AreRight sizes t → AreRight sizes (record t { actors = map (option_map (without_region n)) t.actors })
  right_without n t k = record {
    some = k.some;
    placed = each_without (HasItsPages sizes) n t.actors k.placed;
    aligned = each_without (IsAligned t.page_bytes) n t.actors k.aligned;
  }

  pub right_without_actor : (actor : ℕ) (t : Actors) → AreRight sizes t → AreRight sizes (without_actor actor t)
  right_without_actor actor t k = record {
    some = k.some;
    placed = All-set (ArePlaced sizes) t.actors (actor - 1) None tt k.placed;
    aligned = All-set (EachRegion (IsAligned t.page_bytes)) t.actors (actor - 1) None tt k.aligned;
  }

  -- a region became others, which lie where it lay
  replaced_right : (n : ℕ) (by : model.Region → List model.Region) (r : model.Region) (t : Actors) → region_with n t.actors ≡ Some r → (HasItsPages sizes r → All (HasItsPages sizes) (by r))
      → (IsAligned t.page_bytes r → All (IsAligned t.page_bytes) (by r)) → AreRight sizes t
      → AreRight sizes (record t { actors = replace_in n by t.actors })
  replaced_right n by r t found placed aligned k = record {
    some = k.some;
    placed = each (HasItsPages sizes) placed k.placed;
    aligned = each (IsAligned t.page_bytes) aligned k.aligned;
  }
    where
      each : (P : model.Region → Type 0) → (P r → All P (by r)) → All (EachRegion P) t.actors → All (EachRegion P) (replace_in n by t.actors)
      each P new h = all_replaced_in (EachRegion P) n by r t.actors found (λ (rs : model.Actor) (here : region_among n rs ≡ Some r) (h : All P rs). all_replaced P n by r rs here new h) h

  one_placed : (r x : model.Region) → x.cache ≡ r.cache → x.offset + x.pages ≤ r.offset + r.pages → HasItsPages sizes r → HasItsPages sizes x
  one_placed r x same less p = record { count = p.count; there = ap sizes same ∙ p.there; within = (let within = p.within in omega (arith, less, within)) }

  -- a region that lies where it lay
  one_right : (n : ℕ) (change : model.Region → model.Region) (r : model.Region) (t : Actors) → region_with n t.actors ≡ Some r → (change r).cache ≡ r.cache → (change r).offset + (change r).pages ≤ r.offset + r.pages
      → (change r).start ≡ r.start → AreRight sizes t → AreRight sizes (record t { actors = replace_in n (λ r. change r ∷ []) t.actors })
  one_right n change r t found same less starts k =
      replaced_right n (λ r. change r ∷ []) r t found
      (λ p. All-cons (HasItsPages sizes) (change r) [] (one_placed r (change r) same less p) (All-nil (HasItsPages sizes)))
      (λ e. All-cons (IsAligned t.page_bytes) (change r) [] (ap (λ n. n % t.page_bytes) starts ∙ e) (All-nil (IsAligned t.page_bytes))) k

  pub right_with_allowed : (n : ℕ) (prot : Prot) (t : Actors) → is_some (region_with n t.actors) ≡ true → AreRight sizes t → AreRight sizes (with_allowed n prot t)
  right_with_allowed n prot t some k = go (region_with n t.actors) refl some
    where
      go : (o : Option model.Region) → region_with n t.actors ≡ o → is_some o ≡ true → AreRight sizes (with_allowed n prot t)
      go None found e = absurd (cc e)
      go (Some r) found e = one_right n (λ r. record r { may_write = prot.write }) r t found refl (omega arith) refl k

  pub right_with_locked : (n : ℕ) (b : Bool) (r : model.Region) (t : Actors) → region_with n t.actors ≡ Some r → AreRight sizes t → AreRight sizes (with_locked n b t)
  right_with_locked n b r t found k = one_right n (λ r. record r { locked = b }) r t found refl (omega arith) refl k

  -- both parts of a region that is cut behind so many pages lie where it lay
  both_placed : (page_bytes pages number : ℕ) (r : model.Region) → pages < r.pages → HasItsPages sizes r → All (HasItsPages sizes) (split_at page_bytes pages number r)
  both_placed page_bytes pages number r fewer p =
      All-cons (HasItsPages sizes) (record r { pages = pages }) (back_of page_bytes pages number r ∷ []) (one_placed r (record r { pages = pages }) refl (omega (arith, fewer)) p)
      (All-cons (HasItsPages sizes) (back_of page_bytes pages number r) [] (one_placed r (back_of page_bytes pages number r) refl (omega (arith, fewer)) p) (All-nil (HasItsPages sizes)))

  both_aligned : (page_bytes pages number : ℕ) (r : model.Region) → IsAligned page_bytes r → All (IsAligned page_bytes) (split_at page_bytes pages number r)
  both_aligned page_bytes pages number r e =
      All-cons (IsAligned page_bytes) (record r { pages = pages }) (back_of page_bytes pages number r ∷ []) e
      (All-cons (IsAligned page_bytes) (back_of page_bytes pages number r) [] (add-mul-mod_self_left r.start page_bytes pages ∙ e) (All-nil (IsAligned page_bytes)))

  right_split : (t : Actors) (n pages : ℕ) → IsCut t n pages → AreRight sizes t → AreRight sizes (with_split t n pages)
  right_split t n pages c k =
      let e = c.fewer in
      let fewer : pages < c.region.pages = grind (arith, nat_tests) in
      let fresh = t.regions_made + 1 in
      let r = replaced_right n (split_at t.page_bytes pages fresh) c.region t c.found (both_placed t.page_bytes pages fresh c.region fewer) (both_aligned t.page_bytes pages fresh c.region) k in
      record { some = r.some; placed = r.placed; aligned = r.aligned }

  -- a region that is cut, or isn't
  pub right_cut : (t u : Actors) (region : RegionId) (pages : ℕ) (o : Option Refusal) (result : Result RegionId Trouble) → split_refusal t region.0 pages ≡ o → IfSome o (λ r. result ≡ Err (troubles.Refused r))
      → OnOk result (u ≡ with_split t region.0 pages) → OnErr result (u ≡ t) → AreRight sizes t → AreRight sizes u
  right_cut t u region pages None (Ok fresh) is refused ok err k = subst (AreRight sizes) (sym ok) (right_split t region.0 pages (is_cut t region.0 pages is) k)
  right_cut t u region pages (Some r) (Ok fresh) is refused ok err k = absurd (cc refused)
  right_cut t u region pages o (Err e) is refused ok err k = subst (AreRight sizes) (sym err) k

-- regions lie where they lay, where as many pages of the same caches are told
pub right_weaker : (f g : ℕ → Option ℕ) (t : Actors) → ((n count : ℕ) → f n ≡ Some count → g n ≡ Some count) → AreRight f t → AreRight g t
right_weaker f g t there k = record { some = k.some; placed = All-weaker (ArePlaced f) (ArePlaced g) actor t.actors k.placed; aligned = k.aligned }
  where
    region : (r : model.Region) → HasItsPages f r → HasItsPages g r
    region r p = record { count = p.count; there = there r.cache p.count p.there; within = p.within }

    actor : (o : Option model.Actor) → ArePlaced f o → ArePlaced g o
    actor None p = tt
    actor (Some rs) p = All-weaker (HasItsPages f) (HasItsPages g) region rs p

-- what is so of the actors before a call that may fail, and of those that it makes, is so after it
pub after_either : {T E : Type 0} (P : Actors → Type 0) (t u v : Actors) (result : Result T E) → OnOk result (u ≡ v) → OnErr result (u ≡ t) → P v → P t → P u
after_either P t u v (Ok x) ok err new old = subst P (sym ok) new
after_either P t u v (Err e) ok err new old = subst P (sym err) old

-- The place of an access

-- the plain machine's place, of which this much is told
abbrev pub found_at : model.Region → regions.Place → Place
found_at r p = record { region = record r { cache = p.cache.0; may_write = p.prot.write }; page = p.page.0; byte = p.at }

-- a place that was found is the plain machine's, and a page of a live cache
pub record IsFoundAt (sizes : ℕ → Option ℕ) (b : ℕ) (o : Option model.Actor) (address n : ℕ) (p : regions.Place) : Type 0 where
  pub region : model.Region
  pub is : Ok (found_at region p) ≡ place_of_actor b o address n
  pub count : ℕ
  pub there : sizes p.cache.0 ≡ Some count
  pub less : p.page.0 < count
  pub fits : p.at + n ≤ b

pub refused_at : (x : Result Place Refusal) (r : Refusal) → Err r ≡ place_told x → Err r ≡ x
refused_at (Ok p) r e = absurd (cc e)
refused_at (Err s) r e = (let same : r ≡ s = cc e in ap (λ (q : Refusal). Err q) same)

pub held_in : (b address : ℕ) (r : model.Region) → holds b address r ≡ true → (r.start ≤ address) × (address < r.start + b * r.pages)
held_in b address r e = go (nat_le r.start address) (nat_lt address (r.start + b * r.pages)) refl refl e
  where
    go : (c d : Bool) → nat_le r.start address ≡ c → nat_lt address (r.start + b * r.pages) ≡ d → (c && d) ≡ true → (r.start ≤ address) × (address < r.start + b * r.pages)
    go true true p q k = (grind (arith, nat_tests), grind (arith, nat_tests))
    go true false p q k = absurd (cc k)
    go false d p q k = absurd (cc k)

module _ (sizes : ℕ → Option ℕ) (b address : ℕ) where
  region_there : (rs : model.Actor) (r : model.Region) → All (HasItsPages sizes) rs → region_at b address rs ≡ Some r → (holds b address r ≡ true) × HasItsPages sizes r
  region_there [] r h e = absurd (cc e)
  region_there (x ∷ rs) r h e = go (region_there rs r (All-tail (HasItsPages sizes) x rs h)) (holds b address x) refl e
    where
      go : (region_at b address rs ≡ Some r → (holds b address r ≡ true) × HasItsPages sizes r) → (c : Bool) → holds b address x ≡ c → cond c (Some x) (region_at b address rs) ≡ Some r → (holds b address r ≡ true) × HasItsPages sizes r
      go rest true k f = let same : x ≡ r = cc f in (subst (λ (y : model.Region). holds b address y ≡ true) same k, subst (HasItsPages sizes) same (All-head (HasItsPages sizes) x rs h))
      go rest false k f = rest f

  ahead : (r : model.Region) → 1 ≤ b → r.start ≤ address → address < r.start + b * r.pages → (address - r.start) / b < r.pages
  ahead r some from below = (div-lt_iff_lt-mul some).1 (omega (arith, from, below, mul_comm b r.pages))

  pub found_place : (n : ℕ) (o : Option model.Actor) (p : regions.Place) → 1 ≤ b → ArePlaced sizes o → Ok p ≡ place_told (place_of_actor b o address n) → IsFoundAt sizes b o address n p
  found_place n None p some h e = absurd (cc e)
  found_place n (Some rs) p some h e = go (nat_lt b (address % b + n)) (region_at b address rs) refl refl e
    where
      go : (c : Bool) (o : Option model.Region) → nat_lt b (address % b + n) ≡ c → region_at b address rs ≡ o → Ok p ≡ place_told (cond c (Err refusals.Crosses) (placed b address o)) → IsFoundAt sizes b (Some rs) address n p
      go true o k l f = absurd (cc f)
      go false None k l f = absurd (cc f)
      go false (Some r) k l f =
          let told : p ≡ access_to (place_in b address r) = cc f in
          let there = region_there rs r h l in
          let held = held_in b address r there.0 in
          let far = ahead r some held.0 held.1 in
          let lies = there.1 in
          let short : address % b + n ≤ b = grind (arith, nat_tests) in
          let row : place_of_actor b (Some rs) address n ≡ Ok (place_in b address r) = rw (k, l) refl in
          record {
            region = r;
            is = ap (λ (q : regions.Place). Ok (found_at r q)) told ∙ sym row;
            count = lies.count;
            there = ap (λ (q : regions.Place). sizes q.cache.0) told ∙ lies.there;
            less = (let page = ap (λ (q : regions.Place). q.page.0) told in let within = lies.within in omega (arith, page, far, within));
            fits = (let byte = ap (λ (q : regions.Place). q.at) told in omega (arith, byte, short));
          }

pub spot : (sizes : ℕ → Option ℕ) (t : Actors) (actor address n : ℕ) (p : regions.Place) → AreRight sizes t → Ok p ≡ place_told (place_of_actor t.page_bytes (numbered t.actors actor) address n)
    → IsFoundAt sizes t.page_bytes (numbered t.actors actor) address n p
spot sizes t actor address n p k e = found_place sizes t.page_bytes address n (numbered t.actors actor) p k.some (placed_at sizes t.actors actor k.placed) e

-- Where regions of other caches lie

pub neither : (a b : Bool) → (a || b) ≡ false → (a ≡ false) × (b ≡ false)
neither true b e = absurd (search rules)
neither false b e = (refl, e)

pub other_number : (n k : ℕ) → (k == n) ≡ false → k ≢ n
other_number n k e same = grind (arith, nat_tests)

module _ (n : ℕ) (f g : ℕ → Option ℕ) (others : (k : ℕ) → k ≢ n → g k ≡ f k) where
  placed_region : (r : model.Region) → (r.cache == n) ≡ false → HasItsPages f r → HasItsPages g r
  placed_region r apart p = record { count = p.count; there = others r.cache (other_number n r.cache apart) ∙ p.there; within = p.within }

  placed_regions : (rs : model.Actor) → list_any (λ (r : model.Region). r.cache == n) rs ≡ false → All (HasItsPages f) rs → All (HasItsPages g) rs
  placed_regions [] none p = All-nil (HasItsPages g)
  placed_regions (r ∷ rs) none p =
      let each = neither (r.cache == n) (list_any (λ (r : model.Region). r.cache == n) rs) none in
      All-cons (HasItsPages g) r rs (placed_region r each.0 (All-head (HasItsPages f) r rs p)) (placed_regions rs each.1 (All-tail (HasItsPages f) r rs p))

  placed_actor : (a : Option model.Actor) → maps_in n a ≡ false → ArePlaced f a → ArePlaced g a
  placed_actor None none p = tt
  placed_actor (Some rs) none p = placed_regions rs none p

  pub placed_actors : (xs : List (Option model.Actor)) → list_any (maps_in n) xs ≡ false → All (ArePlaced f) xs → All (ArePlaced g) xs
  placed_actors [] none p = All-nil (ArePlaced g)
  placed_actors (x ∷ xs) none p =
      let each = neither (maps_in n x) (list_any (maps_in n) xs) none in
      All-cons (ArePlaced g) x xs (placed_actor x each.0 (All-head (ArePlaced f) x xs p)) (placed_actors xs each.1 (All-tail (ArePlaced f) x xs p))
