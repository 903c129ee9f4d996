-- What the tables are, before and after a change.
use Rattle.std.proofs.Common.{◌≡◌, ◌==◌, ℕ, suc, zero, ◌+◌, ◌-◌, ◌<◌, ◌≤◌, Bool, true, false, cond, List, [], ◌∷◌, ◌++◌, length, get_or, set, take, drop, map, replicate, Option, Some, None, refl, sym, ap, subst, ◌∙◌, arith, rules, inl, inr, Vec, Global}
use Rattle.std.specs.Prelude.{option_map, option_and_then, slice_get, unwrap_or, count_by, sum_by, is_some, insert, IsSome, Result, Ok, Err, OnOk, OnErr, nat_le, nat_lt, ◌%◌, ◌*◌, ◌^◌}
use Rattle.std.specs.List.{All, list_any}
use Rattle.std.specs.Option.{option_map_or}
use Rattle.std.proofs.lemmas.List.{take-map, drop-map, map-set, map_push, length-map, length-set, length-replicate}
use Rattle.std.proofs.lemmas.List.Elements.{All-append, All-take, All-drop, All-set, All-get_or, All-nil, All-cons, All-head, All-tail, All-same, All-weaker, All-map, All-replicate}
use Rattle.std.proofs.lemmas.List.Sums.{sum_by_push}
use Rattle.std.proofs.lemmas.Option.{get_or_from_slice_get, slice_get-get_or, slice_get-map, unwrap_or-slice_get}
use Rattle.vm_ids.specs.declared.command.Mapping.{Mapping}
use Rattle.vm_ids.specs.declared.numbers.SegId.{SegId}
use Rattle.vm_ids.specs.declared.reply.NoMemory.{NoMemory}
use Rattle.vm_ids.specs.declared.reply.Reply.TheVariants as replies
use Rattle.vm_model.specs.declared.limits.TheConstants.{MOST_MADE}
use Rattle.vm_model.specs.Machine.{numbered, pages_in, zero_page}
use Rattle.vm_model.specs.Machine as model
use Rattle.vm_model.specs.Answering.{add_region, insert_region, map_of, overlaps, overwrite, passes_end, put_cache, put_page, put_pages, region_of, reply, unless, with_some, write_at}
use Rattle.vm_model.specs.Place.{Place}
use Rattle.vm_model.specs.Outcome.{IsWhole, HasWholePages}
use Rattle.vm_model.specs.declared.tables.Actor.{Actor}
use Rattle.vm_model.specs.declared.tables.Cache.{Cache}
use Rattle.vm_model.specs.declared.tables.Region.{Region}
use Rattle.vm_model.specs.declared.tables.Tables.{Tables}
use Rattle.vm_model.specs.Seen.{actor_seen, cache_seen, pages_seen, region_seen, machine_seen, IsPlaced, ArePlaced, HasPages, AreTablesSound}
use Rattle.vm_model.proofs.Parts.Lists.{at_number, is_there, length-overwrite, numbered-map, numbered-set, sum_by_same}

get-push : {A : Type 0} (xs : List A) (x : A) (n : ℕ) (y : A) → slice_get xs n ≡ Some y → slice_get (xs ++ x ∷ []) n ≡ Some y
get-push [] x n y e = absurd (search rules)
get-push (a ∷ xs) x zero y e = e
get-push (a ∷ xs) x (suc n) y e = get-push xs x n y e

flat : {A : Type 0} (o : Option (Option A)) (y : A) → option_and_then (λ z. z) o ≡ Some y → o ≡ Some (Some y)
flat None y e = absurd (search rules)
flat (Some z) y e = ap Some e

numbered_at : {A : Type 0} (b : Bool) (xs : List (Option A)) (x : Option A) (n : ℕ) (y : A) → cond b None (option_and_then (λ z. z) (slice_get xs n)) ≡ Some y → cond b None (option_and_then (λ z. z) (slice_get (xs ++ x ∷ []) n)) ≡ Some y
numbered_at true xs x n y e = e
numbered_at false xs x n y e = ap (option_and_then (λ z. z)) (get-push xs x n (Some y) (flat (slice_get xs n) y e))

-- what had a number has it behind a push
pub numbered-push : {A : Type 0} (xs : List (Option A)) (x : Option A) (n : ℕ) (y : A) → numbered xs n ≡ Some y → numbered (xs ++ x ∷ []) n ≡ Some y
numbered-push xs x n y e = numbered_at (n == 0) xs x (n - 1) y e

placed_more : (b : ℕ) (cs : List (Option Cache)) (c : Option Cache) (r : Region) → IsPlaced b cs r → IsPlaced b (cs ++ c ∷ []) r
placed_more b cs c r p = record { ends = p.ends; cache = p.cache; there = numbered-push cs c r.cache.0 p.cache p.there; within = p.within }

actor_more : (b : ℕ) (cs : List (Option Cache)) (c : Option Cache) (a : Option Actor) → ArePlaced b cs a → ArePlaced b (cs ++ c ∷ []) a
actor_more b cs c None p = tt
actor_more b cs c (Some a) p = All-weaker (IsPlaced b cs) (IsPlaced b (cs ++ c ∷ [])) (placed_more b cs c) a.regions.items p

-- regions stay placed where a cache is added
pub placed-push : (b : ℕ) (cs : List (Option Cache)) (c : Option Cache) (xs : List (Option Actor)) → All (ArePlaced b cs) xs → All (ArePlaced b (cs ++ c ∷ [])) xs
placed-push b cs c xs p = All-weaker (ArePlaced b cs) (ArePlaced b (cs ++ c ∷ [])) (actor_more b cs c) xs p

pub live-push : (cs : List (Option Cache)) (c : Option Cache) → sum_by pages_in (map (option_map cache_seen) (cs ++ c ∷ [])) ≡ sum_by pages_in (map (option_map cache_seen) cs) + pages_in (option_map cache_seen c)
live-push cs c = ap (sum_by pages_in) (map_push (option_map cache_seen) cs c) ∙ sum_by_push pages_in (map (option_map cache_seen) cs) (option_map cache_seen c)

pub all_from_map : {A B : Type 0} (f : A → B) (P : B → Type 0) (ys : List A) → All P (map f ys) → All (λ y. P (f y)) ys
all_from_map f P [] h = All-nil (λ y. P (f y))
all_from_map f P (y ∷ ys) h = All-cons (λ y. P (f y)) y ys (All-head P (f y) (map f ys) h) (all_from_map f P ys (All-tail P (f y) (map f ys) h))

-- zero pages are whole
pub zeros_whole : (c : Cache) (n b : ℕ) → map (λ p. p.items) c.pages.items ≡ replicate n (zero_page b) → HasPages b (Some c)
zeros_whole c n b e = all_from_map (λ p. p.items) (λ (xs : List ℕ). length xs ≡ b) c.pages.items
    (All-same (λ (xs : List ℕ). length xs ≡ b) _ _ e (All-replicate (λ (xs : List ℕ). length xs ≡ b) n (zero_page b) (length-replicate b 0)))

all_at : {A : Type 0} (P : A → Type 0) (xs : List A) (k : ℕ) (y : A) → slice_get xs k ≡ Some y → All P xs → P y
all_at P [] k y e h = absurd (search rules)
all_at P (x ∷ xs) zero y e h = let same : x ≡ y = cc in subst P same (All-head P x xs h)
all_at P (x ∷ xs) (suc k) y e h = all_at P xs k y e (All-tail P x xs h)

all_if : {A : Type 0} (b : Bool) (P : Option A → Type 0) (xs : List (Option A)) (k : ℕ) (y : A) → cond b None (option_and_then (λ z. z) (slice_get xs k)) ≡ Some y → All P xs → P (Some y)
all_if true P xs k y e h = absurd (search rules)
all_if false P xs k y e h = all_at P xs k (Some y) (flat (slice_get xs k) y e) h

-- what holds of each holds of the one with a number
pub numbered-all : {A : Type 0} (P : Option A → Type 0) (xs : List (Option A)) (n : ℕ) (y : A) → numbered xs n ≡ Some y → All P xs → P (Some y)
numbered-all P xs n y e h = all_if (n == 0) P xs (n - 1) y e h

-- a page of a region is there, and whole
pub page_there : (b : ℕ) (cs : List (Option Cache)) (r : Region) (page : ℕ) → All (HasPages b) cs → (p : IsPlaced b cs r) → page < r.offset + r.pages
    → (bytes : List ℕ) × (option_and_then (λ (c : Cache). slice_get (map (λ p. p.items) c.pages.items) page) (numbered cs r.cache.0) ≡ Some bytes) × (length bytes ≡ b)
page_there b cs r page all p within =
    let xs : List (List ℕ) = map (λ v. v.items) p.cache.pages.items in
    let below : page < length xs = omega (arith, p.within, length-map p.cache.pages.items (λ v. v.items)) in
    let got : slice_get xs page ≡ Some (get_or xs page []) = slice_get-get_or xs page [] below in
    let each : All (λ (y : List ℕ). length y ≡ b) xs = All-map (λ (y : List ℕ). length y ≡ b) (λ v. v.items) p.cache.pages.items (numbered-all (HasPages b) cs r.cache.0 p.cache p.there all) in
    (get_or xs page [], ap (option_and_then (λ (c : Cache). slice_get (map (λ p. p.items) c.pages.items) page)) p.there ∙ got, All-get_or (λ (y : List ℕ). length y ≡ b) xs page [] below each)

whole_cache : (b : ℕ) (c : Option Cache) → HasPages b c → IsWhole b (option_map cache_seen c)
whole_cache b None h = tt
whole_cache b (Some c) h = All-map (λ (y : List ℕ). length y ≡ b) (λ v. v.items) c.pages.items h

-- the machine's pages have all their bytes
pub whole : (t : Tables) → AreTablesSound t → HasWholePages (machine_seen t)
whole t s = All-map (IsWhole t.page_bytes) (option_map cache_seen) t.caches.items (All-weaker (HasPages t.page_bytes) (λ c. IsWhole t.page_bytes (option_map cache_seen c)) (whole_cache t.page_bytes) t.caches.items s.whole)

placed_still : (b : ℕ) (cs : List (Option Cache)) (n : ℕ) (c d : Cache) → numbered cs n ≡ Some c → length d.pages.items ≡ length c.pages.items → (r : Region) → IsPlaced b cs r → IsPlaced b (set cs (n - 1) (Some d)) r
placed_still b cs n c d there same r p = elim (numbered-set cs n r.cache.0 c d p.cache there p.there) [
  | inl e ↦ record { ends = p.ends; cache = p.cache; there = e; within = p.within }
  | inr e ↦ record { ends = p.ends; cache = d; there = e.1; within = omega (arith, p.within, same, ap (λ (x : Cache). length x.pages.items) e.0) }
]

actor_still : (b : ℕ) (cs : List (Option Cache)) (n : ℕ) (c d : Cache) → numbered cs n ≡ Some c → length d.pages.items ≡ length c.pages.items → (a : Option Actor) → ArePlaced b cs a → ArePlaced b (set cs (n - 1) (Some d)) a
actor_still b cs n c d there same None p = tt
actor_still b cs n c d there same (Some a) p = All-weaker (IsPlaced b cs) (IsPlaced b (set cs (n - 1) (Some d))) (placed_still b cs n c d there same) a.regions.items p

live_still : (cs : List (Option Cache)) (n : ℕ) (c d : Cache) → numbered cs n ≡ Some c → length d.pages.items ≡ length c.pages.items → sum_by pages_in (map (option_map cache_seen) (set cs (n - 1) (Some d))) ≡ sum_by pages_in (map (option_map cache_seen) cs)
live_still cs n c d there same =
    ap (sum_by pages_in) (map-set (option_map cache_seen) cs (n - 1) (Some d))
    ∙ sum_by_same pages_in (map (option_map cache_seen) cs) (n - 1) (Some (cache_seen c)) (Some (cache_seen d))
    (slice_get-map (option_map cache_seen) cs (n - 1) ∙ ap (option_map (option_map cache_seen)) (at_number cs n c there))
    (omega (arith, same, length-map d.pages.items (λ p. p.items), length-map c.pages.items (λ p. p.items)))

-- the tables stay sound where a cache is replaced by one with as many pages, each whole
pub sound-put : (t : Tables) (n : ℕ) (c d : Cache) (caches : Vec (Option Cache) Global) → caches.items ≡ set t.caches.items (n - 1) (Some d) → numbered t.caches.items n ≡ Some c → length d.pages.items ≡ length c.pages.items → HasPages t.page_bytes (Some d) → AreTablesSound t → AreTablesSound (record t { caches = caches })
sound-put t n c d caches items there same pages s = record {
  some = s.some;
  most = s.most;
  few_actors = s.few_actors;
  few_caches = omega (arith, s.few_caches, ap length items, length-set t.caches.items (n - 1) (Some d));
  living = s.living;
  live = rw items (s.live ∙ sym (live_still t.caches.items n c d there same));
  whole = rw items (All-set (HasPages t.page_bytes) t.caches.items (n - 1) (Some d) pages s.whole);
  placed = subst (λ (cs : List (Option Cache)). All (ArePlaced t.page_bytes cs) t.actors.items) (sym items) (All-weaker (ArePlaced t.page_bytes t.caches.items) (ArePlaced t.page_bytes (set t.caches.items (n - 1) (Some d))) (actor_still t.page_bytes t.caches.items n c d there same) t.actors.items s.placed);
}

-- the machine then has the cache replaced
pub seen-put : (t : Tables) (n : ℕ) (d : Cache) (caches : Vec (Option Cache) Global) → caches.items ≡ set t.caches.items (n - 1) (Some d) → machine_seen (record t { caches = caches }) ≡ put_cache (machine_seen t) n (cache_seen d)
seen-put t n d caches items = ap (λ cs. record (machine_seen t) { caches = cs }) (ap (map (option_map cache_seen)) items ∙ map-set (option_map cache_seen) t.caches.items (n - 1) (Some d))

-- a cache in which bytes of a page were written: as many pages, each whole
pub length-written : (c d : Cache) (page : ℕ) (bytes : List ℕ) → pages_seen d ≡ set (pages_seen c) page bytes → length d.pages.items ≡ length c.pages.items
length-written c d page bytes e = sym (length-map d.pages.items (λ p. p.items)) ∙ ap length e ∙ length-set (pages_seen c) page bytes ∙ length-map c.pages.items (λ p. p.items)

page_whole : (b : ℕ) (c : Cache) (page : ℕ) → HasPages b (Some c) → page < length c.pages.items → length (unwrap_or (slice_get (pages_seen c) page) []) ≡ b
page_whole b c page h below =
    ap length (unwrap_or-slice_get (pages_seen c) page [])
    ∙ All-get_or (λ (y : List ℕ). length y ≡ b) (pages_seen c) page [] (omega (arith, length-map c.pages.items (λ p. p.items))) (All-map (λ (y : List ℕ). length y ≡ b) (λ v. v.items) c.pages.items h)

pub whole-written : (b : ℕ) (c d : Cache) (page at : ℕ) (bytes : List ℕ) → HasPages b (Some c) → page < length c.pages.items → at + length bytes ≤ b → pages_seen d ≡ set (pages_seen c) page (overwrite at bytes (unwrap_or (slice_get (pages_seen c) page) [])) → HasPages b (Some d)
whole-written b c d page at bytes h below fits e =
    let P : List ℕ → Type 0 = λ (y : List ℕ). length y ≡ b in
    let old : List ℕ = unwrap_or (slice_get (pages_seen c) page) [] in
    let whole : length old ≡ b = page_whole b c page h below in
    let put : length (overwrite at bytes old) ≡ b = length-overwrite at bytes old (omega (arith, whole, fits)) ∙ whole in
    all_from_map (λ p. p.items) P d.pages.items (All-same P _ _ e (All-set P (pages_seen c) page (overwrite at bytes old) put (All-map P (λ v. v.items) c.pages.items h)))

-- the machine then has the bytes written
pub seen-written : (t : Tables) (p : Place) (c d : Cache) (bytes : List ℕ) → numbered t.caches.items p.region.cache ≡ Some c → d.segment ≡ c.segment → pages_seen d ≡ set (pages_seen c) p.page (overwrite p.byte bytes (unwrap_or (slice_get (pages_seen c) p.page) [])) → put_cache (machine_seen t) p.region.cache (cache_seen d) ≡ write_at (machine_seen t) p bytes
seen-written t p c d bytes there named e =
    let m = machine_seen t in
    let n = p.region.cache in
    let found : model.cache_of m n ≡ Some (cache_seen c) = numbered-map cache_seen t.caches.items n ∙ ap (option_map cache_seen) there in
    ap (λ (seg : Option SegId). put_cache m n (record { segment = option_map (λ s. s.0) seg; pages = pages_seen d })) named
    ∙ ap (λ (ps : List (List ℕ)). put_cache m n (record { segment = option_map (λ s. s.0) c.segment; pages = ps })) e
    ∙ sym (ap (λ (o : Option model.Cache). option_map_or (λ x. put_cache m n (put_page p.page (overwrite p.byte bytes (option_map_or (λ (y : model.Cache). unwrap_or (slice_get y.pages p.page) []) o [])) x)) o m) found)

-- what an index finds is the cache with the number
pub found_is : (cs : List (Option Cache)) (n : ℕ) (c d : Cache) (found : Option Cache) → numbered cs n ≡ Some c → found ≡ get_or cs (n - 1) found → found ≡ Some d → d ≡ c
found_is cs n c d found there e is = let at = get_or_from_slice_get cs (n - 1) (Some c) found (at_number cs n c there) in cc

-- a cache into which whole pages were put
pub whole-put : (b : ℕ) (c d : Cache) (first : ℕ) (pages : List (Vec ℕ Global)) → HasPages b (Some c) → All (λ p. length p.items ≡ b) pages → pages_seen d ≡ overwrite first (map (λ p. p.items) pages) (pages_seen c) → HasPages b (Some d)
whole-put b c d first pages old new e =
    let P : List ℕ → Type 0 = λ (y : List ℕ). length y ≡ b in
    let all : All P (pages_seen c) = All-map P (λ v. v.items) c.pages.items old in
    let put : All P (map (λ p. p.items) pages) = All-map P (λ v. v.items) pages new in
    all_from_map (λ p. p.items) P d.pages.items (All-same P _ _ e
    (All-append P (take first (pages_seen c) ++ map (λ p. p.items) pages) _ (All-append P (take first (pages_seen c)) _ (All-take P first (pages_seen c) all) put) (All-drop P (first + length (map (λ p. p.items) pages)) (pages_seen c) all)))

-- some pages of a cache, as the machine has them
pub part_seen : (c : Cache) (first n : ℕ) → map (λ p. p.items) (take (first + n - first) (drop first c.pages.items)) ≡ take n (drop first (pages_seen c))
part_seen c first n =
    let many : first + n - first ≡ n = omega arith in
    sym (take-map (λ p. p.items) (first + n - first) (drop first c.pages.items)) ∙ ap (take (first + n - first)) (sym (drop-map (λ p. p.items) first c.pages.items)) ∙ ap (λ (k : ℕ). take k (drop first (pages_seen c))) many

pub whole_part : (b : ℕ) (c : Cache) (pages : List (Vec ℕ Global)) (first n : ℕ) → HasPages b (Some c) → map (λ p. p.items) pages ≡ take n (drop first (pages_seen c)) → All (λ p. length p.items ≡ b) pages
whole_part b c pages first n h e =
    let P : List ℕ → Type 0 = λ (y : List ℕ). length y ≡ b in
    all_from_map (λ p. p.items) P pages (All-same P _ _ e (All-take P n (drop first (pages_seen c)) (All-drop P first (pages_seen c) (All-map P (λ v. v.items) c.pages.items h))))

-- the machine after a copy
pub seen_copied : (t : Tables) (n first : ℕ) (d : Cache) (pages copied : List (List ℕ)) → numbered t.caches.items n ≡ Some d → pages ≡ copied
    → record (machine_seen t) { caches = set (machine_seen t).caches (n - 1) (option_map (λ c. put_pages first pages (cache_seen c)) (numbered t.caches.items n)) } ≡ put_cache (machine_seen t) n (put_pages first copied (cache_seen d))
seen_copied t n first d pages copied there e =
    ap (λ (o : Option Cache). record (machine_seen t) { caches = set (machine_seen t).caches (n - 1) (option_map (λ c. put_pages first pages (cache_seen c)) o) }) there
    ∙ ap (λ ps. put_cache (machine_seen t) n (put_pages first ps (cache_seen d))) e

-- an actor whose regions are replaced by placed ones
pub placed-set : (b : ℕ) (cs : List (Option Cache)) (xs : List (Option Actor)) (i : ℕ) (a : Actor) → All (IsPlaced b cs) a.regions.items → All (ArePlaced b cs) xs → All (ArePlaced b cs) (set xs i (Some a))
placed-set b cs xs i a p h = All-set (ArePlaced b cs) xs i (Some a) p h

-- a placed region among placed ones
pub placed-insert : (b : ℕ) (cs : List (Option Cache)) (rs : List Region) (at : ℕ) (r : Region) → IsPlaced b cs r → All (IsPlaced b cs) rs → All (IsPlaced b cs) (insert rs at r)
placed-insert b cs rs at r p h = All-append (IsPlaced b cs) (take at rs) (r ∷ drop at rs) (All-take (IsPlaced b cs) at rs h) (All-cons (IsPlaced b cs) r (drop at rs) p (All-drop (IsPlaced b cs) at rs h))

-- as many actors live where a living one is replaced
pub living-set : (xs : List (Option Actor)) (n : ℕ) (a : Actor) (regions : model.Actor) → numbered xs n ≡ Some a → count_by is_some (set (map (option_map actor_seen) xs) (n - 1) (Some regions)) ≡ count_by is_some (map (option_map actor_seen) xs)
living-set xs n a regions there = sum_by_same (λ o. cond (is_some o) 1 0) (map (option_map actor_seen) xs) (n - 1) (Some (actor_seen a)) (Some regions)
    (slice_get-map (option_map actor_seen) xs (n - 1) ∙ ap (option_map (option_map actor_seen)) (at_number xs n a there)) refl

-- regions after one was to be added
pub placed-added : (b : ℕ) (cs : List (Option Cache)) (r : Region) (before after : List Region) (result : Result (Unit {0}) NoMemory) → OnOk result ((at : ℕ) × (after ≡ insert before at r)) → OnErr result (after ≡ before) → IsPlaced b cs r → All (IsPlaced b cs) before → All (IsPlaced b cs) after
placed-added b cs r before after (Ok x) ok err p h = All-same (IsPlaced b cs) after (insert before ok.0 r) ok.1 (placed-insert b cs before ok.0 r p h)
placed-added b cs r before after (Err e) ok err p h = All-same (IsPlaced b cs) after before err h

-- the tables stay sound where the actors change, if as many live and all their regions are placed
pub sound-actors : (t : Tables) (actors : Vec (Option Actor) Global) (made : ℕ) → length actors.items ≡ length t.actors.items → count_by is_some (map (option_map actor_seen) actors.items) ≡ count_by is_some (map (option_map actor_seen) t.actors.items) → All (ArePlaced t.page_bytes t.caches.items) actors.items → AreTablesSound t → AreTablesSound (record t { actors = actors; regions_made = made })
sound-actors t actors made many living placed s = record {
  some = s.some;
  most = s.most;
  few_actors = omega (arith, many, s.few_actors);
  few_caches = s.few_caches;
  living = s.living ∙ sym living;
  live = s.live;
  whole = s.whole;
  placed = placed;
}

-- as many actors live after a region was to be added to one
pub living-added : (t : Tables) (actors : List (Option Actor)) (n : ℕ) (r : Region) (result : Result (Unit {0}) NoMemory) → IsSome (numbered t.actors.items n)
    → OnOk result (map (option_map actor_seen) actors ≡ set (map (option_map actor_seen) t.actors.items) (n - 1) (option_map (λ a. insert_region (region_seen r) (actor_seen a)) (numbered t.actors.items n)))
    → OnErr result (map (option_map actor_seen) actors ≡ map (option_map actor_seen) t.actors.items)
    → count_by is_some (map (option_map actor_seen) actors) ≡ count_by is_some (map (option_map actor_seen) t.actors.items)
living-added t actors n r (Ok x) there ok err =
    let a = is_there (numbered t.actors.items n) there in
    ap (count_by is_some) (ok ∙ ap (λ (o : Option Actor). set (map (option_map actor_seen) t.actors.items) (n - 1) (option_map (λ a. insert_region (region_seen r) (actor_seen a)) o)) a.1)
    ∙ living-set t.actors.items n a.0 (insert_region (region_seen r) (actor_seen a.0)) a.1
living-added t actors n r (Err e) there ok err = ap (count_by is_some) err

-- a mapping that nothing refuses
pub map_row : (t : Tables) (actor : ℕ) (p : Mapping) (a : Actor) (c : Cache) → numbered t.actors.items actor ≡ Some a → numbered t.caches.items p.extent.cache.0 ≡ Some c
    → (p.address % t.page_bytes == 0) ≡ true → nat_lt (2 ^ 48) (p.address + t.page_bytes * p.extent.pages) ≡ false → passes_end (cache_seen c) p.extent.first.0 p.extent.pages ≡ false
    → list_any (overlaps t.page_bytes p.address p.extent.pages) (actor_seen a) ≡ false → nat_le MOST_MADE t.regions_made ≡ false
    → map_of (machine_seen t) actor p ≡ reply (replies.Region (record { 0 = t.regions_made + 1 })) (add_region (machine_seen t) actor (actor_seen a) p)
unfolding map_of with_some unless
map_row t actor p a c here there aligned below inside apart fewer =
    let here' : model.actor_of (machine_seen t) actor ≡ Some (actor_seen a) = numbered-map actor_seen t.actors.items actor ∙ ap (option_map actor_seen) here in
    let there' : model.cache_of (machine_seen t) p.extent.cache.0 ≡ Some (cache_seen c) = numbered-map cache_seen t.caches.items p.extent.cache.0 ∙ ap (option_map cache_seen) there in
    rw (here', there', aligned, below, inside, apart, fewer) refl

-- the machine after a mapping
pub seen_added : (t : Tables) (n : ℕ) (p : Mapping) (a : Actor) (r : Region) → numbered t.actors.items n ≡ Some a → region_seen r ≡ region_of (t.regions_made + 1) p
    → record (machine_seen t) { regions_made = t.regions_made + 1; actors = set (machine_seen t).actors (n - 1) (option_map (λ a. insert_region (region_seen r) (actor_seen a)) (numbered t.actors.items n)) } ≡ add_region (machine_seen t) n (actor_seen a) p
seen_added t n p a r here e =
    ap (λ (o : Option Actor). record (machine_seen t) { regions_made = t.regions_made + 1; actors = set (machine_seen t).actors (n - 1) (option_map (λ a. insert_region (region_seen r) (actor_seen a)) o) }) here
    ∙ ap (λ (x : model.Region). record (machine_seen t) { regions_made = t.regions_made + 1; actors = set (machine_seen t).actors (n - 1) (Some (insert_region x (actor_seen a))) }) e
