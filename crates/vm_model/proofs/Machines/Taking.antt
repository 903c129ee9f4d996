-- Caches and regions that go, and pages that move.
use Rattle.std.proofs.Common.{◌≡◌, ◌≢◌, ◌==◌, ℕ, suc, zero, ◌+◌, ◌-◌, ◌<◌, ◌≤◌, Bool, true, false, cond, not, List, [], ◌∷◌, ◌++◌, length, set, take, drop, map, filter, get_or, Option, Some, None, refl, sym, ap, subst, ◌∙◌, arith, rules, inl, inr, Vec, Global}
use Rattle.std.specs.Prelude.{IsSomeAnd, option_map, count_by, is_some, ◌||◌, nat_lt}
use Rattle.std.specs.List.{All, list_any}
use Rattle.std.specs.Option.{option_map_or}
use Rattle.std.proofs.lemmas.Bool.Decides.{nat_tests}
use Rattle.std.proofs.lemmas.List.{map-set, length-map, length-set, length-drop, length-take-le, append-nil, drop_all, take_all, get_or-map}
use Rattle.std.proofs.lemmas.List.Elements.{All-set, All-same, All-nil, All-cons, All-head, All-tail}
use Rattle.std.proofs.lemmas.List.Sums.{sum_by-cons}
use Rattle.std.proofs.lemmas.Option.{slice_get-map}
use Rattle.vm_ids.specs.declared.numbers.CacheId.{CacheId}
use Rattle.vm_ids.specs.declared.numbers.PageNo.{PageNo}
use Rattle.vm_ids.specs.declared.reply.Reply.TheVariants as replies
use Rattle.vm_ids.specs.Forest.Commands.{page_name}
use Rattle.vm_model.specs.Machine as model
use Rattle.vm_model.specs.Machine.{numbered, pages_in, zero_page}
use Rattle.vm_model.specs.PageForest.{plain_forest}
use Rattle.vm_model.specs.Answering.{destroy_of, exit_actor_of, unmap_of, chain_answer, change_cache, maps_in, passes_end, put_cache, put_pages, reply, unless, with_some, without_region}
use Rattle.vm_model.specs.Regions.{region_with}
use Rattle.vm_model.specs.declared.tables.Actor.{Actor}
use Rattle.vm_model.specs.declared.tables.Cache.{Cache}
use Rattle.vm_model.specs.declared.tables.Region.{Region}
use Rattle.vm_model.specs.declared.tables.Tables.{Tables}
use Rattle.vm_model.specs.Seen.{actor_seen, cache_seen, pages_seen, region_seen, machine_seen, IsPlaced, ArePlaced, HasPages, AreTablesSound}
use Rattle.vm_model.proofs.Parts.Lists.{length-overwrite, at_number, numbered-map, numbered-set, numbered_place, sum_by_swap, numbered-other}
use Rattle.vm_model.proofs.Forests.Plain.{plain_chain}

-- A cache that goes

neither : (a b : Bool) → (a || b) ≡ false → (a ≡ false) × (b ≡ false)
neither true b e = absurd (search rules)
neither false b e = (refl, e)

other_number : (n k : ℕ) → (k == n) ≡ false → k ≢ n
other_number n k e same = grind (arith, nat_tests)

module _ (b n : ℕ) (cs : List (Option Cache)) (some : 1 ≤ n) where
  abbrev without_cache : List (Option Cache)
  without_cache = set cs (n - 1) None

  placed_region : (r : Region) → (r.cache.0 == n) ≡ false → IsPlaced b cs r → IsPlaced b without_cache r
  placed_region r apart p = record { ends = p.ends; cache = p.cache; there = numbered-other cs n r.cache.0 None p.cache some (other_number n r.cache.0 apart) p.there; within = p.within }

  placed_regions : (rs : List Region) → list_any (λ (r : model.Region). r.cache == n) (map region_seen rs) ≡ false → All (IsPlaced b cs) rs → All (IsPlaced b without_cache) rs
  placed_regions [] none p = All-nil (IsPlaced b without_cache)
  placed_regions (r ∷ rs) none p =
      let each = neither (r.cache.0 == n) (list_any (λ (r : model.Region). r.cache == n) (map region_seen rs)) none in
      All-cons (IsPlaced b without_cache) r rs (placed_region r each.0 (All-head (IsPlaced b cs) r rs p)) (placed_regions rs each.1 (All-tail (IsPlaced b cs) r rs p))

  placed_actor : (a : Option Actor) → maps_in n (option_map actor_seen a) ≡ false → ArePlaced b cs a → ArePlaced b without_cache a
  placed_actor None none p = tt
  placed_actor (Some a) none p = placed_regions a.regions.items none p

  placed_actors : (xs : List (Option Actor)) → list_any (maps_in n) (map (option_map actor_seen) xs) ≡ false → All (ArePlaced b cs) xs → All (ArePlaced b without_cache) xs
  placed_actors [] none p = All-nil (ArePlaced b without_cache)
  placed_actors (x ∷ xs) none p =
      let each = neither (maps_in n (option_map actor_seen x)) (list_any (maps_in n) (map (option_map actor_seen) xs)) none in
      All-cons (ArePlaced b without_cache) x xs (placed_actor x each.0 (All-head (ArePlaced b cs) x xs p)) (placed_actors xs each.1 (All-tail (ArePlaced b cs) x xs p))

-- the pages of a cache are among the live ones
pub pages_live : (t : Tables) (n : ℕ) (c : Cache) → numbered t.caches.items n ≡ Some c → AreTablesSound t → length c.pages.items ≤ t.live
pages_live t n c there s = omega (arith, s.live, sum_by_swap pages_in (machine_seen t).caches (n - 1) (Some (cache_seen c)) None (slice_get-map (option_map cache_seen) t.caches.items (n - 1) ∙ ap (option_map (option_map cache_seen)) (at_number t.caches.items n c there)), length-map c.pages.items (λ p. p.items))

-- how many pages the machine has in it
pub counted : (t : Tables) (n : ℕ) (c : Cache) → numbered t.caches.items n ≡ Some c → pages_in (model.cache_of (machine_seen t) n) ≡ length c.pages.items
counted t n c there = ap pages_in (numbered-map cache_seen t.caches.items n ∙ ap (option_map cache_seen) there) ∙ length-map c.pages.items (λ p. p.items)

-- the tables stay sound where a cache goes that no region maps
pub sound-taken : (t : Tables) (n : ℕ) (c : Cache) (caches : Vec (Option Cache) Global) (live : ℕ) → caches.items ≡ set t.caches.items (n - 1) None → numbered t.caches.items n ≡ Some c
    → list_any (maps_in n) (map (option_map actor_seen) t.actors.items) ≡ false → live + length c.pages.items ≡ t.live → AreTablesSound t → AreTablesSound (record t { caches = caches; live = live })
sound-taken t n c caches live items there free left s =
    let swap = sum_by_swap pages_in (machine_seen t).caches (n - 1) (Some (cache_seen c)) None (slice_get-map (option_map cache_seen) t.caches.items (n - 1) ∙ ap (option_map (option_map cache_seen)) (at_number t.caches.items n c there)) in
    record {
      some = s.some;
      most = s.most;
      few_actors = s.few_actors;
      few_caches = omega (arith, s.few_caches, ap length items, length-set t.caches.items (n - 1) None);
      living = s.living;
      live = rw items (rw map-set (omega (arith, left, s.live, swap, length-map c.pages.items (λ p. p.items))));
      whole = rw items (All-set (HasPages t.page_bytes) t.caches.items (n - 1) None tt s.whole);
      placed = subst (λ (cs : List (Option Cache)). All (ArePlaced t.page_bytes cs) t.actors.items) (sym items) (placed_actors t.page_bytes n t.caches.items (numbered_place t.caches.items n c there).0 t.actors.items free s.placed);
    }

-- a destroy that nothing refuses
pub destroy_row : (t : Tables) (n : ℕ) (c : Cache) → numbered t.caches.items n ≡ Some c → list_any (maps_in n) (map (option_map actor_seen) t.actors.items) ≡ false
    → destroy_of (machine_seen t) n ≡ reply replies.Done (record (machine_seen t) { caches = set (machine_seen t).caches (n - 1) None })
unfolding destroy_of with_some unless
destroy_row t n c there free =
    let there' : model.cache_of (machine_seen t) n ≡ Some (cache_seen c) = numbered-map cache_seen t.caches.items n ∙ ap (option_map cache_seen) there in
    rw (there', free) refl

-- the machine then has no such cache
pub seen_taken : (t : Tables) (n live : ℕ) (caches : Vec (Option Cache) Global) → caches.items ≡ set t.caches.items (n - 1) None → machine_seen (record t { caches = caches; live = live }) ≡ record (machine_seen t) { caches = set (machine_seen t).caches (n - 1) None }
seen_taken t n live caches items = ap (λ cs. record (machine_seen t) { caches = cs }) (ap (map (option_map cache_seen)) items ∙ map-set (option_map cache_seen) t.caches.items (n - 1) None)

-- An actor that ends

-- it counts among the living ones
left_living : (t : Tables) (n : ℕ) (a : Actor) → numbered t.actors.items n ≡ Some a → AreTablesSound t → count_by is_some (set (machine_seen t).actors (n - 1) None) + 1 ≡ t.living
left_living t n a there s =
    omega (arith, s.living, sum_by_swap (λ o. cond (is_some o) 1 0) (machine_seen t).actors (n - 1) (Some (actor_seen a)) None (slice_get-map (option_map actor_seen) t.actors.items (n - 1) ∙ ap (option_map (option_map actor_seen)) (at_number t.actors.items n a there)))

pub some_living : (t : Tables) (n : ℕ) (a : Actor) → numbered t.actors.items n ≡ Some a → AreTablesSound t → 1 ≤ t.living
some_living t n a there s = omega (arith, left_living t n a there s)

-- the tables stay sound without it
pub sound_ended : (t : Tables) (n : ℕ) (a : Actor) (actors : Vec (Option Actor) Global) (living : ℕ) → actors.items ≡ set t.actors.items (n - 1) None → numbered t.actors.items n ≡ Some a → living + 1 ≡ t.living → AreTablesSound t → AreTablesSound (record t { actors = actors; living = living })
sound_ended t n a actors living items there left s = record {
  some = s.some;
  most = s.most;
  few_actors = omega (arith, s.few_actors, ap length items, length-set t.actors.items (n - 1) None);
  few_caches = s.few_caches;
  living = let fewer : living ≡ count_by is_some (set (machine_seen t).actors (n - 1) None) = omega (arith, left, left_living t n a there s) in fewer ∙ ap (count_by is_some) (sym (ap (map (option_map actor_seen)) items ∙ map-set (option_map actor_seen) t.actors.items (n - 1) None));
  live = s.live;
  whole = s.whole;
  placed = All-same (ArePlaced t.page_bytes t.caches.items) actors.items (set t.actors.items (n - 1) None) items (All-set (ArePlaced t.page_bytes t.caches.items) t.actors.items (n - 1) None tt s.placed);
}

-- an exit that isn't refused, and the machine after it
pub exit_row : (t : Tables) (n : ℕ) (a : Actor) (actors : Vec (Option Actor) Global) (living : ℕ) → numbered t.actors.items n ≡ Some a → actors.items ≡ set t.actors.items (n - 1) None → exit_actor_of (machine_seen t) n ≡ reply replies.Done (machine_seen (record t { actors = actors; living = living }))
unfolding exit_actor_of with_some
exit_row t n a actors living there items =
    let there' : model.actor_of (machine_seen t) n ≡ Some (actor_seen a) = numbered-map actor_seen t.actors.items n ∙ ap (option_map actor_seen) there in
    rw there' (ap (λ (xs : List (Option model.Actor)). reply replies.Done (record (machine_seen t) { actors = xs })) (sym (ap (map (option_map actor_seen)) items ∙ map-set (option_map actor_seen) t.actors.items (n - 1) None)))

-- A region that goes

abbrev without_row : Tables → ℕ → model.Machine
without_row t n = record (machine_seen t) { actors = map (option_map (without_region n)) (machine_seen t).actors }

-- an unmap that nothing refuses
pub unmap_row : (t : Tables) (n : ℕ) (r : model.Region) → region_with n (machine_seen t).actors ≡ Some r → r.locked ≡ false → unmap_of (machine_seen t) n ≡ reply replies.Done (without_row t n)
unfolding unmap_of with_some unless
unmap_row t n r e unlocked = rw (e, unlocked) refl

-- a list whose front is changed, and one more
pub mapped_more : {A : Type 0} (g : A → A) (xs : List A) (k : ℕ) (d : A) → k < length xs → set (map g (take k xs) ++ drop k xs) k (g (get_or (map g (take k xs) ++ drop k xs) k d)) ≡ map g (take (suc k) xs) ++ drop (suc k) xs
mapped_more g [] k d less = absurd (omega arith)
mapped_more g (x ∷ xs) zero d less = refl
mapped_more g (x ∷ xs) (suc k) d less = ap (λ ys. g x ∷ ys) (mapped_more g xs k d (omega arith))

pub mapped_next : {A B : Type 0} (f : A → B) (g : B → B) (xs : List B) (ys : List A) (k : ℕ) (y z : A) → k < length ys → map f ys ≡ map g (take k xs) ++ drop k xs → length ys ≡ length xs → y ≡ get_or ys k y → f z ≡ g (f y) → map f (set ys k z) ≡ map g (take (k + 1) xs) ++ drop (k + 1) xs
mapped_next {A} {B} f g xs ys k y z less seen many is change =
    let next : suc k ≡ k + 1 = omega arith in
    map-set f ys k z
    ∙ ap (λ (v : B). set (map f ys) k v) (change ∙ ap (λ (v : A). g (f v)) is ∙ ap g (sym (get_or-map f ys k y (f y) less)))
    ∙ ap (λ (vs : List B). set vs k (g (get_or vs k (f y)))) seen
    ∙ mapped_more g xs k (f y) (omega (arith, many))
    ∙ ap (λ (n : ℕ). map g (take n xs) ++ drop n xs) next

pub mapped_all : {B : Type 0} (g : B → B) (xs : List B) (k : ℕ) → length xs ≤ k → map g (take k xs) ++ drop k xs ≡ map g xs
mapped_all {B} g xs k h = ap (λ (ys : List B). map g (take k xs) ++ ys) (drop_all k xs h) ∙ append-nil (map g (take k xs)) ∙ ap (map g) (take_all k xs h)

-- the regions of a placed actor but for some are placed
pub All-filter : {A : Type 0} (P : A → Type 0) (test : A → Bool) (xs : List A) → All P xs → All P (filter test xs)
All-filter P test [] h = h
All-filter {A} P test (x ∷ xs) h = go (test x) (All-filter P test xs (All-tail P x xs h))
  where
    go : (b : Bool) → All P (filter test xs) → All P (cond b (x ∷ filter test xs) (filter test xs))
    go true rest = All-cons P x (filter test xs) (All-head P x xs h) rest
    go false rest = rest

pub seen_filter : (n : ℕ) (rs : List Region) → map region_seen (filter (λ (r : Region). not (r.number.0 == n)) rs) ≡ without_region n (map region_seen rs)
seen_filter n [] = refl
seen_filter n (r ∷ rs) = go (not (r.number.0 == n)) (seen_filter n rs)
  where
    go : (b : Bool) → map region_seen (filter (λ (r : Region). not (r.number.0 == n)) rs) ≡ without_region n (map region_seen rs) → map region_seen (cond b (r ∷ filter (λ (r : Region). not (r.number.0 == n)) rs) (filter (λ (r : Region). not (r.number.0 == n)) rs)) ≡ cond b (region_seen r ∷ without_region n (map region_seen rs)) (without_region n (map region_seen rs))
    go true rest = ap (λ ys. region_seen r ∷ ys) rest
    go false rest = rest

-- as many actors live
living_still : (f : model.Actor → model.Actor) (xs : List (Option model.Actor)) → count_by is_some (map (option_map f) xs) ≡ count_by is_some xs
living_still f [] = refl
living_still f (x ∷ xs) =
    sum_by-cons (λ o. cond (is_some o) 1 0) (option_map f x) (map (option_map f) xs) ∙ ap (λ k. cond (is_some (option_map f x)) 1 0 + k) (living_still f xs) ∙ ap (λ b. cond b 1 0 + count_by is_some xs) (as_there x) ∙ sym (sum_by-cons (λ o. cond (is_some o) 1 0) x xs)
  where
    as_there : (o : Option model.Actor) → is_some (option_map f o) ≡ is_some o
    as_there None = refl
    as_there (Some a) = refl

pub living_without : (n : ℕ) (before after : List (Option Actor)) → map (option_map actor_seen) after ≡ map (option_map (without_region n)) (map (option_map actor_seen) before) → count_by is_some (map (option_map actor_seen) after) ≡ count_by is_some (map (option_map actor_seen) before)
living_without n before after e = ap (count_by is_some) e ∙ living_still (without_region n) (map (option_map actor_seen) before)

-- Pages that move

pub from_some : {A B : Type 0} (f : A → B) (o : Option A) (z : B) → option_map f o ≡ Some z → (x : A) × (o ≡ Some x) × (f x ≡ z)
from_some f None z e = absurd (search rules)
from_some f (Some x) z e = let same : f x ≡ z = cc in (x, refl, same)

-- a cache is there, with as many pages, after another or itself was replaced by one with as many
pub still_there : (t u : Tables) (n k : ℕ) (c y : Cache) (d : model.Cache) → (machine_seen u).caches ≡ set (machine_seen t).caches (n - 1) (Some d) → numbered t.caches.items n ≡ Some c → length d.pages ≡ length c.pages.items → numbered t.caches.items k ≡ Some y
    → (x : Cache) × (numbered u.caches.items k ≡ Some x) × (length x.pages.items ≡ length y.pages.items)
still_there t u n k c y d put there same e =
    let seen : (o : Cache) (m : ℕ) → numbered t.caches.items m ≡ Some o → numbered (machine_seen t).caches m ≡ Some (cache_seen o) = λ o m e. numbered-map cache_seen t.caches.items m ∙ ap (option_map cache_seen) e in
    let back : option_map cache_seen (numbered u.caches.items k) ≡ numbered (set (machine_seen t).caches (n - 1) (Some d)) k = sym (numbered-map cache_seen u.caches.items k) ∙ ap (λ cs. numbered cs k) put in
    elim (numbered-set (machine_seen t).caches n k (cache_seen c) d (cache_seen y) (seen c n there) (seen y k e)) [
      | inl q ↦ let x = from_some cache_seen (numbered u.caches.items k) (cache_seen y) (back ∙ q) in (x.0, x.1, omega (arith, ap (λ (z : model.Cache). length z.pages) x.2, length-map x.0.pages.items (λ p. p.items), length-map y.pages.items (λ p. p.items)))
      | inr q ↦ let x = from_some cache_seen (numbered u.caches.items k) d (back ∙ q.1) in (x.0, x.1, omega (arith, ap (λ (z : model.Cache). length z.pages) x.2, length-map x.0.pages.items (λ p. p.items), same, ap (λ (z : model.Cache). length z.pages) q.0, length-map y.pages.items (λ p. p.items), length-map c.pages.items (λ p. p.items)))
    ]

-- the machine after pages were put into a cache
pub seen_changed : (t : Tables) (n first : ℕ) (d : Cache) (pages : List (List ℕ)) → numbered t.caches.items n ≡ Some d
    → record (machine_seen t) { caches = set (machine_seen t).caches (n - 1) (option_map (λ c. put_pages first pages (cache_seen c)) (numbered t.caches.items n)) } ≡ change_cache (machine_seen t) n (put_pages first pages)
seen_changed t n first d pages there =
    ap (λ (o : Option Cache). record (machine_seen t) { caches = set (machine_seen t).caches (n - 1) (option_map (λ c. put_pages first pages (cache_seen c)) o) }) there
    ∙ ap (λ (o : Option model.Cache). option_map_or (λ c. put_cache (machine_seen t) n (put_pages first pages c)) o (machine_seen t)) (sym (numbered-map cache_seen t.caches.items n ∙ ap (option_map cache_seen) there))

not_past : (a b : ℕ) → nat_lt a b ≡ false → b ≤ a
not_past a b e = grind (arith, nat_tests)

pub within : (first pages : ℕ) (c : Cache) → passes_end (cache_seen c) first pages ≡ false → first + pages ≤ length c.pages.items
within first pages c e = omega (arith, not_past _ _ e, length-map c.pages.items (λ p. p.items))

-- pages that are put in leave the number of pages
pub put_same : (from_page to_page pages : ℕ) (source destination : Cache) → passes_end (cache_seen source) from_page pages ≡ false → passes_end (cache_seen destination) to_page pages ≡ false
    → length (put_pages to_page (take pages (drop from_page (pages_seen source))) (cache_seen destination)).pages ≡ length destination.pages.items
put_same from_page to_page pages source destination a b =
    let many : length (take pages (drop from_page (pages_seen source))) ≡ pages = length-take-le pages (drop from_page (pages_seen source)) (omega (arith, within from_page pages source a, length-drop from_page (pages_seen source), length-map source.pages.items (λ p. p.items))) in
    length-overwrite to_page (take pages (drop from_page (pages_seen source))) (pages_seen destination) (omega (arith, many, within to_page pages destination b, length-map destination.pages.items (λ p. p.items))) ∙ length-map destination.pages.items (λ p. p.items)

pub some_with : {A : Type 0} (o : Option A) (x : A) (P : A → Type 0) → o ≡ Some x → P x → IsSomeAnd o P
some_with {A} o x P e p = subst (λ (z : Option A). IsSomeAnd z P) (sym e) p

-- The chain of a page

pub chain_row : (t : Tables) (cache : CacheId) (page : PageNo) (c : Cache) → numbered t.caches.items cache.0 ≡ Some c → passes_end (cache_seen c) page.0 1 ≡ false
    → chain_answer (machine_seen t) (plain_forest (machine_seen t)) cache page.0 ≡ reply (replies.Chain (record { name = page_name cache page.0; children = 0 } ∷ [])) (machine_seen t)
unfolding chain_answer with_some unless
chain_row t cache page c there inside =
    let there' : model.cache_of (machine_seen t) cache.0 ≡ Some (cache_seen c) = numbered-map cache_seen t.caches.items cache.0 ∙ ap (option_map cache_seen) there in
    let chain = plain_chain (machine_seen t) cache page.0 (cache_seen c) there' (omega (arith, not_past _ _ inside)) in
    rw (there', inside, chain) refl
