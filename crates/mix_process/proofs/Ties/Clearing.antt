-- How the ties change where actors and caches go.
use Rattle.std.proofs.Common.{◌≡◌, ◌≢◌, ◌⊎◌, inl, inr, ◌==◌, ℕ, zero, suc, ◌+◌, ◌-◌, ◌≤◌, Bool, true, false, cond, List, [], ◌∷◌, length, Option, Some, None, refl, sym, ap, subst, ◌∙◌, arith}
use Rattle.std.specs.Prelude.{nat_lt, option_map, slice_get}
use Rattle.std.specs.List.{AllByRecursion}
use Rattle.std.specs.Option.{option_map_or}
use Rattle.std.proofs.lemmas.Bool.{cases_eq}
use Rattle.vm_ids.proofs.Places.{other_number}
use Rattle.vm_model.proofs.Parts.Lists.{numbered_place}
use Rattle.vm_model.proofs.Parts.ListParts.{numbered_set, numbered_set_other}
use Rattle.interface_callers.proofs.Words.{Actor, Cache, Machine, Mapping, Page, Region, actor_of, cache_of, insert_region, is_mapped, maps_in, numbered}
use Rattle.interface_callers.proofs.Lists.{all_at, get_append, get_last, map_same, none_any, number_at}
use Rattle.interface_callers.proofs.Blanks.{without}
use Rattle.mix_process.specs.ProcessMachine as model
use Rattle.mix_process.specs.ProcessMachine.{may_write}
use Rattle.mix_process.specs.Seen.{cache_pages, image_seen, process_seen, processes_seen}
use Rattle.mix_process.specs.Tying.{AreMapped, AreTied, IsImageCache, IsOwnCache, IsPart, IsRun}
use Rattle.mix_process.specs.Tying.AreMapped.{none, more}
use Rattle.mix_process.specs.declared.area.Area.{Area}
use Rattle.mix_process.specs.declared.area.Area.TheVariants.{Data, Stack, Text}
use Rattle.mix_process.specs.declared.mix.Image.{Image}
use Rattle.mix_process.specs.declared.process.Part.{Part}
use Rattle.mix_process.specs.declared.process.Process.{Process}
use Rattle.mix_process.proofs.Reading.PagePut.{process_same}

-- Regions are of caches of parts

pub inserted_one : (r : Region) (rs : Actor) (k : ℕ) (x : Region) → slice_get (insert_region r rs) k ≡ Some x → (x ≡ r) ⊎ ((j : ℕ) × (slice_get rs j ≡ Some x))
inserted_one r [] zero x e = inl (let same : r ≡ x = cc in sym same)
inserted_one r [] (suc k) x e = absurd (cc e)
inserted_one r (y ∷ ys) k x e = go (nat_lt r.start y.start) k e (λ j f. inserted_one r ys j x f)
  where
    go : (b : Bool) (k : ℕ) → slice_get (cond b (r ∷ y ∷ ys) (y ∷ insert_region r ys)) k ≡ Some x → ((j : ℕ) → slice_get (insert_region r ys) j ≡ Some x → (x ≡ r) ⊎ ((j : ℕ) × (slice_get ys j ≡ Some x))) → (x ≡ r) ⊎ ((j : ℕ) × (slice_get (y ∷ ys) j ≡ Some x))
    go true zero e rest = inl (let same : r ≡ x = cc in sym same)
    go true (suc k) e rest = inr (k, e)
    go false zero e rest = inr (zero, e)
    go false (suc k) e rest = elim (rest k e) [ inl same ↦ inl same | inr f ↦ inr (suc f.0, f.1) ]

-- a region is that of a part
pub region_part : {parts : List Part} {regions : Actor} → AreMapped parts regions → (k : ℕ) (x : Region) → slice_get regions k ≡ Some x → (j : ℕ) × (part : Part) × (slice_get parts j ≡ Some part) × (x.cache ≡ part.cache.0)
region_part none k x e = absurd (cc e)
region_part (more before rs p r rest is) k x e = elim (inserted_one r rs k x e) [
  | inl same ↦ (length before, p, get_last before p, ap (λ (r : Region). r.cache) same ∙ ap (λ (q : Mapping). q.extent.cache.0) is.mapping)
  | inr f ↦ (let found = region_part rest f.0 x f.1 in (found.0, found.1, get_append before (p ∷ []) found.0 found.1 found.2, found.3))
]

pub run_regions : (m : Machine) (p : Process) (run : IsRun m p) (actor : ℕ) (regions : Actor) → p.actor.0 ≡ actor → actor_of m actor ≡ Some regions → Some run.regions ≡ Some regions
run_regions m p run actor regions e at = sym run.there ∙ ap (actor_of m) e ∙ at

module _ (m : Machine) (processes : ℕ → Option Process) (spare : ℕ → Type 0) (images : List Image) (t : AreTied m processes spare images) where
  -- a cache of a part is no spare one
  pub part_kept : (n : ℕ) (p : Process) (j : ℕ) (part : Part) (cache : ℕ) → processes n ≡ Some p → slice_get p.parts.items j ≡ Some part → spare cache → part.cache.0 ≢ cache
  part_kept n p j part cache alive found spared same = go part.area refl
    where
      is_part : IsPart m part.area part
      is_part = all_at (λ (part : Part). IsPart m part.area part) p.parts.items j part (t.run n p alive).parts found

      owned : may_write part.area ≡ true → ⊥
      owned own = t.spares_free n j cache spared (record { process = p; part = part; there = alive; has = found; own = own; is = same })

      go : (a : Area) → part.area ≡ a → ⊥
      go Text e =
          let image : IsImageCache m part = subst (λ (a : Area). IsPart m a part) e is_part in
          let c = t.spares cache spared in
          let there : Some image.cache ≡ Some c.0 = sym image.there ∙ ap (cache_of m) same ∙ c.1 in
          let like : image.cache ≡ c.0 = cc in
          let wrong : Some image.seg ≡ None = sym image.named ∙ ap (λ (c : Cache). c.segment) like ∙ c.2 in
          absurd (cc wrong)
      go Data e = owned (ap may_write e)
      go Stack e = owned (ap may_write e)

  -- no region maps a spare cache
  pub not_mapped : (cache : ℕ) → spare cache → is_mapped m cache ≡ false
  not_mapped cache spared = none_any (maps_in cache) m.actors by_actor
    where
      by_region : (i : ℕ) (regions : Actor) → slice_get m.actors i ≡ Some (Some regions) → (k : ℕ) (r : Region) → slice_get regions k ≡ Some r → (r.cache == cache) ≡ false
      by_region i regions e k r f =
          let at : actor_of m (i + 1) ≡ Some regions = number_at m.actors (i + 1) (Some regions) (omega arith) (ap (slice_get m.actors) (let g : i + 1 - 1 ≡ i = omega arith in g) ∙ e) in
          let whose = t.no_more_actors (i + 1) regions at in
          let run : IsRun m whose.1 = t.run whose.0 whose.1 whose.2 in
          let both : Some run.regions ≡ Some regions = run_regions m whose.1 run (i + 1) regions whose.3 at in
          let same : run.regions ≡ regions = cc in
          let found = region_part run.mapped k r (ap (λ (rs : Actor). slice_get rs k) same ∙ f) in
          other_number r.cache cache (λ q. part_kept whose.0 whose.1 found.0 found.1 cache whose.2 found.2 spared (sym found.3 ∙ q))

      by_actor : (i : ℕ) (o : Option Actor) → slice_get m.actors i ≡ Some o → maps_in cache o ≡ false
      by_actor i None e = refl
      by_actor i (Some regions) e = none_any (λ (r : Region). r.cache == cache) regions (by_region i regions e)

  pub image_kept : (i : ℕ) (image : Image) (cache : ℕ) → slice_get images i ≡ Some image → spare cache → image.cache.0 ≢ cache
  image_kept i image cache e spared same =
      let d = t.images_there i image e in
      let c = t.spares cache spared in
      let there : Some d.0 ≡ Some c.0 = sym d.1 ∙ ap (cache_of m) same ∙ c.1 in
      let like : d.0 ≡ c.0 = cc in
      let wrong : Some image.seg.0 ≡ None = sym d.2 ∙ ap (λ (c : Cache). c.segment) like ∙ c.2 in
      absurd (cc wrong)

-- The caches of a machine without one

module _ (m : Machine) (cache : ℕ) (c : Cache) (there : cache_of m cache ≡ Some c) where
  place : (1 ≤ cache) × (slice_get m.caches (cache - 1) ≡ Some (Some c))
  place = numbered_place m.caches cache c there

  pub gone : cache_of (without m cache) cache ≡ None
  gone = numbered_set m.caches cache c None there

  pub kept_other : (k : ℕ) → k ≢ cache → cache_of (without m cache) k ≡ cache_of m k
  kept_other k other = numbered_set_other m.caches cache k None place.0 other

  -- what is there then was there, and is another
  pub was_there : (k : ℕ) (d : Cache) → cache_of (without m cache) k ≡ Some d → (k ≢ cache) × (cache_of m k ≡ Some d)
  was_there k d e = elim (cases_eq k cache) [
    | inl same ↦ absurd (let wrong : Some d ≡ None = sym e ∙ ap (cache_of (without m cache)) same ∙ gone in cc wrong)
    | inr other ↦ (other, sym (kept_other k other) ∙ e)
  ]

-- parts whose caches are kept
pub own_kept : (m n : Machine) (p : Part) → cache_of n p.cache.0 ≡ cache_of m p.cache.0 → IsOwnCache m p → IsOwnCache n p
own_kept m n p e h = record { cache = h.cache; there = e ∙ h.there; temporary = h.temporary; some = h.some; many = h.many }

image_part_kept : (m n : Machine) (p : Part) → cache_of n p.cache.0 ≡ cache_of m p.cache.0 → IsImageCache m p → IsImageCache n p
image_part_kept m n p e h = record { cache = h.cache; seg = h.seg; there = e ∙ h.there; named = h.named; some = h.some; many = h.many }

one_kept : (m n : Machine) (a : Area) (p : Part) → cache_of n p.cache.0 ≡ cache_of m p.cache.0 → IsPart m a p → IsPart n a p
one_kept m n Text p e h = image_part_kept m n p e h
one_kept m n Data p e h = own_kept m n p e h
one_kept m n Stack p e h = own_kept m n p e h

pub parts_kept : (m n : Machine) (parts : List Part) → ((j : ℕ) (part : Part) → slice_get parts j ≡ Some part → cache_of n part.cache.0 ≡ cache_of m part.cache.0) → AllByRecursion (λ (p : Part). IsPart m p.area p) parts → AllByRecursion (λ (p : Part). IsPart n p.area p) parts
parts_kept m n [] same h = tt
parts_kept m n (p ∷ ps) same h = (one_kept m n p.area p (same 0 p refl) h.0, parts_kept m n ps (λ j part e. same (suc j) part e) h.1)

pub run_kept : (m n : Machine) (p : Process) → actor_of n p.actor.0 ≡ actor_of m p.actor.0 → ((j : ℕ) (part : Part) → slice_get p.parts.items j ≡ Some part → cache_of n part.cache.0 ≡ cache_of m part.cache.0) → IsRun m p → IsRun n p
run_kept m n p actor caches h = record {
  regions = h.regions;
  there = actor ∙ h.there;
  mapped = h.mapped;
  parts = parts_kept m n p.parts.items caches h.parts;
  small = h.small;
  single = h.single;
}

-- A spare cache goes

module _ (m : Machine) (processes : ℕ → Option Process) (spare later : ℕ → Type 0) (images : List Image) (t : AreTied m processes spare images) (cache : ℕ) (spared : spare cache)
    (fewer : (k : ℕ) → later k → spare k × (k ≢ cache)) (others : (k : ℕ) → spare k → (k ≡ cache) ⊎ later k) where
  the_cache : (c : Cache) × (cache_of m cache ≡ Some c) × (c.segment ≡ None)
  the_cache = t.spares cache spared

  pub tied_without : AreTied (without m cache) processes later images
  tied_without = record {
    page = t.page;
    run = λ n p e. run_kept m (without m cache) p refl (λ j part f. kept_other m cache the_cache.0 the_cache.1 part.cache.0 (part_kept m processes spare images t n p j part cache e f spared)) (t.run n p e);
    actors_apart = t.actors_apart;
    caches_apart = t.caches_apart;
    spares = λ k s. (let f = fewer k s in let c = t.spares k f.0 in (c.0, kept_other m cache the_cache.0 the_cache.1 k f.1 ∙ c.1, c.2));
    spares_free = λ n i k s o. t.spares_free n i k (fewer k s).0 o;
    no_more_actors = t.no_more_actors;
    no_more_caches = λ k d e temporary. (let w = was_there m cache the_cache.0 the_cache.1 k d e in elim (t.no_more_caches k d w.1 temporary) [
      | inl s ↦ elim (others k s) [ inl same ↦ absurd (w.0 same) | inr left ↦ inl left ]
      | inr o ↦ inr o
    ]);
    images_there = λ i image e. (let d = t.images_there i image e in (d.0, kept_other m cache the_cache.0 the_cache.1 image.cache.0 (image_kept m processes spare images t i image cache e spared) ∙ d.1, d.2));
    images_apart = t.images_apart;
    no_more_images = λ k seg d e named. t.no_more_images k seg d (was_there m cache the_cache.0 the_cache.1 k d e).1 named;
  }

  pages_kept : (k : ℕ) → k ≢ cache → cache_pages (without m cache) k ≡ cache_pages m k
  pages_kept k other = ap (λ (o : Option Cache). option_map_or (λ (c : Cache). c.pages) o []) (kept_other m cache the_cache.0 the_cache.1 k other)

  pub images_without : (i : ℕ) (image : Image) → slice_get images i ≡ Some image → cache_pages (without m cache) image.cache.0 ≡ cache_pages m image.cache.0
  images_without i image e = pages_kept image.cache.0 (image_kept m processes spare images t i image cache e spared)

-- what is seen of the processes then
module _ (m : Machine) (table : List (Option Process)) (spare later : ℕ → Type 0) (images : List Image) (t : AreTied m (numbered table) spare images) (cache : ℕ) (spared : spare cache)
    (fewer : (k : ℕ) → later k → spare k × (k ≢ cache)) (others : (k : ℕ) → spare k → (k ≡ cache) ⊎ later k) where
  one_seen : (i : ℕ) (o : Option Process) → slice_get table i ≡ Some o → option_map (process_seen (without m cache)) o ≡ option_map (process_seen m) o
  one_seen i None e = refl
  one_seen i (Some p) e =
      let alive : numbered table (i + 1) ≡ Some p = number_at table (i + 1) (Some p) (omega arith) (ap (slice_get table) (let g : i + 1 - 1 ≡ i = omega arith in g) ∙ e) in
      ap (λ (x : model.Process). Some x) (process_same m (without m cache) p (λ j part f. pages_kept m (numbered table) spare later images t cache spared fewer others part.cache.0 (part_kept m (numbered table) spare images t (i + 1) p j part cache alive f spared)))

  pub seen_without : processes_seen (without m cache) table images ≡ processes_seen m table images
  seen_without = λ i. record {
    page_bytes = m.page_bytes;
    processes = map_same (option_map (process_seen (without m cache))) (option_map (process_seen m)) table one_seen i;
    images = map_same (image_seen (without m cache)) (image_seen m) images (λ k image e. ap (λ (pages : List Page). let x : ℕ × List Page = (image.seg.0, pages) in x) (images_without m (numbered table) spare later images t cache spared fewer others k image e)) i;
  }
