-- The ties hold of each machine of the same shape: with the same actors, and as many pages in each
-- cache.
use Rattle.std.proofs.Common.{◌≡◌, ℕ, List, [], ◌∷◌, map, Option, Some, None, refl, sym, ap, ◌∙◌, arith}
use Rattle.std.specs.Prelude.{option_map}
use Rattle.std.specs.Option.{option_map_or}
use Rattle.std.specs.List.{AllByRecursion}
use Rattle.interface_callers.proofs.Words.{Actor, Cache, Machine, blank, blank_cache, cache_of, numbered}
use Rattle.interface_callers.proofs.Alike.{HasShape, shape_back, shape_cache}
use Rattle.interface_callers.proofs.Blanks.{blank_at}
use Rattle.mix_process.specs.Seen.{cache_pages}
use Rattle.mix_process.specs.Tying.{AreTied, IsImageCache, IsOwnCache, IsPart, IsRun}
use Rattle.mix_process.specs.declared.area.Area.{Area}
use Rattle.mix_process.specs.declared.area.Area.TheVariants.{Data, Stack, Text}
use Rattle.mix_process.specs.declared.mix.Image.{Image}
use Rattle.mix_process.specs.declared.process.Part.{Part}
use Rattle.mix_process.specs.declared.process.Process.{Process}

blank_of : (o : Option Cache) → option_map_or (λ (c : Cache). c.pages) (option_map blank_cache o) [] ≡ map (λ _. []) (option_map_or (λ (c : Cache). c.pages) o [])
blank_of None = refl
blank_of (Some c) = refl

pub blank_pages : (w : Machine) (k : ℕ) → cache_pages (blank w) k ≡ map (λ _. []) (cache_pages w k)
blank_pages w k = ap (λ (o : Option Cache). option_map_or (λ (c : Cache). c.pages) o []) (blank_at w k) ∙ blank_of (cache_of w k)

module _ (m n : Machine) (s : HasShape m n) where
  own_like : (p : Part) → IsOwnCache m p → IsOwnCache n p
  own_like p h =
      let d = shape_cache m n s p.cache.0 h.cache h.there in
      record { cache = d.0; there = d.1; temporary = d.2.segment ∙ h.temporary; some = h.some; many = d.2.many ∙ h.many }

  image_like : (p : Part) → IsImageCache m p → IsImageCache n p
  image_like p h =
      let d = shape_cache m n s p.cache.0 h.cache h.there in
      record { cache = d.0; seg = h.seg; there = d.1; named = d.2.segment ∙ h.named; some = h.some; many = omega (arith, h.many, d.2.many) }

  pub part_like : (a : Area) (p : Part) → IsPart m a p → IsPart n a p
  part_like Text p h = image_like p h
  part_like Data p h = own_like p h
  part_like Stack p h = own_like p h

  parts_like : (parts : List Part) → AllByRecursion (λ (p : Part). IsPart m p.area p) parts → AllByRecursion (λ (p : Part). IsPart n p.area p) parts
  parts_like [] h = tt
  parts_like (p ∷ ps) h = (part_like p.area p h.0, parts_like ps h.1)

  pub run_like : (p : Process) → IsRun m p → IsRun n p
  run_like p h = record {
    regions = h.regions;
    there = ap (λ (actors : List (Option Actor)). numbered actors p.actor.0) s.actors ∙ h.there;
    mapped = h.mapped;
    parts = parts_like p.parts.items h.parts;
    small = h.small;
    single = h.single;
  }

  pub tied_like : (processes : ℕ → Option Process) (spare : ℕ → Type 0) (images : List Image) → AreTied m processes spare images → AreTied n processes spare images
  tied_like processes spare images t = record {
    page = s.page ∙ t.page;
    run = λ k p e. run_like p (t.run k p e);
    actors_apart = t.actors_apart;
    caches_apart = t.caches_apart;
    spares = λ cache e. (let c = t.spares cache e in let d = shape_cache m n s cache c.0 c.1 in (d.0, d.1, d.2.segment ∙ c.2));
    spares_free = t.spares_free;
    no_more_actors = λ actor regions e. t.no_more_actors actor regions (ap (λ (actors : List (Option Actor)). numbered actors actor) (sym s.actors) ∙ e);
    no_more_caches = λ cache d e temporary. (let c = shape_cache n m (shape_back m n s) cache d e in t.no_more_caches cache c.0 c.1 (c.2.segment ∙ temporary));
    images_there = λ i image e. (let c = t.images_there i image e in let d = shape_cache m n s image.cache.0 c.0 c.1 in (d.0, d.1, d.2.segment ∙ c.2));
    images_apart = t.images_apart;
    no_more_images = λ cache seg d e named. (let c = shape_cache n m (shape_back m n s) cache d e in t.no_more_images cache seg c.0 c.1 (c.2.segment ∙ named));
  }
