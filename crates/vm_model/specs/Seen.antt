-- The machine that the tables of the eager machine are, and what holds of them.
use Rattle.std.specs.Prelude.{◌≡◌, ℕ, ◌+◌, ◌-◌, ◌*◌, ◌≤◌, ◌^◌, false, List, map, length, take, All, Option, Some, None, option_map, slice_get, Result, Ok, Err}
use Rattle.vm_ids.specs.declared.command.Span.{Span}
use Rattle.vm_ids.specs.declared.refusal.Refusal.{Refusal}
use Rattle.vm_model.specs.Machine as model
use Rattle.vm_model.specs.Place as model_place
use Rattle.vm_model.specs.Answering.{passes_end}
use Rattle.vm_model.specs.Regions.{region_among, region_with, replace_in}
use Rattle.vm_model.specs.declared.limits.TheConstants.{MOST_MADE}
use Rattle.vm_model.specs.declared.tables.Actor.{Actor}
use Rattle.vm_model.specs.declared.tables.Cache.{Cache}
use Rattle.vm_model.specs.declared.tables.Region.{Region}
use Rattle.vm_model.specs.declared.tables.Tables.{Tables}
use Rattle.vm_model.specs.declared.place.Found.{Found}
use Rattle.vm_model.specs.declared.located.Located.{Located}

abbrev pub region_seen : Region → model.Region
region_seen r =
    record {
      number = r.number.0;
      start = r.start;
      pages = r.pages;
      may_write = r.may_write;
      cache = r.cache.0;
      offset = r.offset;
      locked = r.locked;
    }

abbrev pub pages_seen : Cache → List (List ℕ)
pages_seen c = map (λ p. p.items) c.pages.items

abbrev pub cache_seen : Cache → model.Cache
cache_seen c = record { segment = option_map (λ s. s.0) c.segment; pages = pages_seen c }

abbrev pub actor_seen : Actor → model.Actor
actor_seen a = map region_seen a.regions.items

abbrev pub actors_seen : List (Option Actor) → List (Option model.Actor)
actors_seen actors = map (option_map actor_seen) actors

abbrev pub machine_seen : Tables → model.Machine
machine_seen t = record {
  page_bytes = t.page_bytes;
  frames = t.frames;
  caches = map (option_map cache_seen) t.caches.items;
  actors = actors_seen t.actors.items;
  regions_made = t.regions_made;
}

abbrev pub place_seen : Found → model_place.Place
place_seen f = record { region = region_seen f.region; page = f.page; byte = f.byte }

abbrev pub found_seen : Result Found Refusal → Result model_place.Place Refusal
found_seen (Ok f) = Ok (place_seen f)
found_seen (Err e) = Err e

-- The first of these regions with this number stands at this place.
pub record IsPlaceOf (number : ℕ) (regions : List Region) (place : ℕ) (region : Region)
    : Type 0 where
  pub there : slice_get regions place ≡ Some region
  pub is : region.number.0 ≡ number
  pub first : region_among number (map region_seen (take place regions)) ≡ None

-- The first of these actors that has a region with this number has it at this place.
pub record IsLocated (number : ℕ) (actors : List (Option Actor)) (l : Located) : Type 0 where
  pub actor : Actor
  pub there : model.numbered actors l.actor.0 ≡ Some actor
  pub place : IsPlaceOf number actor.regions.items l.place l.region
  pub first : region_with number (actors_seen (take (l.actor.0 - 1) actors)) ≡ None

-- a region ends within the addresses, and its pages are those of a live cache
pub record IsPlaced (page_bytes : ℕ) (caches : List (Option Cache)) (r : Region) : Type 0 where
  pub ends : r.start + page_bytes * r.pages ≤ 2 ^ 48
  pub cache : Cache
  pub there : model.numbered caches r.cache.0 ≡ Some cache
  pub within : r.offset + r.pages ≤ length cache.pages.items

abbrev pub ArePlaced : ℕ → List (Option Cache) → Option Actor → Type 0
ArePlaced page_bytes caches None = Unit {0}
ArePlaced page_bytes caches (Some a) = All (IsPlaced page_bytes caches) a.regions.items

-- The region that was located, and nothing else, became these; they are placed where the others
-- are.
pub record IsReplaced (l : Located) (parts : List Region) (before after : List (Option Actor))
    : Type 0 where
  pub seen : (by : model.Region → List model.Region)
      → by (region_seen l.region) ≡ map region_seen parts
      → actors_seen after ≡ replace_in l.region.number.0 by (actors_seen before)
  pub placed : (page_bytes : ℕ) (caches : List (Option Cache))
      → All (IsPlaced page_bytes caches) parts → All (ArePlaced page_bytes caches) before
      → All (ArePlaced page_bytes caches) after

-- The pages of a copy or a move are there.
pub record IsSpanned (t : Tables) (s : Span) : Type 0 where
  pub source : Cache
  pub destination : Cache
  pub from : model.numbered t.caches.items s.from.0 ≡ Some source
  pub to : model.numbered t.caches.items s.to.0 ≡ Some destination
  pub inside : passes_end (cache_seen source) s.from_page.0 s.pages ≡ false
  pub within : passes_end (cache_seen destination) s.to_page.0 s.pages ≡ false

-- each page has all its bytes
abbrev pub HasPages : ℕ → Option Cache → Type 0
HasPages page_bytes None = Unit {0}
HasPages page_bytes (Some c) = All (λ p. length p.items ≡ page_bytes) c.pages.items

pub record AreTablesSound (t : Tables) : Type 0 where
  pub some : 1 ≤ t.page_bytes
  pub most : t.page_bytes ≤ 2 ^ 16
  pub few_actors : length t.actors.items ≤ MOST_MADE
  pub few_caches : length t.caches.items ≤ MOST_MADE
  pub living : t.living ≡ model.living_actors (machine_seen t)
  pub live : t.live ≡ model.live_pages (machine_seen t)
  pub whole : All (HasPages t.page_bytes) t.caches.items
  pub placed : All (ArePlaced t.page_bytes t.caches.items) t.actors.items
