-- The actors of a machine, and the regions of each.
use Rattle.std.specs.Prelude.{ℕ, ◌==◌, ◌+◌, ◌-◌, ◌||◌, Bool, false, nat_le, List, length, Option, Some, None, count_by, sum_by, is_some, ok_or, option_map, slice_set, Result, Err, if◌then◌else◌}
use Rattle.vm_ids.specs.declared.command.Mapping.{Mapping}
use Rattle.vm_ids.specs.declared.numbers.RegionId.{RegionId}
use Rattle.vm_ids.specs.declared.refusal.Refusal.{Refusal}
use Rattle.vm_ids.specs.declared.refusal.Refusal.TheVariants.{BadAddress, NoActor, NoRegion, TooMany}
use Rattle.vm_model.specs.Answering.{insert_region, region_of}
use Rattle.vm_model.specs.Regions.{region_among, region_with, replace_in, split_at}
use Rattle.vm_model.specs.Machine.{Actor, Cache, Machine, Region, numbered}
use Rattle.vm_model.specs.Place.{region_at}
use Rattle.vm_model.specs.declared.limits.TheConstants.{LIVING_ACTORS, MOST_MADE}
use Rattle.regions.specs.AddressSpace.{id_of}

-- The bytes of a page; the actors in the order of making, of which a dead one is None; and how many
-- regions were made.
pub record Actors : Type 0 where
  pub page_bytes : ℕ
  pub actors : List (Option Actor)
  pub regions_made : ℕ

-- the machine with these caches and frames, and with these actors
abbrev pub machine_with : List (Option Cache) → ℕ → Actors → Machine
machine_with caches frames a = record {
  page_bytes = a.page_bytes;
  frames = frames;
  caches = caches;
  actors = a.actors;
  regions_made = a.regions_made;
}

-- no more can be made
abbrev pub is_full : Actors → Bool
is_full a = nat_le LIVING_ACTORS (count_by is_some a.actors) || nat_le MOST_MADE (length a.actors)

-- the region that the next mapping makes
abbrev pub next_region : Actors → Mapping → Region
next_region a p = region_of (a.regions_made + 1) p

-- the actor with that region
abbrev pub with_region : Actors → ℕ → Mapping → Actors
with_region a actor p = record a {
  actors = slice_set a.actors (actor - 1)
      (option_map (insert_region (next_region a p)) (numbered a.actors actor));
  regions_made = a.regions_made + 1;
}

-- how many regions of an actor have this number
abbrev pub times_among : ℕ → Option Actor → ℕ
times_among region None = 0
times_among region (Some regions) = count_by (λ (r : Region). r.number == region) regions

-- how many regions of living actors do
abbrev pub times_made : ℕ → List (Option Actor) → ℕ
times_made region actors = sum_by (times_among region) actors

-- how many regions an actor has
abbrev pub regions_among : Option Actor → ℕ
regions_among None = 0
regions_among (Some regions) = length regions

-- how many regions living actors have
abbrev pub region_count : List (Option Actor) → ℕ
region_count actors = sum_by regions_among actors

-- an actor that is alive and has a region with this number
abbrev pub has_region : ℕ → Option Actor → Bool
has_region region None = false
has_region region (Some regions) = is_some (region_among region regions)

-- how it is refused to cut a region behind so many pages, where so many regions were made
abbrev pub cut_refusal : ℕ → ℕ → Option Region → Option Refusal
cut_refusal made pages None = Some NoRegion
cut_refusal made pages (Some r) =
    if nat_le r.pages pages then Some BadAddress
    else if nat_le MOST_MADE made then Some TooMany
    else None

-- the same, of the region with this number
abbrev pub split_refusal : Actors → ℕ → ℕ → Option Refusal
split_refusal a region pages = cut_refusal a.regions_made pages (region_with region a.actors)

-- that region keeps its first so many pages, and the next region has the others
abbrev pub with_split : Actors → ℕ → ℕ → Actors
with_split a region pages =
    let fresh = a.regions_made + 1 in
    record a {
      actors = replace_in region (split_at a.page_bytes pages fresh) a.actors;
      regions_made = fresh;
    }

-- the region of an actor that holds an address, or why there is none
abbrev pub holder_of : ℕ → Option Actor → ℕ → Result RegionId Refusal
holder_of page_bytes None address = Err NoActor
holder_of page_bytes (Some regions) address =
    ok_or (option_map id_of (region_at page_bytes address regions)) BadAddress
