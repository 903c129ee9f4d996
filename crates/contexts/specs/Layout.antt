-- What the fields of `Contexts` stand for. No public clause cites this module.
use Rattle.std.specs.Prelude.{◌≡◌, ℕ, ◌-◌, ◌==◌, ◌≤◌, ◌^◌, List, All, Option, Some, None, count_by, is_some, length, map, option_map, slice_get, slice_set, if◌then◌else◌}
use Rattle.vm_ids.specs.declared.numbers.ActorId.{ActorId}
use Rattle.vm_model.specs.Machine.{Actor, Region, numbered}
use Rattle.vm_model.specs.declared.limits.TheConstants.{MOST_MADE}
use Rattle.regions.specs.AddressSpace.{AddressSpace}
use Rattle.contexts.specs.Actors.{Actors, times_among}
use Rattle.contexts.specs.Counting.{count_of, times_mapped}
use Rattle.contexts.specs.declared.contexts.Contexts.TheInside.{Inside}

-- the regions of each actor, by its address space
abbrev pub regions_in : List (Option AddressSpace) → List (Option Actor)
regions_in spaces = map (option_map (λ (s : AddressSpace). s.regions)) spaces

abbrev pub actors_seen : Inside → Actors
actors_seen a = record {
  page_bytes = a.page;
  actors = regions_in a.actors.items;
  regions_made = length a.owners.items;
}

-- the actor for which a region was made
abbrev pub owner_of : List ActorId → ℕ → Option ActorId
owner_of owners region = if region == 0 then None else slice_get owners (region - 1)

-- the space of an actor has pages of the one size, and its regions were made for the actor, each
-- under a number of its own
pub record IsKept (page : ℕ) (owners : List ActorId) (actor : ℕ) (s : AddressSpace) : Type 0 where
  pub page_bytes : s.page_bytes ≡ page
  pub owned : All (λ r. owner_of owners r.number ≡ Some (record { 0 = actor })) s.regions
  pub once : (region : ℕ) → times_among region (Some s.regions) ≤ 1

-- a region starts where it is kept that it does
abbrev pub StartsAs : List ℕ → Region → Type 0
StartsAs starts r = slice_get starts (r.number - 1) ≡ Some r.start

-- so does each region of the living
abbrev pub AllStartAs : List ℕ → List (Option AddressSpace) → Type 0
AllStartAs starts spaces = (actor : ℕ) (s : AddressSpace) → numbered spaces actor ≡ Some s
    → All (StartsAs starts) s.regions

-- a page has 1 to 65,536 bytes, the living are counted, so many regions can have numbers, of each
-- cache the regions that map it are counted, each space is kept, and so is where each region starts
pub record IsSound (a : Inside) : Type 0 where
  pub some : 1 ≤ a.page
  pub most : a.page ≤ 2 ^ 16
  pub living : a.living ≡ count_by is_some a.actors.items
  pub few : length a.owners.items ≤ MOST_MADE
  pub mapped : (cache : ℕ)
      → count_of a.mapped cache ≡ times_mapped cache (regions_in a.actors.items)
  pub kept : (actor : ℕ) (s : AddressSpace) → numbered a.actors.items actor ≡ Some s
      → IsKept a.page a.owners.items actor s
  pub starts : length a.starts.items ≡ length a.owners.items
  pub started : AllStartAs a.starts.items a.actors.items

-- a living actor has other regions, and all else is as it was but for room
pub record IsChanged (actor : ℕ) (by : Actor → Actor) (old new : List (Option AddressSpace))
    : Type 0 where
  pub space : AddressSpace
  pub here : numbered old actor ≡ Some space
  pub spare : ℕ
  pub there : new ≡ slice_set old (actor - 1)
      (Some (record space { regions = by space.regions; spare = spare }))
