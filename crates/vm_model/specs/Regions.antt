-- What becomes of regions, and what is told of them.
use Rattle.std.specs.Prelude.{ℕ, Bool, ◌==◌, ◌+◌, ◌-◌, ◌*◌, List, [], ◌∷◌, ◌++◌, Option, Some, None, is_some, option_map, if◌then◌else◌}
use Rattle.std.specs.Option.{option_or}
use Rattle.vm_ids.specs.declared.command.Mapping.{Mapping}
use Rattle.vm_ids.specs.declared.command.Prot.{Prot}
use Rattle.vm_ids.specs.declared.reply.RegionStatus.{RegionStatus}
use Rattle.vm_model.specs.Machine.{Region, Actor}

-- the first of these regions with this number
abbrev pub region_among : ℕ → List Region → Option Region
region_among number [] = None
region_among number (r ∷ rs) = if r.number == number then Some r else region_among number rs

-- the region with this number, of a living actor
abbrev pub region_with : ℕ → List (Option Actor) → Option Region
region_with number [] = None
region_with number (None ∷ actors) = region_with number actors
region_with number (Some regions ∷ actors) =
    option_or (region_among number regions) (region_with number actors)

-- the first of these regions with this number becomes these
abbrev pub replace_region : ℕ → (Region → List Region) → Actor → Actor
replace_region number by [] = []
replace_region number by (r ∷ rs) =
    if r.number == number then by r ++ rs else r ∷ replace_region number by rs

-- the region with this number, of a living actor, becomes these
abbrev pub replace_in : ℕ → (Region → List Region) → List (Option Actor) → List (Option Actor)
replace_in number by [] = []
replace_in number by (None ∷ actors) = None ∷ replace_in number by actors
replace_in number by (Some regions ∷ actors) =
    if is_some (region_among number regions)
    then Some (replace_region number by regions) ∷ actors
    else Some regions ∷ replace_in number by actors

-- the pages of a region behind the first so many, as a region with another number
abbrev pub back_of : ℕ → ℕ → ℕ → Region → Region
back_of page_bytes pages number r = record r {
  number = number;
  start = r.start + page_bytes * pages;
  pages = r.pages - pages;
  offset = r.offset + pages;
}

-- a region becomes one of its first pages and one, with another number, of the others
abbrev pub split_at : ℕ → ℕ → ℕ → Region → List Region
split_at page_bytes pages number r =
    record r { pages = pages } ∷ back_of page_bytes pages number r ∷ []

abbrev pub with_prot : Prot → Region → List Region
with_prot prot r = record r { may_write = prot.write } ∷ []

abbrev pub with_lock : Bool → Region → List Region
with_lock locked r = record r { locked = locked } ∷ []

-- which pages a region shows, where, and what it allows
abbrev pub mapping_of : Region → Mapping
mapping_of r = record {
  extent = record {
    cache = record { 0 = r.cache };
    first = record { 0 = r.offset };
    pages = r.pages;
  };
  address = r.start;
  prot = record { write = r.may_write };
}

-- what is told of a region of this actor
abbrev pub status_in : ℕ → Region → RegionStatus
status_in actor r =
    record { actor = record { 0 = actor }; mapping = mapping_of r; locked = r.locked }

-- what is told of the region with this number, where a living actor has it. The first of these
-- actors is the one with the number `actor`.
abbrev pub status_with : ℕ → ℕ → List (Option Actor) → Option RegionStatus
status_with number actor [] = None
status_with number actor (None ∷ actors) = status_with number (actor + 1) actors
status_with number actor (Some regions ∷ actors) =
    option_or (option_map (status_in actor) (region_among number regions))
    (status_with number (actor + 1) actors)
