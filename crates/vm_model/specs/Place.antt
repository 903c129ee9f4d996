-- The place of an access: the page under an address, or the refusal.
use Rattle.std.specs.Prelude.{ℕ, ◌+◌, ◌-◌, ◌*◌, ◌/◌, ◌%◌, ◌&&◌, Bool, nat_lt, nat_le, [], ◌∷◌, Option, Some, None, Result, Ok, Err, if◌then◌else◌}
use Rattle.vm_ids.specs.declared.refusal.Refusal.{Refusal}
use Rattle.vm_ids.specs.declared.refusal.Refusal.TheVariants.{NoActor, Crosses, BadAddress}
use Rattle.vm_model.specs.Machine.{Machine, Region, Actor, actor_of}

-- the region holds the address
abbrev pub holds : ℕ → ℕ → Region → Bool
holds page_bytes address r =
    nat_le r.start address && nat_lt address (r.start + page_bytes * r.pages)

-- the first that holds it, which is the only one, since regions of one actor share no address
abbrev pub region_at : ℕ → ℕ → Actor → Option Region
region_at page_bytes address [] = None
region_at page_bytes address (r ∷ rs) =
    if holds page_bytes address r then Some r else region_at page_bytes address rs

-- A byte of a page of the region's cache.
pub record Place : Type 0 where
  pub region : Region
  pub page : ℕ
  pub byte : ℕ

abbrev pub place_in : ℕ → ℕ → Region → Place
place_in page_bytes address r =
    record {
      region = r;
      page = r.offset + (address - r.start) / page_bytes;
      byte = address % page_bytes;
    }

abbrev pub placed : ℕ → ℕ → Option Region → Result Place Refusal
placed page_bytes address None = Err BadAddress
placed page_bytes address (Some r) = Ok (place_in page_bytes address r)

-- among these regions: an access of so many bytes that crosses the end of a page is refused first
abbrev pub place_among : ℕ → Actor → ℕ → ℕ → Result Place Refusal
place_among page_bytes regions address length =
    if nat_lt page_bytes (address % page_bytes + length) then Err Crosses
    else placed page_bytes address (region_at page_bytes address regions)

abbrev pub place_of_actor : ℕ → Option Actor → ℕ → ℕ → Result Place Refusal
place_of_actor page_bytes None address length = Err NoActor
place_of_actor page_bytes (Some regions) address length =
    place_among page_bytes regions address length

-- the place of an access of an actor
abbrev pub place : Machine → ℕ → ℕ → ℕ → Result Place Refusal
place m actor address length = place_of_actor m.page_bytes (actor_of m actor) address length
