-- The regions of one actor, in the plain machine's words.
use Rattle.std.specs.Prelude.{◌≡◌, ℕ, ◌+◌, ◌*◌, ◌%◌, ◌^◌, ◌≤◌, [], ◌∷◌, All, Result, Ok, Err}
use Rattle.vm_ids.specs.declared.numbers.RegionId.{RegionId}
use Rattle.vm_ids.specs.declared.refusal.Refusal.{Refusal}
use Rattle.vm_model.specs.Machine.{Region, Actor}
use Rattle.vm_model.specs.Place as model
use Rattle.vm_model.specs.Regions.{mapping_of}
use Rattle.regions.specs.declared.region.RegionView.{RegionView}
use Rattle.regions.specs.declared.region.Place.{Place}

-- The bytes of a page, for how many more regions there is room, and the regions.
pub record AddressSpace : Type 0 where
  pub page_bytes : ℕ
  pub spare : ℕ
  pub regions : Actor

-- the address behind a region
abbrev pub end_of : ℕ → Region → ℕ
end_of page_bytes r = r.start + page_bytes * r.pages

-- whole pages within the addresses, and pages of a cache that have numbers
pub record IsWellFormed (page_bytes : ℕ) (r : Region) : Type 0 where
  pub aligned : r.start % page_bytes ≡ 0
  pub some : 1 ≤ r.pages
  pub ends : end_of page_bytes r ≤ 2 ^ 48
  pub numbered : r.offset + r.pages ≤ 2 ^ 32

-- from this address on each region stands behind the end of the one before it
abbrev pub AreInOrder : ℕ → ℕ → Actor → Type 0
AreInOrder page_bytes from [] = Unit {0}
AreInOrder page_bytes from (r ∷ rs) =
    (from ≤ r.start) × IsWellFormed page_bytes r × AreInOrder page_bytes (end_of page_bytes r) rs

-- a region with this number, where there is one, starts at this address
abbrev pub StartsAt : ℕ → ℕ → Actor → Type 0
StartsAt number start regions = All (λ (r : Region). r.number ≡ number → r.start ≡ start) regions

abbrev pub id_of : Region → RegionId
id_of r = record { 0 = r.number }

-- what is told of a region
abbrev pub view_of : Region → RegionView
view_of r = record { mapping = mapping_of r; locked = r.locked }

-- what is told of a place
abbrev pub access_to : model.Place → Place
access_to p = record {
  cache = record { 0 = p.region.cache };
  page = record { 0 = p.page };
  at = p.byte;
  prot = record { write = p.region.may_write };
}

-- the same of an address that a region holds
abbrev pub access_of : ℕ → ℕ → Region → Place
access_of page_bytes address r = access_to (model.place_in page_bytes address r)

abbrev pub place_told : Result model.Place Refusal → Result Place Refusal
place_told (Ok p) = Ok (access_to p)
place_told (Err e) = Err e
