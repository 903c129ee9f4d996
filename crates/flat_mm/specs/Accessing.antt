-- The place of an access, as the manager finds it.
use Rattle.std.specs.Prelude.{◌≡◌, ◌+◌, ◌≤◌, ℕ, Ok, IsSome}
use Rattle.regions.specs.declared.region.Place as regions
use Rattle.vm_model.specs.Machine.{Region}
use Rattle.vm_model.specs.Place.{Place, place}
use Rattle.flat_mm.specs.Manager.{Manager, machine_in}
use Rattle.flat_mm.specs.Store.{page_at}

-- the machine's place, of which this much is told
abbrev pub place_at : Region → regions.Place → Place
place_at r p = record {
  region = record r { cache = p.cache.0; may_write = p.prot.write };
  page = p.page.0;
  byte = p.at;
}

-- The access is of a page of a live cache, and ends within it.
pub record IsPlacedAt (p : Manager) (actor address bytes : ℕ) (found : regions.Place) : Type 0 where
  pub region : Region
  pub is : place (machine_in p) actor address bytes ≡ Ok (place_at region found)
  pub there : IsSome (page_at p.store.caches found.cache.0 found.page.0)
  pub within : found.at + bytes ≤ p.store.page_bytes
