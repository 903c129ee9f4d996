-- How regions are seen, and what searches among them find.
use Rattle.std.specs.Prelude.{◌≡◌, ◌≢◌, ℕ, ◌<◌, List, length, slice_index_or}
use Rattle.vm_model.specs.Machine as model
use Rattle.regions.specs.declared.region.Region.{Region}

abbrev pub region_seen : Region → model.Region
region_seen r = record {
  number = r.number.0;
  start = r.address;
  pages = r.pages;
  may_write = r.prot.write;
  cache = r.cache.0;
  offset = r.first.0;
  locked = r.locked;
}

abbrev pub number_at : List Region → ℕ → Region → ℕ
number_at regions k default = (region_seen (slice_index_or regions k default)).number

-- the region with the number stands at this place, and no other has it
pub record IsPlaceOf (number : ℕ) (regions : List Region) (place : ℕ) : Type 0 where
  pub within : place < length regions
  pub here : (d : Region) → number_at regions place d ≡ number
  pub others : (k : ℕ) (d : Region) → k < length regions → k ≢ place
      → number_at regions k d ≢ number
