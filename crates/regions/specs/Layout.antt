-- What the fields of a `RegionMap` stand for. No public clause cites this module.
use Rattle.std.specs.Prelude.{◌-◌, ◌≤◌, ◌^◌, length, map}
use Rattle.stretches.specs.Leaves.{entries}
use Rattle.regions.specs.AddressSpace.{AddressSpace, AreInOrder}
use Rattle.regions.specs.Seen.{region_seen}
use Rattle.regions.specs.declared.map.RegionMap.TheInside.{Inside}

abbrev pub space_seen : Inside → AddressSpace
space_seen a = record {
  page_bytes = a.page_bytes;
  spare = a.regions.places - length (entries a.regions);
  regions = map region_seen (entries a.regions);
}

-- a page has 1 to 65,536 bytes, and the regions are in order
pub record IsSound (a : Inside) : Type 0 where
  pub some : 1 ≤ a.page_bytes
  pub most : a.page_bytes ≤ 2 ^ 16
  pub order : AreInOrder a.page_bytes 0 (map region_seen (entries a.regions))
