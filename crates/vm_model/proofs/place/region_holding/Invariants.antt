use Rattle.std.proofs.Common.{◌≡◌, drop, map}
use Rattle.vm_model.specs.Place.{region_at}
use Rattle.vm_model.specs.Seen.{region_seen}
use Rattle.vm_model.proofs.place.region_holding.Given as goal

abbrev pub invariant-loop-region : goal.invariant-loop-region
invariant-loop-region l = region_at l.page_bytes l.address (map region_seen (drop l.region-index l.regions)) ≡ region_at l.page_bytes l.address (map region_seen l.regions)
