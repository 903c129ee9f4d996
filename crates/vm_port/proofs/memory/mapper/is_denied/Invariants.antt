use Rattle.std.proofs.Common.{◌≡◌, drop}
use Rattle.vm_ids.specs.Denying.{denies}
use Rattle.vm_port.specs.Mapping.{denied_seen}
use Rattle.vm_port.proofs.memory.mapper.is_denied.Given as goal

abbrev pub invariant-loop-pair : goal.invariant-loop-pair
invariant-loop-pair l = denies (denied_seen (drop l.pair-index l.denied)) l.seg.0 l.page.0 ≡ denies (denied_seen l.denied) l.seg.0 l.page.0
