use Rattle.std.proofs.Common.{◌≡◌, None, length, map, replicate}
use Rattle.std.specs.List.{All}
use Rattle.vm_port.specs.Mapping.{slot_seen}
use Rattle.vm_port.proofs.memory.pages.empty_slots.Given as goal

abbrev pub invariant-loop-slot : goal.invariant-loop-slot
invariant-loop-slot l = (map slot_seen l.all.items ≡ replicate l._slot None) × All (λ s. length s.bytes.items ≡ l.page_bytes) l.all.items
