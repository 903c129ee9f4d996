use Rattle.std.proofs.Common.{◌≡◌, ◌<◌, ◌^◌, length, map, take}
use Rattle.std.specs.List.{All}
use Rattle.vm_port.specs.Mapping.{pages_of, pages_seen}
use Rattle.vm_port.proofs.memory.pages.segments_of.Given as goal

abbrev pub invariant-loop-bytes : goal.invariant-loop-bytes
invariant-loop-bytes l = (map pages_seen l.all.items ≡ map (λ s. pages_of l.page_bytes s.items) (take l.bytes-index l.segments))
    × All (λ s. All (λ p. length p.items ≡ l.page_bytes) s.pages.items) l.all.items
    × All (λ s. length s.pages.items < 2 ^ 32) l.all.items
