use Rattle.std.proofs.Common.{◌≡◌, ◌-◌, ◌++◌, length, map}
use Rattle.std.specs.List.{All}
use Rattle.vm_port.specs.Mapping.{cut}
use Rattle.vm_port.proofs.memory.pages.cut.Given as goal

abbrev pub invariant-loop-page : goal.invariant-loop-page
invariant-loop-page l = (map (λ p. p.items) l.all.items ++ cut (l.pages - l._page) l.page_bytes l.rest ≡ cut l.pages l.page_bytes l.bytes)
    × All (λ p. length p.items ≡ l.page_bytes) l.all.items
    × (length l.all.items ≡ l._page)
