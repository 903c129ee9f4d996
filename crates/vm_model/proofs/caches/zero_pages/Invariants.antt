use Rattle.std.proofs.Common.{◌≡◌, replicate, map}
use Rattle.vm_model.specs.Machine.{zero_page}
use Rattle.vm_model.proofs.caches.zero_pages.Given as goal

abbrev pub invariant-loop-page : goal.invariant-loop-page
invariant-loop-page l = map (λ p. p.items) l.all.items ≡ replicate l._page (zero_page l.bytes)
