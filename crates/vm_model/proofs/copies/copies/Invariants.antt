use Rattle.std.proofs.Common.{◌≡◌, map, take}
use Rattle.vm_model.proofs.copies.copies.Given as goal

abbrev pub invariant-loop-page : goal.invariant-loop-page
invariant-loop-page l = map (λ p. p.items) l.all.items ≡ map (λ p. p.items) (take l.page-index l.pages)
