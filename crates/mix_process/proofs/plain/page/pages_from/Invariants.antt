use Rattle.std.proofs.Common.{◌≡◌, map, take}
use Rattle.mix_process.proofs.plain.page.pages_from.Given as goal

abbrev pub invariant-loop-page : goal.invariant-loop-page
invariant-loop-page l = l.all.items ≡ map (λ p. p.items) (take l.page-index l.pages)
