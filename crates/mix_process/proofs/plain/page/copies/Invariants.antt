use Rattle.std.proofs.Common.{◌≡◌, take}
use Rattle.mix_process.proofs.plain.page.copies.Given as goal

abbrev pub invariant-loop-page : goal.invariant-loop-page
invariant-loop-page l = l.all.items ≡ take l.page-index l.pages
