use Rattle.std.proofs.Common.{◌≡◌, ◌++◌, replicate}
use Rattle.vm_ids.specs.declared.numbers.TheConstants.{PAGE}
use Rattle.interface_callers.proofs.Words.{zero_page}
use Rattle.mix_process.proofs.plain.page.add_zeros.Given as goal

abbrev pub invariant-loop-page : goal.invariant-loop-page
invariant-loop-page l = l.pages.items ≡ l.fn.pages.items ++ replicate l._page (zero_page PAGE)
