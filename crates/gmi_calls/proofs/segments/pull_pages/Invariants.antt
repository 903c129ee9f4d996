use Rattle.std.proofs.Common.{◌≡◌, Ok}
use Rattle.vm_port.specs.declared.traits.failed.Failed.{Failed}
use Rattle.gmi_calls.specs.Reaching.{Reached}
use Rattle.gmi_calls.proofs.Pulling.{IsFilled}
use Rattle.gmi_calls.proofs.segments.pull_pages.Given as goal

abbrev pub invariant-loop-i : goal.invariant-loop-i
invariant-loop-i g l =
    IsFilled (g.M.Mapper.held l.initial.mapper) l.seg.0 l.first l.i l.initial.pages l.pages
    × (g.M.Mapper.held l.mapper ≡ g.M.Mapper.held l.initial.mapper)
    × Reached {E = Failed} (g.M.Mapper.counts l.initial.mapper) (g.M.Mapper.counts l.mapper) (Ok (tt {0}))
    × (g.M.Mapper.page_bytes l.mapper ≡ g.M.Mapper.page_bytes l.initial.mapper)
