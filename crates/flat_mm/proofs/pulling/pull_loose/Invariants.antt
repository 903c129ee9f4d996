use Rattle.std.proofs.Common.{◌≡◌, Ok}
use Rattle.vm_port.specs.declared.traits.failed.Failed.{Failed}
use Rattle.gmi_calls.specs.Reaching.{Reached}
use Rattle.flat_mm.proofs.Filling.{IsPulling}
use Rattle.flat_mm.proofs.pulling.pull_loose.Given as goal

abbrev pub invariant-loop-i : goal.invariant-loop-i
invariant-loop-i g l =
    IsPulling (g.M.Mapper.held l.initial.mapper) l.seg.0 l.first.0 l.i l.initial.store l.store
    × (g.M.Mapper.held l.mapper ≡ g.M.Mapper.held l.initial.mapper)
    × Reached {E = Failed} (g.M.Mapper.counts l.initial.mapper) (g.M.Mapper.counts l.mapper) (Ok (tt {0}))
    × (g.M.Mapper.page_bytes l.mapper ≡ g.M.Mapper.page_bytes l.initial.mapper)
