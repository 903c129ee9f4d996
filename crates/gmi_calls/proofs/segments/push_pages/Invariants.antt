use Rattle.std.proofs.Common.{◌≡◌, ◌+◌, Ok}
use Rattle.vm_ids.specs.Held.{segments_of}
use Rattle.vm_ids.specs.declared.numbers.PageNo.{PageNo}
use Rattle.vm_model.specs.Synchronised.{ArePushed}
use Rattle.gmi_calls.specs.Backing.{IsReady}
use Rattle.gmi_calls.specs.Reaching.{Pushed}
use Rattle.gmi_calls.proofs.segments.push_pages.Given as goal

abbrev pub invariant-loop-i : goal.invariant-loop-i
invariant-loop-i g l =
    Pushed {E = PageNo} l.machine (g.M.Mapper.held l.initial.mapper) (g.M.Mapper.held l.mapper) (g.M.Mapper.counts l.initial.mapper) (g.M.Mapper.counts l.mapper) (Ok (tt {0}))
    × ArePushed l.machine (segments_of (g.M.Mapper.held l.mapper)) l.extent.cache.0 l.extent.first.0 (l.extent.first.0 + l.i)
    × IsReady l.machine (g.M.Mapper.held l.mapper)
    × (g.M.Mapper.page_bytes l.mapper ≡ g.M.Mapper.page_bytes l.initial.mapper)
