use Rattle.std.proofs.Common.{◌+◌, Ok}
use Rattle.vm_ids.specs.declared.numbers.PageNo.{PageNo}
use Rattle.gmi_calls.specs.Reaching.{Asked}
use Rattle.gmi_calls.proofs.Asking.{NoneDenied}
use Rattle.gmi_calls.proofs.segments.may_write.Given as goal

abbrev pub invariant-loop-i : goal.invariant-loop-i
invariant-loop-i g l =
    NoneDenied (g.M.Mapper.held l.initial.mapper) l.seg.0 l.first (l.first + l.i)
    × Asked {E = PageNo} g.M.Mapper l.initial.mapper l.mapper (Ok (tt {0}))
