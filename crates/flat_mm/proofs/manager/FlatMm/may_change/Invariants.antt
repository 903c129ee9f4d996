use Rattle.std.proofs.Common.{◌+◌, Ok}
use Rattle.vm_ids.specs.declared.numbers.PageNo.{PageNo}
use Rattle.gmi_calls.specs.Reaching.{Asked}
use Rattle.flat_mm.specs.Manager.{machine_in}
use Rattle.flat_mm.proofs.WriteAccess.{NonePassed}
use Rattle.flat_mm.proofs.manager.FlatMm.may_change.Given as goal

abbrev pub invariant-loop-i : goal.invariant-loop-i
invariant-loop-i g l =
    NonePassed (g.M.Mapper.held l.initial.mapper) (machine_in l.self) l.cache.0 l.first.0 (l.first.0 + l.i)
    × Asked {E = PageNo} g.M.Mapper l.initial.mapper l.mapper (Ok (tt {0}))
