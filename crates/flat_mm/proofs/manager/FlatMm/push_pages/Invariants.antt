use Rattle.std.proofs.Common.{◌+◌, Ok}
use Rattle.vm_ids.specs.Held.{segments_of}
use Rattle.vm_ids.specs.declared.numbers.PageNo.{PageNo}
use Rattle.vm_model.specs.Synchronised.{ArePushed}
use Rattle.flat_mm.specs.Extents.{IsPushed}
use Rattle.flat_mm.specs.Manager.{machine_in}
use Rattle.flat_mm.proofs.manager.FlatMm.push_pages.Given as goal

abbrev pub invariant-loop-i : goal.invariant-loop-i
invariant-loop-i g l =
    IsPushed {E = PageNo} g.M.Mapper l.initial.mapper l.fn.self l.mapper l.self (Ok (tt {0}))
    × ArePushed (machine_in l.fn.self) (segments_of (g.M.Mapper.held l.mapper)) l.extent.cache.0 l.extent.first.0 (l.extent.first.0 + l.i)
