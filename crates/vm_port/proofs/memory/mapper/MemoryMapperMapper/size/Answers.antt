use Rattle.std.proofs.Common.{◌==◌, ◌-◌, cond, List, None, length, map, ap, ◌∙◌}
use Rattle.std.specs.Prelude.{slice_get, option_map}
use Rattle.vm_port.specs.Mapping.{MapperInMemory, pages_seen}
use Rattle.vm_port.specs.declared.memory.pages.Segment.{Segment}
use Rattle.vm_port.proofs.Holding.{size_held}
use Rattle.vm_port.proofs.memory.mapper.MemoryMapperMapper.size.Goals as goal

pub returns-clause-pages : goal.returns-clause-pages
returns-clause-pages c =
    let seg = c.args.seg.0 in
    c.size_of.ensures
    ∙ ap (λ (xs : List Segment). cond (seg == 0) None (option_map length (slice_get (map pages_seen xs) (seg - 1)))) c.deref.ensures.value
    ∙ ap (λ (m : MapperInMemory). cond (seg == 0) None (option_map length (slice_get m.segments (seg - 1)))) (c.self.view_is ∙ c.may_fail.ensures.after)
    ∙ size_held c.args.self.now seg
