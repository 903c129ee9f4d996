use Rattle.std.proofs.Common.{List, map, ap, sym, ◌∙◌}
use Rattle.std.specs.Prelude.{is_some}
use Rattle.vm_port.specs.Mapping.{MapperInMemory, page_in, pages_seen}
use Rattle.vm_port.specs.declared.memory.pages.Segment.{Segment}
use Rattle.vm_port.proofs.Holding.{is_seen, page_is_held}
use Rattle.vm_port.proofs.memory.mapper.MemoryMapper.has_page.Goals as goal

pub returns : goal.returns
returns c =
    let seg = c.args.seg.0 in
    let page = c.args.page.0 in
    c.is_some.ensures ∙ is_seen (λ p. p.now) c.page_in.result _ c.page_in.ensures
    ∙ ap (λ (xs : List Segment). is_some (page_in (map pages_seen xs) seg page)) c.deref.ensures.value
    ∙ ap (λ (m : MapperInMemory). is_some (page_in m.segments seg page)) c.self.view_is
    ∙ sym (page_is_held c.args.self.now seg page)
