use Rattle.std.proofs.Common.{List, map, ap, sym, ◌∙◌}
use Rattle.std.specs.Prelude.{is_some}
use Rattle.vm_port.specs.Mapping.{MapperInMemory, page_in, pages_seen}
use Rattle.vm_port.specs.declared.memory.pages.Segment.{Segment}
use Rattle.vm_port.proofs.Holding.{page_held, page_is_held, page_length}
use Rattle.vm_port.proofs.memory.mapper.MemoryMapper.page.Goals as goal

pub unreachable-requires : goal.unreachable-requires
unreachable-requires c =
    let seg = c.args.seg.0 in
    let page = c.args.page.0 in
    let none = ap is_some c.in-None.ensures
    ∙ ap (λ (xs : List Segment). is_some (page_in (map pages_seen xs) seg page)) c.deref.ensures.value
    ∙ ap (λ (m : MapperInMemory). is_some (page_in m.segments seg page)) c.self.view_is
    ∙ sym (page_is_held c.args.self.now seg page) ∙ c.requires in
    absurd (cc none)

pub returns : goal.returns
returns c =
    let seg = c.args.seg.0 in
    let page = c.args.page.0 in
    let bytes = c.in-Some.bytes.now in
    let read = sym (ap (λ (xs : List Segment). page_in (map pages_seen xs) seg page) c.deref.ensures.value) ∙ sym c.in-Some.ensures in
    let all = page_length c.self.inside.segments.items seg page c.self.inside.page_bytes bytes c.self.invariant.pages read in
    sym (page_held c.args.self.now seg page bytes (sym (ap (λ (m : MapperInMemory). page_in m.segments seg page) c.self.view_is) ∙ read) (all ∙ ap (λ (m : MapperInMemory). m.page_bytes) c.self.view_is))
