use Rattle.std.proofs.Common.{List, map, ap, sym, ◌∙◌}
use Rattle.std.specs.Prelude.{is_some}
use Rattle.vm_port.specs.Mapping.{MapperInMemory, page_in, pages_seen}
use Rattle.vm_port.specs.declared.memory.pages.Segment.{Segment}
use Rattle.vm_port.proofs.Holding.{page_held, page_is_held, page_length}
use Rattle.vm_port.proofs.memory.mapper.MemoryMapperMapper.pull_in.Goals as goal

pub read_page-requires-clause-there : goal.read_page-requires-clause-there
read_page-requires-clause-there c =
    let seg = c.args.seg.0 in
    let page = c.args.page.0 in
    ap (λ (xs : List Segment). is_some (page_in (map pages_seen xs) seg page)) c.deref.ensures.value
    ∙ ap (λ (m : MapperInMemory). is_some (page_in m.segments seg page)) (c.self.view_is ∙ c.may_fail.ensures.after)
    ∙ sym (page_is_held c.args.self.now seg page) ∙ c.requires.there

pub returns-clause-bytes : goal.returns-clause-bytes
returns-clause-bytes c =
    let seg = c.args.seg.0 in
    let page = c.args.page.0 in
    let same = c.self.view_is ∙ c.may_fail.ensures.after in
    let read = sym (ap (λ (xs : List Segment). page_in (map pages_seen xs) seg page) c.deref.ensures.value) ∙ c.read_page.ensures in
    let all = page_length c.self.inside.segments.items seg page c.self.inside.page_bytes c.read_page.new.into c.self.invariant.pages read in
    page_held c.args.self.now seg page c.read_page.new.into (sym (ap (λ (m : MapperInMemory). page_in m.segments seg page) same) ∙ read) (all ∙ ap (λ (m : MapperInMemory). m.page_bytes) same)
