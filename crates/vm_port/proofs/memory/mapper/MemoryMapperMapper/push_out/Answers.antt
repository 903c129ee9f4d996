use Rattle.std.proofs.Common.{map, ap, sym, ◌∙◌}
use Rattle.std.specs.Prelude.{IsSome, is_some}
use Rattle.vm_ids.specs.Held.{with_page}
use Rattle.vm_port.specs.Mapping.{MapperInMemory, denied_seen, held_of, page_in, pages_seen, slot_seen}
use Rattle.vm_port.proofs.Holding.{page_is_held, put_page_held}
use Rattle.vm_port.proofs.memory.mapper.MemoryMapperMapper.push_out.Goals as goal

pub put_page-requires-clause-there : goal.put_page-requires-clause-there
put_page-requires-clause-there c =
    let seg = c.args.seg.0 in
    let page = c.args.page.0 in
    ap (λ (m : MapperInMemory). is_some (page_in m.segments seg page)) (c.self.view_is ∙ c.may_fail.ensures.after) ∙ sym (page_is_held c.args.self.now seg page) ∙ c.requires.there

pub returns-clause-held : goal.returns-clause-held
returns-clause-held c =
    let seg = c.args.seg.0 in
    let page = c.args.page.0 in
    let i = c.self.inside in
    let v : MapperInMemory = record { segments = map pages_seen i.segments.items; slots = map slot_seen i.slots.items; denied = denied_seen i.denied.items; page_bytes = i.page_bytes; fails = i.fails.items; calls = i.calls; counts = record { faults = i.faults; pulls = i.pulls; pushes = i.pushes } } in
    let same = c.self.view_is ∙ c.may_fail.ensures.after in
    let there : IsSome (page_in v.segments seg page) = ap (λ (m : MapperInMemory). is_some (page_in m.segments seg page)) same ∙ sym (page_is_held c.args.self.now seg page) ∙ c.requires.there in
    ap (λ xs. held_of (record v { segments = xs })) c.put_page.ensures.put
    ∙ put_page_held v seg page c.args.from.now there (c.requires.room ∙ sym (ap (λ (m : MapperInMemory). m.page_bytes) same))
    ∙ ap (λ (m : MapperInMemory). with_page seg page c.args.from.now (held_of m)) same
