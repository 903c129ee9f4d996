use Rattle.std.proofs.Common.{map, ◌<◌, length, ap, sym, ◌∙◌, arith}
use Rattle.std.proofs.lemmas.List.{length-map}
use Rattle.vm_ids.specs.Held.{with_slot}
use Rattle.vm_port.specs.Mapping.{MapperInMemory, denied_seen, held_of, pages_seen, slot_seen}
use Rattle.vm_port.proofs.Holding.{put_slot_held}
use Rattle.vm_port.proofs.memory.mapper.MemoryMapperMapper.swap_out.Goals as goal

pub returns-clause-held : goal.returns-clause-held
returns-clause-held c =
    let slot = c.args.slot.0 in
    let i = c.self-2.inside in
    let v : MapperInMemory = record { segments = map pages_seen i.segments.items; slots = map slot_seen i.slots.items; denied = denied_seen i.denied.items; page_bytes = i.page_bytes; fails = i.fails.items; calls = i.calls; counts = record { faults = i.faults; pulls = i.pulls; pushes = i.pushes } } in
    let same = c.self-2.view_is ∙ c.may_fail.ensures.after in
    let slots = λ (m : MapperInMemory). length m.slots in
    let there : slot < length v.slots = grind (arith, c.in_ok-may_fail.ensures, ap slots same, ap slots c.self.view_is, length-map c.self.inside.slots.items slot_seen, length-map i.slots.items slot_seen, c.len.ensures) in
    ap (λ xs. held_of (record v { slots = xs })) c.put_slot.ensures.put
    ∙ put_slot_held v slot c.args.from.now there (c.requires ∙ sym (ap (λ (m : MapperInMemory). m.page_bytes) same))
    ∙ ap (λ (m : MapperInMemory). with_slot slot c.args.from.now (held_of m)) same
