use Rattle.std.proofs.Common.{List, map, ap, sym, ◌∙◌}
use Rattle.std.specs.Prelude.{is_some, slice_get}
use Rattle.vm_port.specs.Mapping.{MapperInMemory, slot_seen}
use Rattle.vm_port.specs.declared.memory.pages.Slot.{Slot}
use Rattle.vm_port.proofs.Finding.{flat}
use Rattle.vm_port.proofs.Holding.{slot_held, slot_is_held, slot_length}
use Rattle.vm_port.proofs.memory.mapper.MemoryMapperMapper.swap_in.Goals as goal

pub read_slot-requires-clause-there : goal.read_slot-requires-clause-there
read_slot-requires-clause-there c =
    let slot = c.args.slot.0 in
    ap (λ (xs : List Slot). is_some (flat (slice_get (map slot_seen xs) slot))) c.deref.ensures.value
    ∙ ap (λ (m : MapperInMemory). is_some (flat (slice_get m.slots slot))) (c.self.view_is ∙ c.may_fail.ensures.after)
    ∙ sym (slot_is_held c.args.self.now slot) ∙ c.requires.there

pub returns-clause-bytes : goal.returns-clause-bytes
returns-clause-bytes c =
    let slot = c.args.slot.0 in
    let same = c.self.view_is ∙ c.may_fail.ensures.after in
    let read = sym (ap (λ (xs : List Slot). flat (slice_get (map slot_seen xs) slot)) c.deref.ensures.value) ∙ c.read_slot.ensures in
    let all = slot_length c.self.inside.slots.items slot c.self.inside.page_bytes c.read_slot.new.into c.self.invariant.rooms read in
    slot_held c.args.self.now slot c.read_slot.new.into (sym (ap (λ (m : MapperInMemory). flat (slice_get m.slots slot)) same) ∙ read) (all ∙ ap (λ (m : MapperInMemory). m.page_bytes) same)
