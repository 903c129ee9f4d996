use Rattle.std.proofs.Common.{List, map, ap, sym, ◌∙◌}
use Rattle.std.specs.Prelude.{is_some, slice_get}
use Rattle.vm_port.specs.Mapping.{MapperInMemory, slot_seen}
use Rattle.vm_port.specs.declared.memory.pages.Slot.{Slot}
use Rattle.vm_port.proofs.Finding.{flat}
use Rattle.vm_port.proofs.Holding.{is_seen, slot_is_held}
use Rattle.vm_port.proofs.memory.mapper.MemoryMapper.has_slot.Goals as goal

pub returns : goal.returns
returns c =
    let slot = c.args.slot.0 in
    c.is_some.ensures ∙ is_seen (λ p. p.now) c.slot_in.result _ c.slot_in.ensures
    ∙ ap (λ (xs : List Slot). is_some (flat (slice_get (map slot_seen xs) slot))) c.deref.ensures.value
    ∙ ap (λ (m : MapperInMemory). is_some (flat (slice_get m.slots slot))) c.self.view_is
    ∙ sym (slot_is_held c.args.self.now slot)
