use Rattle.std.proofs.Common.{ℕ, List, Some, true, map, set, ap, ◌∙◌}
use Rattle.std.proofs.lemmas.List.{map-set}
use Rattle.vm_port.specs.Mapping.{slot_seen}
use Rattle.vm_port.proofs.memory.pages.put_slot.Goals as goal

pub returns-clause-put : goal.returns-clause-put
returns-clause-put c =
    map-set slot_seen c.args.slots.now.items c.args.slot (record { is_held = true; bytes = c.copy_from_slice.new.self })
    ∙ ap (λ (x : List ℕ). set (map slot_seen c.args.slots.now.items) c.args.slot (Some x)) c.copy_from_slice.ensures.items
