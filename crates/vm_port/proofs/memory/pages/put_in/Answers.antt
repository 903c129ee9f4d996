use Rattle.std.proofs.Common.{List, ℕ, set, ap, ◌∙◌}
use Rattle.std.proofs.lemmas.List.{map-set}
use Rattle.vm_port.specs.Mapping.{pages_seen}
use Rattle.vm_port.proofs.memory.pages.put_in.Goals as goal

pub returns-clause-put : goal.returns-clause-put
returns-clause-put c =
    map-set (λ p. p.items) c.args.segment.now.pages.items c.args.page c.copy_from_slice.new.self
    ∙ ap (λ (x : List ℕ). set (pages_seen c.args.segment.now) c.args.page x) c.copy_from_slice.ensures.items
