use Rattle.std.proofs.Common.{ℕ, ◌+◌, ◌*◌, get_or, ap, ◌∙◌, arith}
use Rattle.stretches.proofs.Slots.Entry.{part_append}
use Rattle.stretches.proofs.leaf.Leaf.move_rest.Goals as goal

pub returns-clause-entries : goal.returns-clause-entries
returns-clause-entries g c =
    let leaf = c.args.self in
    let to = c.args.to in
    let old = c.args.cells.now in
    let moved = c.copy_within.ensures.by_index in
    part_append old c.copy_within.new.self (128 * leaf.slot) leaf.len c.args.place (128 * to.slot) to.len (omega (arith, c.requires.memory.slot, c.requires.memory.len)) c.requires.place (omega (arith, c.requires.other.slot, c.requires.room)) c.copy_within.ensures.len
    (λ i d less. moved.1 i d less)
    (λ i d less. moved.0 (128 * to.slot + to.len + i) d (omega arith) (omega (arith, less, c.requires.place))
    ∙ ap (λ (q : ℕ). get_or old q d) (omega arith))
