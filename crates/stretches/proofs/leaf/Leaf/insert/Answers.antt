use Rattle.std.proofs.Common.{ℕ, ◌+◌, ◌*◌, get_or, ap, ◌∙◌, arith}
use Rattle.stretches.proofs.Slots.Entry.{part_insert}
use Rattle.stretches.proofs.leaf.Leaf.insert.Goals as goal

pub returns-clause-entries : goal.returns-clause-entries
returns-clause-entries g c =
    let leaf = c.args.self in
    let old = c.args.cells.now in
    let start = 128 * leaf.slot in
    let moved = c.copy_within.ensures.by_index in
    part_insert old c.copy_within.new.self start leaf.len c.args.place c.args.entry (omega (arith, c.requires.memory.slot, c.requires.room)) c.requires.place c.copy_within.ensures.len
    (λ i d less. moved.1 i d (omega (arith, less)))
    (λ i d from to. moved.0 (i + 1) d (omega (arith, from)) (omega (arith, from, to, c.requires.place))
    ∙ ap (λ (q : ℕ). get_or old q d) (omega (arith, from)))
