use Rattle.std.proofs.Common.{◌*◌, arith}
use Rattle.stretches.proofs.Slots.Entry.{part_set}
use Rattle.stretches.proofs.leaf.Leaf.set.Goals as goal

pub returns-clause-entries : goal.returns-clause-entries
returns-clause-entries g c =
    let leaf = c.args.self in
    part_set c.args.cells.now (128 * leaf.slot) leaf.len c.args.place c.args.entry (omega (arith, c.requires.memory.slot, c.requires.memory.len)) c.requires.place
