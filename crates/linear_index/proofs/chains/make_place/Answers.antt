use Rattle.std.proofs.Common.{List, sym, subst}
use Rattle.linear_index.specs.declared.cell.Cell.{Cell}
use Rattle.linear_index.specs.Buckets.{IsHashed}
use Rattle.linear_index.proofs.Buckets.{covered}
use Rattle.linear_index.proofs.chains.make_place.Goals as goal

pub add_bucket-requires-clause-hashed : goal.add_bucket-requires-clause-hashed
add_bucket-requires-clause-hashed c = subst (λ (l : List Cell). IsHashed c.args.heads.now.items l c.args.mask) (sym c.deref_mut.ensures.value) (covered c.args.heads.now.items c.args.cells.now.items c.cover.new.cells.items c.args.mask c.requires.hashed c.cover.ensures.same)

pub returns-else-len-clause-hashed : goal.returns-else-len-clause-hashed
returns-else-len-clause-hashed c = covered c.args.heads.now.items c.args.cells.now.items c.cover.new.cells.items c.args.mask c.requires.hashed c.cover.ensures.same
