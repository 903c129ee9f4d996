use Rattle.tree_merge.proofs.settling_many.are_different.Goals as goal

pub returns-then-are_beside : goal.returns-then-are_beside
returns-then-are_beside c = λ is. record {
  children = c.are_apart.ensures.apart is;
  parents = c.are_beside.ensures.nodes c.if-are_beside.true;
  beside = c.are_beside.ensures.children c.if-are_beside.true;
  short = c.are_apart.ensures.short is;
  short_parents = c.are_beside.ensures.short c.if-are_beside.true;
}
