use Rattle.tree_merge.proofs.copying.link_one.Goals as goal

pub hang_many-requires-clause-held : goal.hang_many-requires-clause-held
hang_many-requires-clause-held c = λ k less. c.adopt_many.ensures.stays _ (c.requires.child k less)
