use Rattle.tree_merge.proofs.copying.link_more.Goals as goal

pub adopt_many-requires-clause-held : goal.adopt_many-requires-clause-held
adopt_many-requires-clause-held c = λ k less. c.fresh_working_over-working.ensures.stays _ (c.requires.sources k less)

pub hang_many-requires-clause-held : goal.hang_many-requires-clause-held
hang_many-requires-clause-held c = λ k less. c.adopt_many.ensures.stays _ (c.fresh_working_over-working.ensures.stays _ (c.requires.nodes k less))

pub hang_many-requires-2-clause-held : goal.hang_many-requires-2-clause-held
hang_many-requires-2-clause-held c = λ k less.
    c.hang_many.ensures.stays _ (c.adopt_many.ensures.stays _ (c.fresh_working_over-working.ensures.stays _ (c.requires.histories k less)))
