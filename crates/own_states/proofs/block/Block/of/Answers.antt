use Rattle.own_states.proofs.block.Block.of.Goals as goal

pub returns : goal.returns
returns c = c.write.ensures
