use Rattle.history_tree.proofs.Owners.{owner_held, owner_named, owner_there, page_there}
use Rattle.history_tree.proofs.owner.owner_of.Goals as goal

pub owner-requires : goal.owner-requires
owner-requires c = owner_there c.args.caches.now c.requires.sound c.requires.shaped c.args.node c.requires.node

pub returns-clause-held : goal.returns-clause-held
returns-clause-held c = owner_held c.args.caches.now c.requires.sound c.requires.shaped c.args.node c.owner.result c.requires.node c.owner.ensures

pub returns-clause-owner : goal.returns-clause-owner
returns-clause-owner c = owner_named c.args.caches.now c.requires.sound c.requires.shaped c.args.node c.owner.result c.requires.node c.owner.ensures

pub returns-clause-own : goal.returns-clause-own
returns-clause-own c = page_there _ c.owner.ensures.owns
