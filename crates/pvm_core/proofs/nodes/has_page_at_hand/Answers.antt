-- The owner's page is what the node reads.
use Rattle.std.proofs.Common.{sym, ◌∙◌}
use Rattle.pvm_core.proofs.Accesses.AtHand.{owner_hand}
use Rattle.pvm_core.proofs.nodes.has_page_at_hand.Goals as goal

pub returns : goal.returns
returns c = c.has_own_at_hand.ensures ∙ sym (owner_hand c.args.caches.now c.requires.nodes.sound c.requires.nodes.consistent.shaped c.args.node c.owner_of.result c.requires.node (record { held = c.owner_of.ensures.held; name = c.owner_of.ensures.owner }))
