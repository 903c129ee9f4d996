use Rattle.std.proofs.Common.{ap}
use Rattle.vm_ids.specs.Forest.Nodes.{is_live}
use Rattle.tree_merge.proofs.Leaving.Detached.{page_held, page_name}
use Rattle.tree_merge.proofs.PagesAlone.Retired.{node_alone}
use Rattle.tree_merge.proofs.detaching.retire.Goals as goal

pub retire_node-requires-clause-held : goal.retire_node-requires-clause-held
retire_node-requires-clause-held c = page_held c.args.caches.now c.requires.sound c.args.cache c.args.page _ c.node_of-node.ensures

pub retire_node-requires-clause-live : goal.retire_node-requires-clause-live
retire_node-requires-clause-live c = ap is_live (page_name c.args.caches.now c.requires.sound c.args.cache c.args.page _ c.node_of-node.ensures)

pub returns-clause-alone : goal.returns-clause-alone
returns-clause-alone c =
    let e = c.retire_node.ensures in
    node_alone c.args.caches.now c.retire_node.new.caches c.args.cache c.args.page c.retire_node.result c.requires.sound c.node_of-node.result c.node_of-node.ensures e.forest e.sound e.retired

pub returns-clause-forest : goal.returns-clause-forest
returns-clause-forest c = (returns-clause-alone c).forest

pub returns-clause-sound : goal.returns-clause-sound
returns-clause-sound c = (returns-clause-alone c).sound
