-- The items of a chain.
use Rattle.vm_ids.specs.declared.node_name.NodeName.{NodeName}
use Rattle.vm_ids.specs.declared.chain.ChainItem.{ChainItem}
use Rattle.vm_ids.specs.Forest.Nodes.{Forest, child_count}

-- a node's name, and the number of its children
abbrev pub item_for : {P : Type 0} → Forest P → NodeName → ChainItem
item_for f x = record { name = x; children = child_count f x }
