-- Which nodes stand below a node.
use Rattle.std.specs.Prelude.{◌≡◌, Some}
use Rattle.vm_ids.specs.declared.node_name.NodeName.{NodeName}
use Rattle.vm_ids.specs.Forest.Nodes.{Forest, parent}

-- x is y, or stands below it
pub data IsUnder {P : Type 0} (f : Forest P) : NodeName → NodeName → Type 0 where
  itself : {x : NodeName} → IsUnder f x x
  below : {x p y : NodeName} → parent f x ≡ Some p → IsUnder f p y → IsUnder f x y
